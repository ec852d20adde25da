use Rattle.std.proofs.Common.{◌≡◌, ℕ, drop, nat_eq}
use Rattle.indexmap.specs.IndexMap.{get}
use Rattle.star_functions.specs.Known.{blocks_in, files_of, known}
use Rattle.star_functions.specs.Table.{code_or}
use Rattle.star_functions.proofs.functions.functions_of.Given as goal

abbrev pub invariant-loop-program : goal.invariant-loop-program
invariant-loop-program l = (f k : ℕ) → code_or f k (get nat_eq l.files f) (known (files_of (blocks_in (drop l.program-index l.programs))) f k) ≡ known (files_of (blocks_in l.programs)) f k
