use Rattle.std.proofs.Common.{◌≡◌, ℕ, drop, nat_eq}
use Rattle.std.specs.Option.{option_map}
use Rattle.code_spec.specs.Options.{or_else}
use Rattle.indexmap.specs.IndexMap.{get}
use Rattle.star_functions.specs.Numbered.{first_with}
use Rattle.star_functions.specs.View.{all_of, code_of}
use Rattle.star_functions.proofs.functions.by_number.Given as goal

abbrev pub invariant-loop-numbered : goal.invariant-loop-numbered
invariant-loop-numbered l =
    (file k : ℕ) → or_else (option_map (code_of file) (option_map (λ f. f.code) (get nat_eq l.by_number k))) (first_with k (all_of file (drop l.numbered-index l.numbered-items))) ≡ first_with k (all_of file l.numbered-items)
