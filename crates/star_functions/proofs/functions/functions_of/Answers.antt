use Rattle.std.proofs.Common.{◌+◌, drop, nat_eq, sym, ap, ◌∙◌, ◌∷◌}
use Rattle.std.proofs.lemmas.List.{drop_all, drop_more}
use Rattle.indexmap.specs.IndexMap.{get}
use Rattle.star_functions.proofs.Files.{all_found}
use Rattle.star_functions.specs.Known.{blocks_in, files_of, known}
use Rattle.star_functions.specs.Table.{code_in, code_or, function_in}
use Rattle.star_functions.proofs.functions.functions_of.Goals as goal

pub loop-program-preserved : goal.loop-program-preserved
loop-program-preserved c = λ f k.
    let at = c.loop-program.program-index in
    let xs = c.args.programs.now in
    let x = c.program-item.result in
    c.in_ok-put.ensures f k (known (files_of (blocks_in (drop (at + 1) xs))) f k)
    ∙ (λ i. code_or f k (get nat_eq c.loop-program.files f) (known (files_of (blocks_in ((ap (λ y. y ∷ drop (at + 1) xs) c.program-item.is ∙ sym (drop_more xs at x c.loop-program-test.true)) i))) f k))
    ∙ c.loop-program.invariant f k

pub returns : goal.returns
returns c = λ file k.
    let files = c.loop-program.files in
    (λ i. code_in file (function_in file k (c.in_ok-files.ensures.ok i)))
    ∙ sym (all_found file k (get nat_eq files file))
    ∙ (λ i. code_or file k (get nat_eq files file) (known (files_of (blocks_in (sym (drop_all c.loop-program.program-index c.args.programs.now c.loop-program-test.false) i))) file k))
    ∙ c.loop-program.invariant file k
