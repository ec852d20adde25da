use Rattle.std.proofs.Common.{ap, sym, ◌∙◌}
use Rattle.star_functions.proofs.Finding.{In, found_same}
use Rattle.star_functions.specs.Numbered.{part_functions}
use Rattle.star_tree.specs.Whole.{part_of}
use Rattle.star_functions.proofs.blocks.find_in_part.Goals as goal

pub returns-in-Note : goal.returns-in-Note
returns-in-Note c = λ file.
    found_same file c.find_in_exprs.result c.args.found.now c.find_in_exprs.new.found _ _ (c.find_in_exprs.ensures file) (ap (λ o. part_functions (part_of file o)) c.in-Note.is)

pub returns-in-KeyFrom : goal.returns-in-KeyFrom
returns-in-KeyFrom c = λ file.
    found_same file c.find_in_expr.result c.args.found.now c.find_in_expr.new.found _ _ (c.find_in_expr.ensures file)
    (ap (λ o. part_functions (part_of file o)) c.in-KeyFrom.is ∙ ap (In file) (sym c.get.ensures))

pub returns-in-ValueFrom : goal.returns-in-ValueFrom
returns-in-ValueFrom c = λ file.
    found_same file c.find_in_expr-in-ValueFrom.result c.args.found.now c.find_in_expr-in-ValueFrom.new.found _ _ (c.find_in_expr-in-ValueFrom.ensures file)
    (ap (λ o. part_functions (part_of file o)) c.in-ValueFrom.is ∙ ap (In file) (sym c.get-in-ValueFrom.ensures))
