use Rattle.star_functions.proofs.Finding.{found_then}
use Rattle.star_functions.proofs.blocks.find_in_binding.Goals as goal

pub returns : goal.returns
returns c = λ file. found_then file c.find_in_expr-2.result c.args.found.now c.find_in_expr.new.found c.find_in_expr-2.new.found _ _ (c.in_ok-find_in_expr.ensures file) (c.find_in_expr-2.ensures file)
