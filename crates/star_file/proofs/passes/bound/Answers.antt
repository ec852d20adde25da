use Rattle.star_tree.specs.Whole.{program_of}
use Rattle.star_file.proofs.Telling.{names_pass}
use Rattle.star_file.proofs.passes.bound.Goals as goal

pub returns-clause-passes : goal.returns-clause-passes
returns-clause-passes c = names_pass (program_of c.args.program) c.in_ok-builtins.builtins c.resolve.result c.in_ok-builtins.ensures c.resolve.ensures.known c.resolve.ensures.unknown
