use Rattle.star_tree.specs.Whole.{program_of}
use Rattle.template_tree.specs.View.{template_of}
use Rattle.template_program.proofs.Passing.{built_whole, one_unbuilt}
use Rattle.template_program.proofs.passes.compile.Goals as goal

pub returns-in-None-clause-program : goal.returns-in-None-clause-program
returns-in-None-clause-program c =
    built_whole (template_of c.args.template) (program_of c.in_ok-resolved.resolved.program) c.in_ok-resolved.ensures.program c.first_unbuilt-unbuilt.result c.first_unbuilt-unbuilt.ensures c.a_code_reader_exists.ensures c.in-None.is

pub returns-in-Some-clause-program : goal.returns-in-Some-clause-program
returns-in-Some-clause-program c =
    one_unbuilt (template_of c.args.template) (program_of c.in_ok-resolved.resolved.program) c.in_ok-resolved.ensures.program c.first_unbuilt-unbuilt.result c.first_unbuilt-unbuilt.ensures c.in-Some.place c.new.result c.in-Some.is c.new.ensures
