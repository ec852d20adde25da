use Rattle.std.proofs.Common.{ap, sym, ◌∙◌}
use Rattle.star_tree.specs.Whole.{instruction_of}
use Rattle.star_resolve.specs.Gathered.{begun_by, gathered_of, with_function}
use Rattle.star_resolve.proofs.Gathering.{gathered_same}
use Rattle.star_resolve.proofs.gather.begin.Goals as goal

pub returns-in_ok-parameter_names-in-Def : goal.returns-in_ok-parameter_names-in-Def
returns-in_ok-parameter_names-in-Def c = λ file.
    let old = gathered_of c.args.blocks.now in
    gathered_same c.end_function.result _ _ _ c.end_function.ensures
    (ap (λ s. begun_by (instruction_of file s) old) c.in-Def.is ∙ ap (λ names. with_function names old) (sym (c.in_ok-parameter_names-in-Def.ensures file)))
