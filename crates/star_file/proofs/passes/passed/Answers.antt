use Rattle.std.proofs.lemmas.Result.{err_from_is_err_and}
use Rattle.star_resolve.specs.declared.binding.Resolved.{Resolved}
use Rattle.star_tree.specs.Whole.{program_of}
use Rattle.world_spec.specs.StarFiles.{ops_items}
use Rattle.star_file.proofs.Telling.{built_whole, one_unbuilt, refused_first}
use Rattle.star_file.proofs.passes.passed.Goals as goal

pub returns-in_err-resolved-clause-passes : goal.returns-in_err-resolved-clause-passes
returns-in_err-resolved-clause-passes c = λ os code e.
    let p = err_from_is_err_and c.from_residual.result c.from_residual.ensures.1 in
    rw (p.1, p.2) (refused_first Resolved (ops_items os) c.in_err-resolved.field-0.0 (c.in_err-resolved.ensures.passes os code e))

pub returns-in-None-clause-passes : goal.returns-in-None-clause-passes
returns-in-None-clause-passes c = λ os code e.
    built_whole (program_of c.args.program) os code e c.first_load-unbuilt.result c.first_load-unbuilt.ensures (c.in_ok-resolved.ensures.passes os code e) c.in-None.is

pub returns-in-Some-clause-passes : goal.returns-in-Some-clause-passes
returns-in-Some-clause-passes c = λ os code e.
    one_unbuilt (program_of c.args.program) os code e c.first_load-unbuilt.result c.first_load-unbuilt.ensures Resolved c.in-Some.place c.refusal.result c.refusal.ensures (c.in_ok-resolved.ensures.passes os code e) c.in-Some.is
