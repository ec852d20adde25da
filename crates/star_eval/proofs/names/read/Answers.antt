use Rattle.std.proofs.Common.{sym, ap, ◌∙◌}
use Rattle.star_spec.specs.Names.{read_name, value_or_unset}
use Rattle.star_steps.proofs.Meeting.{gives_same}
use Rattle.star_eval.specs.Meets.{Here, arena_of, state_of}
use Rattle.star_eval.proofs.names.read.Goals as goal

pub returns-in-None-boxed : goal.returns-in-None-boxed
returns-in-None-boxed c =
    let s = state_of c.args.session.now in
    let p = c.args.place in
    let x = c.args.name.now in
    gives_same _ _ _ _ _ _
    ((λ i. read_name {H = Here} p x (sym c.in-Some.ensures.at i) s) ∙ ap (λ o. value_or_unset {H = Here} p x o s) c.in-None-boxed.ensures.value)
    (c.refused.ensures (arena_of c.args.session.now) c.args.session.now.work.steps)
