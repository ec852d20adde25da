use Rattle.std.proofs.Common.{List, ap, ◌∙◌}
use Rattle.star_spec.specs.Hosts.{hosted}
use Rattle.star_values.proofs.Growing.{grows_then}
use Rattle.star_eval.specs.declared.frame.Control.TheVariants as control
use Rattle.star_eval.specs.declared.frame.Frame.{Frame}
use Rattle.star_eval.specs.declared.frame.Machine.{Machine}
use Rattle.star_eval.specs.Frames.{means}
use Rattle.star_eval.specs.Hosted.{HostedEnd, hosted_at}
use Rattle.star_eval.specs.Meets.{arena_of}
use Rattle.star_eval.specs.View.{arena_in}
use Rattle.star_eval.proofs.looped.run_block.Goals as goal

pub returns-clause-ended : goal.returns-clause-ended
returns-clause-ended g c =
    let machine : List Frame → Machine = λ fs. record { code = c.args.code; depth = c.args.depth; scope = c.args.scope; session = c.args.session; nodes = c.args.nodes; frames = fs } in
    let answers = g.H.Host.answers in
    let comes = c.in_ok-machine.ensures.comes in
    let same = comes.same ∙ ap (λ (fs : List Frame). hosted_at answers (means (machine fs) (control.Run c.args.block)) c.args.host.now) c.new.ensures in
    ap (λ o. hosted answers o c.run_down.new.host) c.flow_at_end.ensures.ended ∙ ap (λ (o : HostedEnd _). o.flow) same

pub returns-clause-finishes : goal.returns-clause-finishes
returns-clause-finishes g c =
    let machine : List Frame → Machine = λ fs. record { code = c.args.code; depth = c.args.depth; scope = c.args.scope; session = c.args.session; nodes = c.args.nodes; frames = fs } in
    let answers = g.H.Host.answers in
    let comes = c.in_ok-machine.ensures.comes in
    let same = comes.same ∙ ap (λ (fs : List Frame). hosted_at answers (means (machine fs) (control.Run c.args.block)) c.args.host.now) c.new.ensures in
    let e = c.flow_at_end.ensures.finishes in
    record {
      env = e.env ∙ ap (λ (o : HostedEnd _). o.env) same;
      scope = e.scope;
      nodes = e.nodes;
      grows = grows_then (arena_of c.args.session) (arena_in c.in_ok-machine.field-0.machine) (arena_of c.flow_at_end.result.session) comes.grows e.grows;
    }
