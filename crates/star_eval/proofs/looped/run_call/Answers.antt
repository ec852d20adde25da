use Rattle.std.proofs.Common.{List, ap, subst, sym, ◌∙◌}
use Rattle.star_spec.specs.Hosts.{hosted}
use Rattle.star_values.proofs.Growing.{grows_then}
use Rattle.star_values.specs.Owns.{Each, Grows, OwnsEnv}
use Rattle.star_values.specs.View.{arguments_in, value_of}
use Rattle.star_eval.specs.declared.frame.Frame.{Frame}
use Rattle.star_eval.specs.declared.frame.Machine.{Machine}
use Rattle.star_eval.specs.Doing.{all_calls}
use Rattle.star_eval.specs.Frames.{around_value}
use Rattle.star_eval.specs.Hosted.{HostedEnd}
use Rattle.star_eval.specs.Meets.{arena_of, state_of}
use Rattle.star_eval.specs.View.{OwnsFrame, arena_in, setting_of, waiting_in}
use Rattle.star_eval.specs.Waiting.{value_ends}
use Rattle.star_eval.proofs.looped.run_call.Goals as goal

pub call-requires-clause-sound : goal.call-requires-clause-sound
call-requires-clause-sound g c =
    let a = arena_of c.args.session in
    record {
      scope = subst (OwnsEnv a) (sym c.new-scope.ensures) tt;
      nodes = c.new-nodes.ensures.owned a;
      frames = subst (Each (OwnsFrame a)) (sym c.new-frames.ensures) tt;
    }

pub returns-clause-ended : goal.returns-clause-ended
returns-clause-ended g c =
    let machine : List Frame → Machine = λ fs. record { code = record { file = c.args.place.file; functions = c.args.functions }; depth = c.args.depth; scope = c.new-scope.result; session = c.args.session; nodes = c.new-nodes.result; frames = fs } in
    let a = arena_of c.args.session in
    let answers = g.H.Host.answers in
    let calls = λ (m : Machine). all_calls (setting_of m) c.args.place (value_of a c.args.function) (arguments_in a.held c.args.args) (state_of c.args.session) in
    ap (λ o. hosted answers o c.run_down.new.host) c.value_at_end.ensures.ended
    ∙ ap (λ (o : HostedEnd _). o.value) c.in_ok-machine.ensures.comes.same
    ∙ ap (λ e. hosted answers (value_ends e) c.args.host.now) (c.in_ok-control.ensures.same ∙ ap (λ (fs : List Frame). around_value (machine fs) (waiting_in (machine fs)) (calls (machine fs))) c.new-frames.ensures)

pub returns-clause-grows : goal.returns-clause-grows
returns-clause-grows g c =
    let comes = c.in_ok-machine.ensures.comes in
    subst (Grows (arena_of c.args.session)) (sym c.value_at_end.ensures.arena) (grows_then (arena_of c.args.session) (arena_in c.call.new.m) (arena_in c.in_ok-machine.field-0.machine) c.in_ok-control.ensures.grows comes.grows)
