use Rattle.std.proofs.Common.{IfOk, sym, ap, subst, ◌∙◌}
use Rattle.value_spec.specs.Outcomes.{bad}
use Rattle.star_values.proofs.Growing.{grows_same}
use Rattle.star_eval.specs.declared.frame.Control.TheVariants as control
use Rattle.star_eval.specs.declared.frame.Frame.TheVariants as frame
use Rattle.star_eval.specs.declared.frame.Machine.{Machine}
use Rattle.star_eval.specs.Frames.{Goes, inside}
use Rattle.star_eval.specs.Meets.{state_of}
use Rattle.star_eval.specs.View.{OwnsCaller, OwnsFrame, arena_in, nodes_in, setting_of, waiting_with}
use Rattle.star_eval.specs.Waiting.{unwind_value}
use Rattle.star_eval.proofs.went.fail.Goals as goal

pub returns-in-Call : goal.returns-in-Call
returns-in-Call c =
    let m = c.args.m.now in
    let a = arena_in m in
    let s = state_of m.session in
    let caller = c.into_inner-in-Call.result in
    let is = c.in-Call.is ∙ ap frame.Call (sym c.into_inner-in-Call.ensures) in
    let owned : OwnsCaller a caller = subst (OwnsFrame a) is c.requires.frame in
    subst (λ (n : Machine). Goes a n (control.Failed c.args.fault) (inside m (waiting_with m c.args.frame) (control.Failed c.args.fault))) (sym c.restore.ensures) (record {
      same = sym (ap (λ f. unwind_value (setting_of m) (nodes_in m) (waiting_with m f) (bad c.args.fault s)) is);
      sound = record { scope = owned.0; nodes = owned.1; frames = c.requires.sound.frames };
      owned = tt;
      grows = grows_same a;
    })

pub returns-in-Native : goal.returns-in-Native
returns-in-Native c =
    let m = c.args.m.now in
    subst (λ f. IfOk c.resume.result (λ k. Goes (arena_in m) c.resume.new.m k (inside m (waiting_with m f) (control.Failed c.args.fault)))) (sym (c.in-Native.is ∙ ap frame.Native (sym c.into_inner-in-Native.ensures))) c.resume.ensures
