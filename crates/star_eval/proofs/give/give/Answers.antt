use Rattle.std.proofs.Common.{IfOk, sym, ap, subst, ◌∙◌}
use Rattle.star_values.specs.View.{value_of}
use Rattle.value_spec.specs.Outcomes.{done}
use Rattle.star_values.proofs.Growing.{grows_same}
use Rattle.star_eval.specs.declared.frame.Control.TheVariants as control
use Rattle.star_eval.specs.declared.frame.Frame.TheVariants as frame
use Rattle.star_eval.specs.declared.frame.Machine.{Machine}
use Rattle.star_eval.specs.Frames.{Goes, inside}
use Rattle.star_eval.specs.Meets.{state_of}
use Rattle.star_eval.specs.View.{OwnsCaller, OwnsFrame, arena_in, nodes_in, setting_of, waiting_with}
use Rattle.star_eval.specs.Waiting.{unwind_value}
use Rattle.star_eval.proofs.give.give.Goals as goal

pub returns-in-Call : goal.returns-in-Call
returns-in-Call c =
    let m = c.args.m.now in
    let a = arena_in m in
    let s = state_of m.session in
    let caller = c.into_inner-in-Call.result in
    let is = c.in-Call.is ∙ ap frame.Call (sym c.into_inner-in-Call.ensures) in
    let owned : OwnsCaller a caller = subst (OwnsFrame a) is c.requires.frame in
    subst (λ (n : Machine). Goes a n (control.Gave c.args.value) (inside m (waiting_with m c.args.frame) (control.Gave c.args.value))) (sym c.restore.ensures) (record {
      same = sym (ap (λ f. unwind_value (setting_of m) (nodes_in m) (waiting_with m f) (done (value_of a c.args.value) s)) is);
      sound = record { scope = owned.0; nodes = owned.1; frames = c.requires.sound.frames };
      owned = c.requires.value;
      grows = grows_same a;
    })

pub returns-in-Value : goal.returns-in-Value
returns-in-Value c =
    let m = c.args.m.now in
    let is = c.in-Value.is ∙ ap frame.Value (sym c.into_inner.ensures) in
    subst (λ f. IfOk c.give_value.result (λ k. Goes (arena_in m) c.give_value.new.m k (inside m (waiting_with m f) (control.Gave c.args.value)))) (sym is) c.give_value.ensures

pub returns-in-Statement : goal.returns-in-Statement
returns-in-Statement c =
    let m = c.args.m.now in
    let is = c.in-Statement.is ∙ ap frame.Statement (sym c.into_inner-in-Statement.ensures) in
    subst (λ f. IfOk c.give_statement.result (λ k. Goes (arena_in m) c.give_statement.new.m k (inside m (waiting_with m f) (control.Gave c.args.value)))) (sym is) c.give_statement.ensures

pub returns-in-Native : goal.returns-in-Native
returns-in-Native c =
    let m = c.args.m.now in
    subst (λ f. IfOk c.resume.result (λ k. Goes (arena_in m) c.resume.new.m k (inside m (waiting_with m f) (control.Gave c.args.value)))) (sym (c.in-Native.is ∙ ap frame.Native (sym c.into_inner-in-Native.ensures))) c.resume.ensures
