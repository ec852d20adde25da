use Rattle.std.proofs.Common.{◌≡◌, ◌∙◌, [], Err, Ok, Result, refl, rules, subst, sym}
use Rattle.ytt_base.specs.declared.fault.Stop.{Stop}
use Rattle.star_eval.specs.declared.file.FileResult.{FileResult}
use Rattle.file_load.proofs.Turning.{turn_fails, turn_then}
use Rattle.file_load.specs.Turns.{GaveOrFails, Turns, left_of, setting_in}
use Rattle.file_load.specs.declared.running.Turn.{Turn}
use Rattle.file_load.proofs.running.run_down.Goals as goal

pub loop-turns_left-init : goal.loop-turns_left-init
loop-turns_left-init c = rw c.new-waiting.ensures (record { goes = record { same = refl; sound = c.requires.sound }; depth = refl })

pub take_turn-requires-clause-sound : goal.take_turn-requires-clause-sound
take_turn-requires-clause-sound c = c.loop-turns_left.invariant.goes.sound

pub loop-turns_left-preserved : goal.loop-turns_left-preserved
loop-turns_left-preserved c =
    let l = c.loop-turns_left in
    let fs = c.args.functions.now in
    let ps = c.args.programs.now in
    let before = c.args.session.now in
    let after = c.take_turn.new.session in
    let gs = c.take_turn.new.given in
    let ws = c.take_turn.new.waiting in
    let e = left_of (setting_in fs ps before) before c.args.given.now [] c.args.start in
    let turned = turn_then fs ps before l.session after gs l.given ws l.waiting e l.run (Ok c.in_ok-next.field-0) l.invariant.depth l.invariant.goes c.in_ok-next.ensures.turns in
    record { goes = subst (λ (t : Turn). Turns (setting_in fs ps before) ps after gs ws e (Ok t)) c.in-Goes.is turned; depth = c.in_ok-next.ensures.depth ∙ l.invariant.depth }

pub returns-in-Ended-clause-ends : goal.returns-in-Ended-clause-ends
returns-in-Ended-clause-ends c =
    let l = c.loop-turns_left in
    let fs = c.args.functions.now in
    let ps = c.args.programs.now in
    let before = c.args.session.now in
    let after = c.take_turn.new.session in
    let gs = c.take_turn.new.given in
    let ws = c.take_turn.new.waiting in
    let e = left_of (setting_in fs ps before) before c.args.given.now [] c.args.start in
    let turned = turn_then fs ps before l.session after gs l.given ws l.waiting e l.run (Ok c.in_ok-next.field-0) l.invariant.depth l.invariant.goes c.in_ok-next.ensures.turns in
    subst (λ (t : Turn). Turns (setting_in fs ps before) ps after gs ws e (Ok t)) c.in-Ended.is turned

pub returns-in_err-next-clause-ends : goal.returns-in_err-next-clause-ends
returns-in_err-next-clause-ends c =
    let x = c.in_err-next.field-0.0 in
    let l = c.loop-turns_left in
    let fs = c.args.functions.now in
    let ps = c.args.programs.now in
    let before = c.args.session.now in
    let after = c.take_turn.new.session in
    let gs = c.take_turn.new.given in
    let ws = c.take_turn.new.waiting in
    let e = left_of (setting_in fs ps before) before c.args.given.now [] c.args.start in
    let stopped : c.from_residual.result ≡ Err x = search rules in
    let turned = turn_then fs ps before l.session after gs l.given ws l.waiting e l.run (Err x) l.invariant.depth l.invariant.goes c.in_err-next.ensures.turns in
    subst (λ (r : Result FileResult Stop). GaveOrFails after gs e r) (sym stopped) (turn_fails (setting_in fs ps before) ps after gs ws e x turned)
