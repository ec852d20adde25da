use Rattle.std.proofs.Common.{◌≡◌, Err, List, Ok, Result, rules, subst, sym}
use Rattle.ytt_base.specs.declared.fault.Stop.{Stop}
use Rattle.file_load.proofs.Turning.{load_goes, load_stops}
use Rattle.file_load.specs.Turns.{TakesLoad, TakesTurn}
use Rattle.file_load.specs.declared.given.Given.{Given}
use Rattle.file_load.specs.declared.running.Turn.{Turn}
use Rattle.file_load.proofs.running.take_turn.Goals as goal

pub returns-in-None-clause-turns : goal.returns-in-None-clause-turns
returns-in-None-clause-turns c = c.finish.ensures.turns c.args.programs.now c.requires.sound

pub returns-in_err-run-in-Some-clause-turns : goal.returns-in_err-run-in-Some-clause-turns
returns-in_err-run-in-Some-clause-turns c =
    let x = c.in_err-run-in-Some.field-0.0 in
    let r = c.args.run in
    let ps = c.args.programs.now in
    let gs = c.args.given.now in
    let now = c.take_load.new.waiting in
    let after = c.take_load.new.session in
    let before = c.args.session.now in
    let stopped : c.from_residual.result ≡ Err x = search rules in
    let takes = subst (λ (hs : List Given). TakesLoad ps c.in-Some.load (record r { rest = c.in-Some.rest }) hs (Err x) now c.args.waiting.now after before) c.as_slice.ensures c.in_err-run-in-Some.ensures.takes in
    subst (λ (t : Result Turn Stop). TakesTurn c.args.functions.now ps r t gs gs now c.args.waiting.now after before) (sym stopped)
    (load_stops c.args.functions.now ps r c.in-Some.load c.in-Some.rest gs now c.args.waiting.now after before c.in-Some.ensures.0 x takes)

pub returns-in_ok-run-in-Some-clause-turns : goal.returns-in_ok-run-in-Some-clause-turns
returns-in_ok-run-in-Some-clause-turns c =
    let q = c.in_ok-run-in-Some.run' in
    let r = c.args.run in
    let ps = c.args.programs.now in
    let gs = c.args.given.now in
    let now = c.take_load.new.waiting in
    let after = c.take_load.new.session in
    let before = c.args.session.now in
    let takes = subst (λ (hs : List Given). TakesLoad ps c.in-Some.load (record r { rest = c.in-Some.rest }) hs (Ok q) now c.args.waiting.now after before) c.as_slice.ensures c.in_ok-run-in-Some.ensures.takes in
    load_goes c.args.functions.now ps r c.in-Some.load c.in-Some.rest gs now c.args.waiting.now after before c.in-Some.ensures.0 q takes
