use Rattle.std.proofs.Common.{◌≡◌, Err, List, Ok, Result, rules, subst, sym}
use Rattle.star_values.specs.declared.value.NamedValue.{NamedValue}
use Rattle.ytt_base.specs.declared.fault.Stop.{Stop}
use Rattle.file_load.proofs.Turning.{fails_behind, goes_behind, nothing_behind}
use Rattle.file_load.specs.Turns.{GoesBehind, TakesNames}
use Rattle.file_load.specs.declared.running.Turn.{Turn}
use Rattle.file_load.proofs.running.go_on.Goals as goal

pub returns-in-None : goal.returns-in-None
returns-in-None c = rw c.in-None.ensures.0 (nothing_behind c.args.ended c.args.given.now)

pub returns-in_err-went-in-Some : goal.returns-in_err-went-in-Some
returns-in_err-went-in-Some c =
    let x = c.in_err-went-in-Some.field-0.0 in
    let w = c.in-Some.last in
    let hs = c.args.given.now in
    let stopped : c.from_residual.result ≡ Err x = search rules in
    let names = subst (λ (xs : List NamedValue). TakesNames w.place w.names.now xs w.run (Err x)) c.as_slice.ensures c.in_err-went-in-Some.ensures in
    subst (λ (r : Result Turn Stop). GoesBehind c.args.ended r hs hs c.pop.new.self c.args.waiting.now) (sym stopped) (fails_behind c.args.ended hs w c.pop.new.self c.args.waiting.now c.in-Some.ensures hs x names)

pub returns : goal.returns
returns c =
    let w = c.in-Some.last in
    let went = c.in_ok-went-in-Some.went in
    let names = subst (λ (xs : List NamedValue). TakesNames w.place w.names.now xs w.run (Ok went)) c.as_slice.ensures c.in_ok-went-in-Some.ensures in
    goes_behind c.args.ended c.args.given.now w c.pop.new.self c.args.waiting.now c.in-Some.ensures c.put.new.given went c.in_ok-put-in-Some.ensures names
