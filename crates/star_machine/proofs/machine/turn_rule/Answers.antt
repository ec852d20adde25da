use Rattle.std.proofs.Common.{◌≡◌, ◌≤◌, ◌∷◌, length, sym, ap, ◌∙◌, subst, arith}
use Rattle.std.specs.Prelude.{true, Some}
use Rattle.star_grammar.specs.Language.{allowed, kind_of_token}
use Rattle.star_grammar.specs.Predict.{predict}
use Rattle.star_grammar.specs.Table.{head}
use Rattle.star_grammar.proofs.Checked.{consistent}
use Rattle.star_machine.specs.Pending.{wants_rule}
use Rattle.star_machine.specs.Turns.{value_of}
use Rattle.star_machine.specs.Weights.{Weighed}
use Rattle.star_machine.proofs.Rising.{length_opened, rises_few}
use Rattle.star_machine.proofs.Turning.{went_on}
use Rattle.star_machine.proofs.machine.turn_rule.Goals as goal

pub open-requires-2 : goal.open-requires-2
open-requires-2 c =
    let m = c.args.machine.now in
    let counted = c.requires.weighed.counted in
    let items = wants_rule c.args.rule ∷ m.pending in
    let long : length m.pending ≤ length c.open.new.self = rw c.in_ok-open.ensures.opened (length_opened c.choice_at-choice.result m.pending) in
    omega (arith, counted, rises_few items, long, c.in_ok-open.ensures.few)

pub returns-clause-turned : goal.returns-clause-turned
returns-clause-turned c = λ token same.
    let e : predict c.args.rule (kind_of_token token.kind) ≡ c.choice_at-choice.result = sym (c.choice_at-choice.ensures ∙ ap (predict c.args.rule) same) in
    let a : allowed c.choice_at-choice.result (value_of c.args.machine.now) ≡ true = sym c.allows.ensures ∙ c.if-not-allows.false in
    went_on token c.args.rule c.choice_at-choice.result c.args.machine.now.pending c.open.new.self (value_of c.args.machine.now) e a c.in_ok-open.ensures.opened

pub returns-clause-weighed : goal.returns-clause-weighed
returns-clause-weighed c =
    let m = c.args.machine.now in
    let choice = c.choice_at-choice.result in
    let headed : head choice ≡ c.args.rule = consistent.headed c.args.rule c.args.kind choice (ap Some (sym c.choice_at-choice.ensures)) in
    let before : Weighed c.args.weight.now (wants_rule (head choice) ∷ m.pending) m.shapes = subst (λ r. Weighed c.args.weight.now (wants_rule r ∷ m.pending) m.shapes) (sym headed) c.requires.weighed in
    subst (λ items. Weighed c.open-2.new.self items m.shapes) (sym c.in_ok-open.ensures.opened) (c.open-2.ensures m.pending before)
