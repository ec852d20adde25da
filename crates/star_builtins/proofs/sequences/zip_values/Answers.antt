use Rattle.std.proofs.Common.{ap, map as each, rules, sym, ◌≡◌, ◌∙◌}
use Rattle.ytt_base.specs.declared.fault.FaultKind.TheVariants as kind
use Rattle.builtin_spec.specs.Builtins.{members_or_none, zipped}
use Rattle.star_index.proofs.Ends.{gives_object, gives_refused}
use Rattle.star_steps.proofs.Names.{as_is, fail, gives_stop, grows_then, members_in, new_list, seen, then_do, values_of}
use Rattle.star_builtins.proofs.Sequencing.{tuples, turns, zip_goes, zip_refused}
use Rattle.star_builtins.proofs.sequences.zip_values.Goals as goal

pub returns-then-not-all_have_members : goal.returns-then-not-all_have_members
returns-then-not-all_have_members c =
    let a = seen c.args.arena.now in
    gives_refused c.refusal.result (fail kind.ValueKind c.args.at) a c.args.steps.now _ (search rules)
    (zip_refused c.args.at (values_of a c.args.values.now) a c.args.steps.now (sym c.all_have_members.ensures ∙ c.if-not-all_have_members.true))

pub returns-in_err-count : goal.returns-in_err-count
returns-in_err-count c =
    let a = seen c.args.arena.now in
    let p = c.args.at in
    let n = c.args.steps.now in
    let vs = values_of a c.args.values.now in
    gives_stop as_is c.in_err-count.field-0.0 a c.turns_paid.new.steps (turns p vs a n) (tuples p vs a n) c.from_residual.result _
    (zip_goes p vs a n (sym c.all_have_members.ensures ∙ c.if-not-all_have_members.false)) c.in_err-count.ensures (search rules)

pub returns : goal.returns
returns c =
    let a = seen c.args.arena.now in
    let b = seen c.zipped.new.arena in
    let p = c.args.at in
    let n = c.args.steps.now in
    let m = c.turns_paid.new.steps in
    let k = c.in_ok-count.count in
    let vs = values_of a c.args.values.now in
    let made = c.in_ok-tuples.ensures in
    let same : zipped k (each (λ v. members_or_none (members_in a.store v)) vs) ≡ values_of b c.as_slice-2.result.now =
    ap (zipped k) (c.in_ok-lists.ensures.members ∙ ap (each (values_of a)) (sym c.as_slice.ensures)) ∙ sym made.values ∙ ap (values_of b) (sym c.as_slice-2.ensures) in
    let given = gives_object _ _ c.in_ok-new_list.field-0 b (seen c.new_list.new.self) m _
    (zip_goes p vs a n (sym c.all_have_members.ensures ∙ c.if-not-all_have_members.false)
    ∙ ap (λ o. then_do o (tuples p vs a n)) c.in_ok-count.ensures
    ∙ (λ i. new_list (same i) (record { store = sym made.store i; steps = m; host = tt })))
    c.in_ok-new_list.ensures.made in
    record { meaning = given.meaning; owns = given.owns; grows = grows_then a b (seen c.new_list.new.self) made.grows given.grows }
