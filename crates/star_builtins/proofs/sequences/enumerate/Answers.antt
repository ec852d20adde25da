use Rattle.std.proofs.Common.{◌≡◌, ◌<◌, ◌+ℤ◌, FitsSigned, ap, false, pos, rules, subst, sym, true, ◌∙◌}
use Rattle.std.proofs.lemmas.Int.{to_z-of_z}
use Rattle.std.proofs.lemmas.List.{length-map}
use Rattle.std.specs.Int.{w128}
use Rattle.builtin_spec.specs.Builtins.{last_fits, numbered}
use Rattle.ytt_base.specs.declared.fault.FaultKind.TheVariants as kind
use Rattle.star_index.proofs.Ends.{gives_object, gives_refused}
use Rattle.star_steps.proofs.Names.{fail, grows_then, new_list, seen, value_of, values_of}
use Rattle.star_builtins.proofs.Sequencing.{each_fits, numbers_next}
use Rattle.star_builtins.proofs.sequences.enumerate.Goals as goal

pub returns-then-not-last_fits : goal.returns-then-not-last_fits
returns-then-not-last_fits c =
    let a = seen c.args.arena.now in
    let z = c.unwrap_or-from.result in
    let fits : FitsSigned w128 z = search rules in
    let vs = values_of a c.in_ok-members.members in
    let last : last_fits z vs ≡ false =
    (λ i. last_fits (sym (to_z-of_z w128 z fits) i) (values_of a (sym c.as_slice.ensures i))) ∙ sym (c.last_fits.ensures a) ∙ c.if-not-last_fits.true in
    gives_refused c.refusal-then-not-last_fits.result (fail kind.IntOverflow c.args.at) a c.members_paid.new.steps _ (search rules)
    (numbers_next c.args.at (value_of a c.args.value) (value_of a c.args.start) a c.args.steps.now c.members_paid.new.steps z vs (c.in-Some.ensures a).0 ((c.in-Some.ensures a).1 (pos 0) ∙ sym c.unwrap_or-from.ensures) c.in_ok-members.ensures.meaning false last)

pub numbered-requires-clause-fits : goal.numbered-requires-clause-fits
numbered-requires-clause-fits c i below =
    let a = seen c.args.arena.now in
    let z = c.unwrap_or-from.result in
    let fits : FitsSigned w128 z = search rules in
    let vs = values_of a c.as_slice-2.result.now in
    let last : last_fits z vs ≡ true =
    (λ i. last_fits (sym (to_z-of_z w128 z fits) i) (values_of a ((c.as_slice-2.ensures ∙ sym c.as_slice.ensures) i))) ∙ sym (c.last_fits.ensures a) ∙ c.if-not-last_fits.false in
    subst (λ y. FitsSigned w128 (y +ℤ pos i)) (sym (to_z-of_z w128 z fits)) (each_fits z vs i fits last (subst (λ n. i < n) (sym (length-map c.as_slice-2.result.now (value_of a))) below))

pub returns : goal.returns
returns c =
    let a = seen c.args.arena.now in
    let b = seen c.numbered.new.arena in
    let m = c.members_paid.new.steps in
    let z = c.unwrap_or-from.result in
    let fits : FitsSigned w128 z = search rules in
    let vs = values_of a c.in_ok-members.members in
    let last : last_fits z vs ≡ true =
    (λ i. last_fits (sym (to_z-of_z w128 z fits) i) (values_of a (sym c.as_slice.ensures i))) ∙ sym (c.last_fits.ensures a) ∙ c.if-not-last_fits.false in
    let made = c.in_ok-tuples.ensures in
    let same : numbered z vs ≡ values_of b c.as_slice-3.result.now =
    (λ i. numbered (sym (to_z-of_z w128 z fits) i) (values_of a (sym c.as_slice-2.ensures i))) ∙ sym made.values ∙ ap (values_of b) (sym c.as_slice-3.ensures) in
    let given = gives_object _ _ c.in_ok-new_list.field-0 b (seen c.new_list.new.self) m _
    (numbers_next c.args.at (value_of a c.args.value) (value_of a c.args.start) a c.args.steps.now m z vs (c.in-Some.ensures a).0 ((c.in-Some.ensures a).1 (pos 0) ∙ sym c.unwrap_or-from.ensures) c.in_ok-members.ensures.meaning true last
    ∙ (λ i. new_list (same i) (record { store = sym made.store i; steps = m; host = tt })))
    c.in_ok-new_list.ensures.made in
    record { meaning = given.meaning; owns = given.owns; grows = grows_then a b (seen c.new_list.new.self) made.grows given.grows }
