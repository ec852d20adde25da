use Rattle.std.proofs.Common.{◌≡◌, true, subst, sym, ◌∙◌}
use Rattle.builtin_spec.specs.Sorting.{is_key_function}
use Rattle.star_steps.proofs.Names.{OwnsFields, seen, value_of, values_of}
use Rattle.star_values.specs.View.{fields_in}
use Rattle.star_builtins.proofs.Asking.{asks_same, first_goes, first_key}
use Rattle.star_builtins.proofs.asked.first.Goals as goal

pub keyed_by-requires-clause-key : goal.keyed_by-requires-clause-key
keyed_by-requires-clause-key c =
    let a = seen c.args.arena.now in
    c.in-Some.ensures.owned a (subst (OwnsFields a) (sym c.as_slice-2.ensures) c.requires.1)

pub returns : goal.returns
returns c =
    let a = seen c.args.arena.now in
    let n = c.args.steps.now in
    let called : is_key_function (value_of a c.in-Some.key) ≡ true = sym (c.is_key_function.ensures a) ∙ c.if-not-is_key_function.false in
    asks_same _ _ _ _ _ _ _
    (first_goes c.args.descending c.args.at (values_of a c.args.args.positional) (fields_in a.held c.args.args.named) a n (value_of a c.in-Some.key) (values_of a c.in_ok-members.members)
    (c.in-Some.ensures.key a ∙ (λ i. first_key (values_of a (c.as_slice.ensures i)) (fields_in a.held (c.as_slice-2.ensures i)))) called c.in_ok-members.ensures.meaning)
    c.keyed_by.ensures
