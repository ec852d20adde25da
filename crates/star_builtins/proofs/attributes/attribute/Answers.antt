use Rattle.std.proofs.Common.{◌≡◌, None, ap, rules, sym, ◌∙◌}
use Rattle.builtin_spec.specs.Attributes.{attribute_of, attribute_row, or_missing}
use Rattle.star_steps.proofs.Meeting.{gives_same}
use Rattle.star_steps.proofs.Names.{seen, state_in, value_of}
use Rattle.value_spec.specs.Binding.{field_of}
use Rattle.star_builtins.proofs.attributes.attribute.Goals as goal

pub returns-in-Struct : goal.returns-in-Struct
returns-in-Struct c = λ n.
    let a = seen c.args.arena.now in
    let s = state_in a n in
    let p = c.args.at in
    let x = c.args.name.now in
    gives_same _ _ _ _ _ _
    (ap (λ v. attribute_row p (value_of a v) x s) c.in-Struct.is
    ∙ (λ i. or_missing p x (field_of (sym c.as_str.ensures i) (c.fields.ensures.fields i)) s)
    ∙ sym (ap (λ o. or_missing p x o s) (c.named_value.ensures.value a)))
    (c.given.ensures a n (c.named_value.ensures.owned a c.fields.ensures.owns))

pub returns-in-Module : goal.returns-in-Module
returns-in-Module c = λ n.
    let a = seen c.args.arena.now in
    let s = state_in a n in
    let p = c.args.at in
    let x = c.args.name.now in
    gives_same _ _ _ _ _ _
    (ap (λ v. attribute_row p (value_of a v) x s) c.in-Module.is
    ∙ (λ i. or_missing p x (field_of (sym c.as_str-in-Module.ensures i) (c.exports.ensures.fields i)) s)
    ∙ sym (ap (λ o. or_missing p x o s) (c.named_value-in-Module.ensures.value a)))
    (c.given-in-Module.ensures a n (c.named_value-in-Module.ensures.owned a c.exports.ensures.owns))

pub returns-in-None : goal.returns-in-None
returns-in-None c = λ n.
    let a = seen c.args.arena.now in
    let none : attribute_of (value_of a c.args.on) c.args.name.now ≡ None = search (rules, c.in-None.is) in
    gives_same _ _ _ _ _ _ (ap (λ o. or_missing c.args.at c.args.name.now o (state_in a n)) none) (c.given-in-None.ensures a n tt)
