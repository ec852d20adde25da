use Rattle.std.proofs.Common.{◌≡◌, ◌∙◌, ap, false, rules, sym}
use Rattle.std.specs.Prelude.{bytes_eq}
use Rattle.star_values.specs.View.{fields_in}
use Rattle.value_spec.specs.Binding.{field_of}
use Rattle.star_text.proofs.Formatting.{name_passed, owned_first}
use Rattle.star_text.proofs.format.named_value.Goals as goal

pub returns-then-eq-clause-owned : goal.returns-then-eq-clause-owned
returns-then-eq-clause-owned c = λ a h. (owned_first a c.in-Some.field.now c.in-Some.more.now c.loop-field.rest.now (c.in-Some.ensures.cases).0 (c.loop-field.invariant.owned a h)).0

pub loop-field-preserved : goal.loop-field-preserved
loop-field-preserved c = record {
  same = λ a.
      let other : bytes_eq c.args.name.now c.in-Some.field.now.name ≡ false = search rules in
      sym (name_passed a c.args.name.now c.in-Some.field.now c.in-Some.more.now other)
      ∙ ap (λ qs. field_of c.args.name.now (fields_in a.held qs)) (sym (c.in-Some.ensures.cases).0)
      ∙ c.loop-field.invariant.same a;
  owned = λ a h. (owned_first a c.in-Some.field.now c.in-Some.more.now c.loop-field.rest.now (c.in-Some.ensures.cases).0 (c.loop-field.invariant.owned a h)).1;
}
