use Rattle.star_steps.proofs.Names.{sym, ◌∙◌, subst, true, false, OwnsFields}
use Rattle.star_compare.proofs.UnderKeys.{field_first}
use Rattle.star_compare.proofs.pairs.field_under.Goals as goal

pub returns-then-eq : goal.returns-then-eq
returns-then-eq c = record {
  value = λ a. sym (c.loop-field.invariant.same a ∙ field_first a.held c.args.name.now c.as_str.result.now c.in-Some.field.now c.in-Some.more.now c.loop-field.rest.now true (c.in-Some.ensures.cases).0 c.as_str.ensures c.if-eq.ensures);
  owned = λ a h. (subst (OwnsFields a) (c.in-Some.ensures.cases).0 (c.loop-field.invariant.owned a h)).0;
}

pub loop-field-preserved : goal.loop-field-preserved
loop-field-preserved c = record {
  same = λ a. c.loop-field.invariant.same a ∙ field_first a.held c.args.name.now c.as_str.result.now c.in-Some.field.now c.in-Some.more.now c.loop-field.rest.now false (c.in-Some.ensures.cases).0 c.as_str.ensures c.if-eq.ensures;
  owned = λ a h. (subst (OwnsFields a) (c.in-Some.ensures.cases).0 (c.loop-field.invariant.owned a h)).1;
}
