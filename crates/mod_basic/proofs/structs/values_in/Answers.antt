use Rattle.std.proofs.Common.{◌++◌, ◌∷◌, [], ap, append_assoc, subst, sym, ◌∙◌}
use Rattle.std.proofs.lemmas.List.{map-append}
use Rattle.module_spec.specs.Structs.{field_values}
use Rattle.star_steps.proofs.Names.{Owns, OwnsAll, OwnsFields, fields_in, value_of, values_of}
use Rattle.star_values.proofs.Growing.{each_joined}
use Rattle.mod_basic.proofs.structs.values_in.Goals as goal

pub loop-field-preserved : goal.loop-field-preserved
loop-field-preserved c =
    let vs = c.loop-field.values in
    let v = c.in-Some.field.now.value in
    let pushed = c.in_ok-push.ensures.ok in
    record {
      values = λ a.
          let more = field_values (fields_in a.held c.in-Some.more.now) in
          ap (λ ws. values_of a ws ++ more) pushed
          ∙ ap (λ ws. ws ++ more) (map-append (value_of a) vs (v ∷ []))
          ∙ append_assoc (values_of a vs) (value_of a v ∷ []) more
          ∙ ap (λ fs. values_of a vs ++ field_values (fields_in a.held fs)) (sym c.in-Some.ensures.cases.0)
          ∙ c.loop-field.invariant.values a;
      owns = λ a given.
          let had = c.loop-field.invariant.owns a given in
          let rest = subst (OwnsFields a) c.in-Some.ensures.cases.0 had.1 in
          (subst (OwnsAll a) (sym pushed) (each_joined (Owns a) vs (v ∷ []) had.0 (rest.0, tt)), rest.1);
    }

pub returns-clause-owns : goal.returns-clause-owns
returns-clause-owns c = λ a given. (c.loop-field.invariant.owns a given).0
