use Rattle.std.proofs.Common.{◌++◌, ◌∷◌, ◌∙◌, [], ap, append_assoc, subst, sym}
use Rattle.std.proofs.lemmas.List.{map-append}
use Rattle.star_steps.proofs.Names.{Owns, OwnsAll, value_of, values_of}
use Rattle.star_values.proofs.Growing.{each_joined}
use Rattle.star_values.specs.View.{fields_in}
use Rattle.text_spec.specs.Fields.{values_of_fields}
use Rattle.star_text.proofs.Formatting.{owned_first}
use Rattle.star_text.proofs.format.all_values.Goals as goal

pub loop-first-preserved : goal.loop-first-preserved
loop-first-preserved c =
    let vs = c.loop-first.values in
    let v = c.in-Some.first.now.value in
    record {
      values = λ a.
          let more = values_of_fields (fields_in a.held c.in-Some.more.now) in
          ap (λ ws. values_of a ws ++ more) c.in_ok-push.ensures.ok
          ∙ ap (λ ws. ws ++ more) (map-append (value_of a) vs (v ∷ []))
          ∙ append_assoc (values_of a vs) (value_of a v ∷ []) more
          ∙ ap (λ qs. values_of a vs ++ values_of_fields (fields_in a.held qs)) (sym c.in-Some.ensures.cases.0)
          ∙ c.loop-first.invariant.values a;
      owned = λ a h.
          let was = c.loop-first.invariant.owned a h in
          let first = owned_first a c.in-Some.first.now c.in-Some.more.now c.loop-first.rest.now c.in-Some.ensures.cases.0 was.1 in
          (subst (OwnsAll a) (sym c.in_ok-push.ensures.ok) (each_joined (Owns a) vs (v ∷ []) was.0 (first.0, tt)), first.1);
    }

pub returns-clause-owned : goal.returns-clause-owned
returns-clause-owned c = λ a h. (c.loop-first.invariant.owned a h).0
