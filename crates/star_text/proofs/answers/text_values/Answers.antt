use Rattle.std.proofs.Common.{◌++◌, ◌∷◌, [], ap, append_assoc, subst, sym, ◌∙◌}
use Rattle.std.proofs.lemmas.List.{map-append}
use Rattle.star_steps.proofs.Names.{Owns, OwnsAll, seen, text_value, value_of, values_of}
use Rattle.star_values.proofs.Growing.{each_joined, grows_then, owns_all_kept, values_kept}
use Rattle.text_spec.specs.Answers.{text_values}
use Rattle.star_text.proofs.answers.text_values.Goals as goal

pub loop-first-preserved : goal.loop-first-preserved
loop-first-preserved c =
    let was = seen c.args.arena.now in
    let a = seen c.loop-first.arena in
    let b = seen c.new_text.new.self in
    let made = c.in_ok-value.ensures.made in
    let v = c.in_ok-value.value in
    let vs = c.loop-first.values in
    let more = text_values c.in-Some.more.now in
    record {
      values =
          ap (λ ws. values_of b ws ++ more) c.in_ok-push.ensures.ok
          ∙ ap (λ ws. ws ++ more) (map-append (value_of b) vs (v ∷ []))
          ∙ append_assoc (values_of b vs) (value_of b v ∷ []) more
          ∙ ap (λ ws. ws ++ value_of b v ∷ more) (values_kept a b vs made.grows c.loop-first.invariant.owns)
          ∙ ap (λ x. values_of a vs ++ x ∷ more) (made.value ∙ ap text_value c.in_ok-copy.ensures)
          ∙ ap (λ ts. values_of a vs ++ text_values ts) (sym c.in-Some.ensures.cases.0)
          ∙ c.loop-first.invariant.values;
      owns = subst (OwnsAll b) (sym c.in_ok-push.ensures.ok) (each_joined (Owns b) vs (v ∷ []) (owns_all_kept a b vs made.grows c.loop-first.invariant.owns) (made.owns, tt));
      store = made.store ∙ c.loop-first.invariant.store;
      grows = grows_then was a b c.loop-first.invariant.grows made.grows;
    }
