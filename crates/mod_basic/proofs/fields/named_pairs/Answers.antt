use Rattle.std.proofs.Common.{◌≡◌, ◌++◌, ◌∷◌, [], ap, append_assoc, subst, sym, ◌∙◌}
use Rattle.std.proofs.lemmas.List.{map-append}
use Rattle.star_calls.proofs.Kept.{pairs_kept}
use Rattle.star_steps.proofs.Names.{Each, IsKey, OwnsFields, OwnsPair, Value, fields_in, grows_then, owns_kept, pair_in, pairs_in, seen, text_value, value_kept, value_of}
use Rattle.star_values.proofs.Growing.{each_joined}
use Rattle.value_spec.specs.Binding.{text_pairs}
use Rattle.mod_basic.proofs.fields.named_pairs.Goals as goal

pub loop-field-preserved : goal.loop-field-preserved
loop-field-preserved c =
    let was = seen c.args.arena.now in
    let a = seen c.loop-field.arena in
    let b = seen c.new_text.new.self in
    let so_far = c.loop-field.invariant in
    let made = c.in_ok-key.ensures.made in
    let grows = grows_then was a b so_far.grows made.grows in
    let qs = c.loop-field.pairs in
    let f = c.in-Some.field.now in
    let q : Value × Value = (c.in_ok-key.key, f.value) in
    let more = text_pairs (fields_in was.held c.in-Some.more.now) in
    let own = subst (OwnsFields was) c.in-Some.ensures.cases.0 so_far.rest in
    let kept = pairs_kept a b qs made.grows so_far.owns in
    let key : value_of b c.in_ok-key.key ≡ text_value f.name = made.value ∙ ap text_value c.in_ok-copy.ensures in
    let value = value_kept was b f.value grows own.0 in
    let pushed = c.in_ok-push.ensures.ok in
    record {
      pairs =
          ap (λ ps. pairs_in b.held ps ++ more) pushed
          ∙ ap (λ ps. ps ++ more) (map-append (pair_in b.held) qs (q ∷ []))
          ∙ append_assoc (pairs_in b.held qs) (pair_in b.held q ∷ []) more
          ∙ (λ i. kept.1 i ++ (key i, value i) ∷ more)
          ∙ ap (λ fs. pairs_in a.held qs ++ text_pairs (fields_in was.held fs)) (sym c.in-Some.ensures.cases.0)
          ∙ so_far.pairs;
      owns = subst (Each (OwnsPair b)) (sym pushed) (each_joined (OwnsPair b) qs (q ∷ []) kept.0 ((made.owns, owns_kept was b f.value grows own.0, subst IsKey (sym key) tt), tt));
      rest = own.1;
      store = made.store ∙ so_far.store;
      grows = grows;
    }
