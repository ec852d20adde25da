use Rattle.std.proofs.Common.{◌≡◌, ◌++◌, ◌∷◌, [], ap, append_assoc, map as each, subst, sym, ◌∙◌}
use Rattle.std.proofs.lemmas.List.{map-append}
use Rattle.star_steps.proofs.Names.{Each, Owns, OwnsAll, OwnsPair, owns_kept, pair_in, pairs_in, seen, value_of, values_of}
use Rattle.star_values.proofs.Growing.{each_joined, grows_then, owns_all_kept, value_kept, values_kept}
use Rattle.star_builtins.specs.Listing.{listed}
use Rattle.star_builtins.proofs.dicts.parts.Goals as goal

pub part-requires-clause-key : goal.part-requires-clause-key
part-requires-clause-key c =
    let was = seen c.args.arena.now in
    owns_kept was (seen c.loop-pair.arena) c.in-Some.pair.now.0 c.loop-pair.invariant.grows (subst (Each (OwnsPair was)) c.in-Some.ensures.cases.0 c.loop-pair.invariant.rest).0.0

pub part-requires-clause-value : goal.part-requires-clause-value
part-requires-clause-value c =
    let was = seen c.args.arena.now in
    owns_kept was (seen c.loop-pair.arena) c.in-Some.pair.now.1 c.loop-pair.invariant.grows (subst (Each (OwnsPair was)) c.in-Some.ensures.cases.0 c.loop-pair.invariant.rest).0.1

pub loop-pair-preserved : goal.loop-pair-preserved
loop-pair-preserved c =
    let was = seen c.args.arena.now in
    let a = seen c.loop-pair.arena in
    let b = seen c.part.new.arena in
    let so_far = c.loop-pair.invariant in
    let made = c.in_ok-part.ensures in
    let q = c.in-Some.pair.now in
    let x = c.in_ok-part.part in
    let xs = c.loop-pair.parts in
    let f = listed c.args.what in
    let more = each f (pairs_in was.held c.in-Some.more.now) in
    let owned = subst (Each (OwnsPair was)) c.in-Some.ensures.cases.0 so_far.rest in
    let same : pair_in a.held q ≡ pair_in was.held q = λ i. (value_kept was a q.0 so_far.grows owned.0.0 i, value_kept was a q.1 so_far.grows owned.0.1 i) in
    record {
      values =
          ap (λ ws. values_of b ws ++ more) c.in_ok-push.ensures.ok
          ∙ ap (λ ws. ws ++ more) (map-append (value_of b) xs (x ∷ []))
          ∙ append_assoc (values_of b xs) (value_of b x ∷ []) more
          ∙ ap (λ ws. ws ++ value_of b x ∷ more) (values_kept a b xs made.grows so_far.owns)
          ∙ ap (λ v. values_of a xs ++ v ∷ more) (made.value ∙ ap f same)
          ∙ ap (λ ps. values_of a xs ++ each f (pairs_in was.held ps)) (sym c.in-Some.ensures.cases.0)
          ∙ so_far.values;
      rest = owned.1;
      owns = subst (OwnsAll b) (sym c.in_ok-push.ensures.ok) (each_joined (Owns b) xs (x ∷ []) (owns_all_kept a b xs made.grows so_far.owns) (made.owns, tt));
      store = made.store ∙ so_far.store;
      grows = grows_then was a b so_far.grows made.grows;
    }
