use Rattle.std.proofs.Common.{◌+◌, ◌-◌, ◌++◌, ◌≡◌, ◌∷◌, ap, arith, drop, map as each, refl, subst, sym, ◌∙◌}
use Rattle.builtin_spec.specs.Builtins.{zipped}
use Rattle.operator_spec.specs.Operators.{tuple_of}
use Rattle.star_steps.proofs.Names.{OwnsAll, seen, values_of}
use Rattle.star_values.proofs.Growing.{grows_same, grows_then, owns_all_kept, values_kept}
use Rattle.star_builtins.proofs.Sequencing.{all_left, more_made, more_owned, zipped_next}
use Rattle.star_builtins.proofs.sequences.zipped.Goals as goal

pub loop-place-init : goal.loop-place-init
loop-place-init c =
    let a = seen c.args.arena.now in
    let vss = each (values_of a) c.args.lists.now in
    let all : c.args.count - 0 ≡ c.args.count = omega arith in
    record {
      values = ap (λ ws. values_of a ws ++ zipped (c.args.count - 0) (each (drop 0) vss)) c.new-tuples.ensures ∙ (λ i. zipped (all i) (all_left vss i));
      owns = subst (OwnsAll a) (sym c.new-tuples.ensures) tt;
      store = refl;
      grows = grows_same a;
    }

pub new_tuple-requires : goal.new_tuple-requires
new_tuple-requires c =
    let was = seen c.args.arena.now in
    let a = seen c.loop-place.arena in
    subst (OwnsAll a) (sym c.as_slice.ensures) (owns_all_kept was a _ c.loop-place.invariant.grows (c.in_ok-parts.ensures.owns was c.requires))

pub loop-place-preserved : goal.loop-place-preserved
loop-place-preserved c =
    let was = seen c.args.arena.now in
    let a = seen c.loop-place.arena in
    let b = seen c.new_tuple.new.self in
    let so_far = c.loop-place.invariant in
    let made = c.in_ok-tuple.ensures.made in
    let k = c.loop-place.place in
    let n = c.args.count in
    let vss = each (values_of was) c.args.lists.now in
    let parts = c.in_ok-parts.parts in
    let same = ap (values_of a) c.as_slice.ensures ∙ values_kept was a parts so_far.grows (c.in_ok-parts.ensures.owns was c.requires) ∙ c.in_ok-parts.ensures.values was in
    let next = zipped_next k n vss c.loop-place-test.true ∙ ap (λ ws. tuple_of ws ∷ zipped (n - (k + 1)) (each (drop (k + 1)) vss)) (sym same) in
    record {
      values = more_made a b _ _ _ _ made so_far.owns c.in_ok-push.ensures.ok _ _ (ap (λ ws. values_of a c.loop-place.tuples ++ ws) (sym next) ∙ so_far.values);
      owns = more_owned a b _ _ _ _ made so_far.owns c.in_ok-push.ensures.ok;
      store = made.store ∙ so_far.store;
      grows = grows_then was a b so_far.grows made.grows;
    }
