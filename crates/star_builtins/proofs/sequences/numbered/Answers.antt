use Rattle.std.proofs.Common.{◌<◌, ◌^◌, ◌≡◌, ◌++◌, FitsSigned, ap, arith, of_z, pos, rules, subst, sym, to_z, ◌+ℤ◌, ◌∙◌}
use Rattle.std.proofs.lemmas.Int.{to_z-of_z, to_z_pos}
use Rattle.std.specs.Int.{w128}
use Rattle.star_steps.proofs.Names.{OwnsAll, owns_kept, seen, values_of}
use Rattle.star_values.proofs.Growing.{grows_then}
use Rattle.star_builtins.proofs.Sequencing.{more_made, more_owned, numbered_next}
use Rattle.star_builtins.proofs.sequences.numbered.Goals as goal

pub new_tuple-requires : goal.new_tuple-requires
new_tuple-requires c =
    let was = seen c.args.arena.now in
    (tt, (owns_kept was (seen c.loop-first.arena) c.in-Some.first.now c.loop-first.invariant.grows (subst (OwnsAll was) c.in-Some.ensures.cases.0 c.loop-first.invariant.rest).0, tt))

pub loop-first-preserved : goal.loop-first-preserved
loop-first-preserved c =
    let was = seen c.args.arena.now in
    let a = seen c.loop-first.arena in
    let b = seen c.new_tuple.new.self in
    let so_far = c.loop-first.invariant in
    let made = c.in_ok-tuple.ensures.made in
    let owned = subst (OwnsAll was) c.in-Some.ensures.cases.0 so_far.rest in
    let z = to_z w128 (of_z w128 c.args.start) in
    let place = c.loop-first.place in
    let from : FitsSigned w128 c.args.start = search rules in
    let fits : FitsSigned w128 (z +ℤ pos place) = subst (λ y. FitsSigned w128 (y +ℤ pos place)) (sym (to_z-of_z w128 c.args.start from)) (c.requires.fits place (omega (arith, c.in-Some.ensures.cases.1, so_far.place))) in
    let within : place < 2 ^ 127 = search (rules, arith) in
    let number : to_z w128 (of_z w128 (z +ℤ to_z w128 place)) ≡ z +ℤ pos place = ap (λ k. to_z w128 (of_z w128 (z +ℤ k))) (to_z_pos w128 place within) ∙ to_z-of_z w128 _ fits in
    let next = numbered_next was a z _ place c.in-Some.first.now c.in-Some.more.now c.loop-first.rest.now number so_far.grows owned.0 c.in-Some.ensures.cases.0 in
    record {
      values = more_made a b _ _ _ _ made so_far.owns c.in_ok-push.ensures.ok _ _ (ap (λ ws. values_of a c.loop-first.tuples ++ ws) (sym next) ∙ so_far.values);
      place = omega (arith, c.in-Some.ensures.cases.1, so_far.place);
      rest = owned.1;
      owns = more_owned a b _ _ _ _ made so_far.owns c.in_ok-push.ensures.ok;
      store = made.store ∙ so_far.store;
      grows = grows_then was a b so_far.grows made.grows;
    }
