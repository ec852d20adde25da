use Rattle.std.proofs.Common.{◌∷◌, [], Some, ap, ◌∙◌}
use Rattle.ytt_base.specs.View.{key_of, tree_of}
use Rattle.star_values.proofs.Growing.{each_joined}
use Rattle.star_values.specs.Owns.{OwnsItem}
use Rattle.star_values.specs.View.{in_children}
use Rattle.value_spec.specs.Values.{child, no_built, one}
use Rattle.node_build.proofs.InPlace.{entries_in, entry, turned_all, turned_next}
use Rattle.node_build.proofs.fill.pairs.Goals as goal

pub loop-key-preserved : goal.loop-key-preserved
loop-key-preserved c =
    let place = c.args.place in
    let pairs = c.args.pairs.now in
    let i = c.loop-key.key-index in
    let pair = c.loop-key-item.result in
    let item = c.in_ok-member.field-0 in
    record {
      turned = λ held. rw c.in_ok-push.ensures.ok
          (turned_next (entry place) held pairs i c.loop-key.items (c.loop-key.invariant.turned held) pair item
          (rw c.as_slice-key-items.ensures at c.loop-key-test.true) (rw c.as_slice-key-items.ensures at c.loop-key-item.is)
          (c.in_ok-member.ensures.meaning held ∙ ap (λ k. child place no_built (Some (key_of k)) (one (tree_of pair.1))) c.in_ok-copy.ensures));
      owned = λ a. rw c.in_ok-push.ensures.ok (each_joined (OwnsItem a) c.loop-key.items (item ∷ []) (c.loop-key.invariant.owned a) (c.in_ok-member.ensures.owned a, tt));
    }

pub returns-clause-meaning : goal.returns-clause-meaning
returns-clause-meaning c = λ held.
    let past = rw c.as_slice-key-items.ensures at c.loop-key-test.false in
    ap in_children (turned_all (entry c.args.place) held c.args.pairs.now c.loop-key.key-index c.loop-key.items (c.loop-key.invariant.turned held) past) ∙ entries_in c.args.place c.args.pairs.now
