use Rattle.std.proofs.Common.{◌∷◌, [], ap, ◌∙◌}
use Rattle.star_values.proofs.Growing.{each_joined}
use Rattle.star_values.specs.Owns.{OwnsItem}
use Rattle.star_values.specs.View.{in_children}
use Rattle.node_build.proofs.InPlace.{element, elements_in, turned_all, turned_next}
use Rattle.node_build.proofs.fill.elements.Goals as goal

pub loop-tree-preserved : goal.loop-tree-preserved
loop-tree-preserved c =
    let place = c.args.place in
    let trees = c.args.trees.now in
    let i = c.loop-tree.tree-index in
    let item = c.in_ok-member.field-0 in
    record {
      turned = λ held. rw c.in_ok-push.ensures.ok
          (turned_next (element place) held trees i c.loop-tree.items (c.loop-tree.invariant.turned held) c.tree-item.result item
          (rw c.as_slice-tree-items.ensures at c.loop-tree-test.true) (rw c.as_slice-tree-items.ensures at c.tree-item.is) (c.in_ok-member.ensures.meaning held));
      owned = λ a. rw c.in_ok-push.ensures.ok (each_joined (OwnsItem a) c.loop-tree.items (item ∷ []) (c.loop-tree.invariant.owned a) (c.in_ok-member.ensures.owned a, tt));
    }

pub returns-clause-meaning : goal.returns-clause-meaning
returns-clause-meaning c = λ held.
    let past = rw c.as_slice-tree-items.ensures at c.loop-tree-test.false in
    ap in_children (turned_all (element c.args.place) held c.args.trees.now c.loop-tree.tree-index c.loop-tree.items (c.loop-tree.invariant.turned held) past) ∙ elements_in c.args.place c.args.trees.now
