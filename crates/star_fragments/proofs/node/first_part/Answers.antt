use Rattle.star_fragments.proofs.node.first_part.Goals as goal

pub returns-in-Trees : goal.returns-in-Trees
returns-in-Trees c = λ held. rw c.in-Trees.is (c.first_tree.ensures held)

pub returns-in-Pairs : goal.returns-in-Pairs
returns-in-Pairs c = λ held. rw c.in-Pairs.is (c.first_pair.ensures held)

pub returns-in-Items : goal.returns-in-Items
returns-in-Items c = λ held. rw c.in-Items.is (c.first_item.ensures held)
