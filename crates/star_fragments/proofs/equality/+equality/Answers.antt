use Rattle.star_steps.proofs.Names.{◌∙◌, body_tree, equal_trees, seen, as_is, state_in, meets_same}
use Rattle.star_fragments.specs.Nodes.{node_in}
use Rattle.star_fragments.proofs.Pairs.{lists_as_maps}
use Rattle.star_fragments.proofs.equality.+equality.Goals as goal

pub nodes_equal-returns-in-List-List : goal.nodes_equal-returns-in-List-List
nodes_equal-returns-in-List-List t c =
    let a = seen c.args.arena.now in
    let s = state_in a c.args.steps.now in
    meets_same as_is c.collections_equal.result (state_in a c.collections_equal.new.steps) _ _
    ((λ i. equal_trees c.args.at.place c.args.at.levels (body_tree (node_in a.held (c.in-List-List.is-0 i))) (body_tree (node_in a.held (c.in-List-List.is-1 i))) s) ∙ lists_as_maps c.args.at.place c.args.at.levels _ _ s)
    c.collections_equal.ensures
