use Rattle.star_steps.proofs.Names.{seen, as_is, state_in, meets_same}
use Rattle.star_fragments.proofs.Spread.{fragments_by}
use Rattle.star_fragments.proofs.equality.fragments_equal.Goals as goal

pub returns : goal.returns
returns c =
    meets_same as_is c.nodes_equal.result (state_in (seen c.args.arena.now) c.nodes_equal.new.steps) _ _
    (fragments_by c.args.at.levels c.args.at.place _ _ _ _ _ _ (state_in (seen c.args.arena.now) c.args.steps.now) c.node_of_fragment-first.ensures c.node_of_fragment-second.ensures)
    c.nodes_equal.ensures
