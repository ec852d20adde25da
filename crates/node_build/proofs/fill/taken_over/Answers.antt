use Rattle.std.proofs.Common.{ap}
use Rattle.star_steps.proofs.Meeting.{meets_same}
use Rattle.star_steps.specs.Meets.{state_in}
use Rattle.star_tree.specs.View.{item_kind_of}
use Rattle.star_values.specs.Objects.{seen}
use Rattle.node_build.proofs.Filling.{other_over}
use Rattle.node_build.specs.View.{filled_in}
use Rattle.node_build.proofs.fill.taken_over.Goals as goal

pub returns-in-Fragment-clause-meaning : goal.returns-in-Fragment-clause-meaning
returns-in-Fragment-clause-meaning c = rw c.in-Fragment.is (c.fragment_taken.ensures.meaning (item_kind_of c.args.kind))

pub returns-in_default : goal.returns-in_default
returns-in_default c =
    let a = seen c.args.arena.now in
    record {
      meaning = meets_same (filled_in a.held) c.tree_taken.result _ _ _
          (ap (λ m. m (state_in a c.args.steps.now)) (other_over c.args.place (item_kind_of c.args.kind) c.args.around a c.args.value c.in_default.not-Native c.in_default.not-Fragment)) c.tree_taken.ensures.meaning;
      owned = c.tree_taken.ensures.owned;
    }
