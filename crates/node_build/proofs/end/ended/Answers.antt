use Rattle.std.proofs.Common.{sym, subst}
use Rattle.star_values.specs.Owns.{OwnsBuilt}
use Rattle.node_build.specs.declared.members.Members.{Members}
use Rattle.node_build.proofs.end.ended.Goals as goal

pub returns-clause-owned : goal.returns-clause-owned
returns-clause-owned c = λ a n u.
    (u.0, u.1, c.add-answer.ensures.owned a n (subst (λ (m : Members). OwnsBuilt a m.items.items) (sym c.replace-items.ensures.value) u.2))
