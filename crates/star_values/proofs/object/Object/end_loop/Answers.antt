use Rattle.star_values.proofs.Names.{sym, subst, OwnsContents}
use Rattle.star_values.proofs.object.Object.end_loop.Goals as goal

pub returns-in-Ok-clause-owned : goal.returns-in-Ok-clause-owned
returns-in-Ok-clause-owned c = λ a owned. c.in-Ok.ensures.owned a (subst (OwnsContents a) (sym c.replace.ensures.value) owned)
