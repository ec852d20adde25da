use Rattle.star_steps.proofs.Names.{◌≡◌, copies, seen, OwnsAll, values_of}
use Rattle.star_ops.proofs.products.many_members.Given as goal

abbrev pub invariant-loop : goal.invariant-loop
invariant-loop l = (values_of (seen l.arena) l.all ≡ copies l.counter (values_of (seen l.arena) l.members)) × OwnsAll (seen l.arena) l.all
