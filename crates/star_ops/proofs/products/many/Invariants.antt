use Rattle.star_steps.proofs.Names.{◌≡◌, string_bytes, copies}
use Rattle.star_ops.proofs.products.many.Given as goal

abbrev pub invariant-loop : goal.invariant-loop
invariant-loop l = string_bytes l.all ≡ copies l.counter l.text
