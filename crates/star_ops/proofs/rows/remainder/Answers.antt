use Rattle.star_steps.proofs.Names.{value_of, state_in, gives_same}
use Rattle.star_ops.proofs.IntegerRows.{rest_of_int}
use Rattle.star_ops.proofs.rows.remainder.Goals as goal

pub returns-in-Int : goal.returns-in-Int
returns-in-Int c = λ a n. rw c.in-Int.is (gives_same _ _ _ _ _ _ (rest_of_int c.args.place c.in-Int.field-0 (value_of a c.args.right) (state_in a n)) (rw c.in-Int.is at c.on_integers.ensures a n))
