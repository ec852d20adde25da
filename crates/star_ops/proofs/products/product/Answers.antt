use Rattle.star_steps.proofs.Names.{ap, seen, value_of, state_in, gives_same}
use Rattle.star_ops.proofs.IntegerRows.{product_of_ints}
use Rattle.star_ops.proofs.products.product.Goals as goal

pub returns-in-Int-Int : goal.returns-in-Int-Int
returns-in-Int-Int c =
    let a = seen c.args.arena.now in
    let ints = c.in-Int-Int in
    gives_same _ _ _ _ _ _ (product_of_ints c.args.place (value_of a c.args.left) (value_of a c.args.right) ints.field-0-0 ints.field-0-1 (state_in a c.args.steps.now) (ap (value_of a) ints.is-0) (ap (value_of a) ints.is-1)) (c.on_integers.ensures a c.args.steps.now)
