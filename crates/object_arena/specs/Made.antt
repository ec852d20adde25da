-- What a call does that makes a value.
use Rattle.std.specs.Prelude.{◌≡◌}
use Rattle.object_arena.specs.Names.{Result, IfOk, OnErr, OnOk, Memory, with_object, Value, Grows, Owns, View, value_of}
use Rattle.value_spec.specs.Values as plain

-- It gives the value x, which the arena owns, and leaves the store; where memory is wanting nothing is changed.
pub record Makes (x : plain.Value) (result : Result Value Memory) (a b : View) : Type 0 where
  pub value : IfOk result (λ v. value_of b v ≡ x)
  pub owns : IfOk result (Owns b)
  pub store : b.store ≡ a.store
  pub grows : Grows a b
  pub err : OnErr result (b ≡ a)

-- It gives the value x of a new object with these contents, which the arena owns.
pub record MakesObject (x : plain.Value) (contents : plain.Contents) (result : Result Value Memory) (a b : View) : Type 0 where
  pub value : IfOk result (λ v. value_of b v ≡ x)
  pub owns : IfOk result (Owns b)
  pub store : OnOk result (b.store ≡ with_object contents a.store)
  pub held : b.held ≡ a.held
  pub grows : Grows a b
  pub err : OnErr result (b ≡ a)
