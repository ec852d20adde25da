-- Equality, sizes and order where what stands in values may stand in so many levels more.
use Rattle.std.specs.Prelude.{◌∷◌, if◌then◌else◌}
use Rattle.star_steps.specs.Names.{ℕ, ℤ, [], Bool, true, false, List, Ordering, Place, Computation, give, paid, ◌>>=◌, module_value, native_value, Store, numbers_of, equal_by, inside_at, native_name, Sort, Comparison, same, above, measured_by, measured_within, order_by, order_within}
use Rattle.std.specs.declared.cmp.Ordering.TheVariants as ordering
use Rattle.value_spec.specs.Values.{Value}
use Rattle.star_values.specs.declared.value.Sort.TheVariants as sort
use Rattle.operator_spec.specs.Order.{below}

unfoldable pub alike : (levels : ℕ) → Place → (left right : Value) → Computation (Unit {0}) Bool
alike n p a b = equal_by (inside_at n p) p a b

unfoldable pub measure : (ranks levels : ℕ) → Place → Value → Computation (Unit {0}) (Unit {0})
measure ranks n p v = measured_by ranks (measured_within ranks n p) p v

unfoldable pub ordered : (levels : ℕ) → Store → (left right : Value) → Comparison
ordered n store a b = order_by (order_within n store) store a b

-- the same of an order
abbrev pub comparison_of : Ordering → Comparison
comparison_of ordering.Less = below
comparison_of ordering.Equal = same
comparison_of ordering.Greater = above

-- the sizes of both
abbrev pub both_measured : Place → (left right : Value) → Computation (Unit {0}) (Unit {0})
both_measured p a b = measure 6 100 p a >>= λ u. measure 6 100 p b

-- whether a member is equal, by this equality
abbrev pub among_by : (equal : Value → Value → Computation (Unit {0}) Bool) → Place → Value → List Value → Computation (Unit {0}) Bool
among_by equal p v [] = give false
among_by equal p v (w ∷ ws) = paid p (equal w v) >>= λ is. if is then give true else among_by equal p v ws

-- the numbers of a range
abbrev pub numbers_from : ℤ × ℤ × ℤ → List Value
numbers_from q = numbers_of q.0 q.1 q.2

-- the name by which a module, or what can be called, is known
abbrev pub known_name : Value → List ℕ
known_name (module_value x fs) = x
known_name (native_value n) = native_name n
known_name _ = []

abbrev pub is_named : Sort → Bool
is_named sort.Module = true
is_named sort.Native = true
is_named _ = false
