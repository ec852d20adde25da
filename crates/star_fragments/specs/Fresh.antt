-- What a call makes of a tree, in an arena that grows.
use Rattle.std.specs.Prelude.{◌≡◌, ◌∷◌}
use Rattle.star_steps.specs.Names.{ℕ, List, [], Result, IfOk, key_of, tree_of, Memory, Key, Computation, done, give, ◌>>=◌, fresh_value, value_of_scalar, pair_in, pairs_in, Each, Grows, OwnsAll, OwnsPair, body_values, item_values, View, BuiltValue, fold-BuiltValue, Value, state_in}
use Rattle.ytt_base.specs.declared.tree.Tree.{Tree}
use Rattle.value_spec.specs.Values as plain

-- It gives what the computation gives, which takes no steps, and which the arena that is left owns.
pub record Builds {A B : Type 0} (view : View → A → B) (Owned : View → A → Type 0) (m : Computation (Unit {0}) B) (result : Result A Memory) (a b : View) : Type 0 where
  pub meaning : IfOk result (λ x. (n : ℕ) → m (state_in a n) ≡ done (view b x) (state_in b n))
  pub owns : IfOk result (Owned b)
  pub grows : Grows a b

abbrev pub OwnsPairs : View → List (Value × Value) → Type 0
OwnsPairs a ps = Each (OwnsPair a) ps

abbrev pub pair_of : View → Value × Value → plain.Value × plain.Value
pair_of a p = pair_in a.held p

abbrev pub pairs_of : View → List (Value × Value) → List (plain.Value × plain.Value)
pairs_of a ps = pairs_in a.held ps

-- ---- what is made

abbrev pub value_made : Tree → Computation (Unit {0}) plain.Value
value_made t = fresh_value (tree_of t)

abbrev pub pair_made : Key × Tree → Computation (Unit {0}) (plain.Value × plain.Value)
pair_made p = value_made p.1 >>= λ v. give (value_of_scalar (key_of p.0), v)

-- one after another
abbrev pub each_made : {T A : Type 0} → (T → Computation (Unit {0}) A) → List T → Computation (Unit {0}) (List A)
each_made f [] = give []
each_made f (t ∷ ts) = f t >>= λ x. each_made f ts >>= λ xs. give (x ∷ xs)

-- ---- what an item holds

abbrev pub OwnsBody : View → BuiltValue → Type 0
OwnsBody a w = OwnsAll a (fold-BuiltValue (List Value) (List Value) body_values item_values w)
