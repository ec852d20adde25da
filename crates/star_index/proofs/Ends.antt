-- How calls of an index or a slice end.
use Rattle.star_steps.proofs.Names.{◌≡◌, ℕ, Ok, Err, sym, ◌∙◌, Stop, Ending, Computation, done, with_object, Owns, View, Value, grows_same, Makes, MakesObject, Gives, Meets, state_in, meets_same, value_of}
use Rattle.ytt_base.specs.declared.fault.Stop.TheVariants as stop
use Rattle.value_spec.specs.Values as plain
use Rattle.star_index.specs.Cuts.{Refuses}

-- a value that is made
pub gives_made : (x : plain.Value) (v : Value) (a b : View) (n : ℕ) (p : Ending (Unit {0}) plain.Value) → p ≡ done x (state_in a n) → Makes x (Ok v) a b → Gives p (Ok v) a b n
gives_made x v a b n p e m = record { meaning = e ∙ (λ i. done (sym m.value i) (record { store = sym m.store i; steps = n; host = tt })); owns = m.owns; grows = m.grows }

pub gives_object : (x : plain.Value) (c : plain.Contents) (v : Value) (a b : View) (n : ℕ) (p : Ending (Unit {0}) plain.Value) → p ≡ done x (record { store = with_object c a.store; steps = n; host = tt }) → MakesObject x c (Ok v) a b → Gives p (Ok v) a b n
gives_object x c v a b n p e m = record { meaning = e ∙ (λ i. done (sym m.value i) (record { store = sym m.store i; steps = n; host = tt })); owns = m.owns; grows = m.grows }

-- a value that stands there already
pub gives_value : (v : Value) (a : View) (n : ℕ) (p : Ending (Unit {0}) plain.Value) → p ≡ done (value_of a v) (state_in a n) → Owns a v → Gives p (Ok v) a a n
gives_value v a n p e o = record { meaning = e; owns = o; grows = grows_same a }

refused_so : (e : Stop) (m : Computation (Unit {0}) plain.Value) (a : View) (n : ℕ) → Refuses e m → Meets (value_of a) (Err e) (state_in a n) (m (state_in a n))
refused_so (stop.Fault f) m a n h = h (state_in a n)
refused_so stop.Memory m a n h = tt

-- a refusal of what is computed
pub gives_refused : (e : Stop) (m : Computation (Unit {0}) plain.Value) (a : View) (n : ℕ) (p : Ending (Unit {0}) plain.Value) → Refuses e m → p ≡ m (state_in a n) → Gives p (Err e) a a n
gives_refused e m a n p h same = record { meaning = meets_same (value_of a) (Err e) (state_in a n) (m (state_in a n)) p same (refused_so e m a n h); owns = tt; grows = grows_same a }
