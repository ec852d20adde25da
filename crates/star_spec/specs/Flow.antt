-- What parts of a block do, in sequence, in branches and in loops, to what is built so far (a K).
use Rattle.std.specs.Prelude.{Bool, List, [], ◌∷◌, Option, Some, None, if◌then◌else◌}
use Rattle.ytt_base.specs.declared.fault.Place.{Place}
use Rattle.code_spec.specs.Code.{Expr}
use Rattle.value_spec.specs.Values.{Value, Env}
use Rattle.value_spec.specs.Outcomes.{Computation, paid, give, finally, on_store, ◌>>=◌}
use Rattle.value_spec.specs.Members.{walked_in}
use Rattle.star_spec.specs.Language.{Call, Language, Word, breaks, continues, returns}
use Rattle.value_spec.specs.Store.{begin_loop, end_loop}

-- how a part of a block ends: it goes on to the next one, or leaves the block
pub data Flow (K : Type 0) : Type 0 where
  on : K → Flow K
  out : Word → K → Flow K

abbrev pub Part : Type 0 → Type 0 → Type 0
Part H K = K → Computation H (Flow K)

abbrev pub skip : {H K : Type 0} → Part H K
skip k = give (on k)

abbrev pub go_on : {H K : Type 0} → Part H K → Flow K → Computation H (Flow K)
go_on b (on k) = b k
go_on b (out w k) = give (out w k)

-- one part, and then another
abbrev pub in_turn : {H K : Type 0} → Part H K → Part H K → Part H K
in_turn a b k = a k >>= go_on b

abbrev pub worded : {K : Type 0} → K → Option Word → Flow K
worded k None = on k
worded k (Some w) = out w k

-- a statement as a part, which builds nothing
abbrev pub plain : {H K : Type 0} → Computation H (Option Word) → Part H K
plain m k = m >>= λ w. give (worded k w)

-- one part or the other, by a test
abbrev pub when : {H K : Type 0} → Computation H Bool → Part H K → Part H K → Part H K
when test a b k = test >>= λ v. (if v then a else b) k

abbrev pub test_of : {H : Type 0} → Language H → Call H → Expr → Env → Computation H Bool
test_of language call e env = language.eval call e env >>= language.truth

-- ---- loops

-- what follows one turn of a loop
abbrev pub next_turn : {H K : Type 0} → Part H K → Flow K → Computation H (Flow K)
next_turn more (on k) = more k
next_turn more (out continues k) = more k
next_turn more (out breaks k) = give (on k)
next_turn more (out (returns v) k) = give (out (returns v) k)

-- one turn for each member, each after a step
abbrev pub turns : {H K : Type 0} → Place → (Value → Part H K) → List Value → Part H K
turns p turn [] k = give (on k)
turns p turn (v ∷ vs) k = paid p (turn v k) >>= next_turn (turns p turn vs)

-- each way out of a loop over a value lowers the count that it raised
abbrev pub walk : {H K : Type 0} → Value → Part H K → Part H K
walk v a k = λ s. finally (a k (on_store (begin_loop (walked_in v)) s)) (on_store (end_loop (walked_in v)))

-- a part for each member that a value has now, which is bound before
abbrev pub over_members : {H K : Type 0} → Place → Computation H (List Value) → (bind : Value → Computation H (Unit {0})) → Value → Part H K → Part H K
over_members p members bind v part k = members >>= λ vs. walk v (turns p (λ w j. bind w >>= λ u. part j) vs) k

-- a loop takes its step, and its members are those that there are then
abbrev pub loop : {H K : Type 0} → Language H → Call H → Place → (target members : Expr) → Env → Part H K → Part H K
loop language call p x e env part k = paid p (language.eval call e env >>= λ v. over_members p (language.members p v) (λ w. language.assign call p x w env) v part k)
