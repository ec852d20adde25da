-- What the parts of a node do to the open nodes, the innermost one first.
use Rattle.std.specs.Prelude.{◌≡◌, ◌-◌, ℕ, suc, drop, length, Bool, true, false, List, [], ◌∷◌, Some, Result, Ok, Err}
use Rattle.ytt_base.specs.declared.fault.Place.{Place}
use Rattle.ytt_base.specs.declared.fault.Stop.{Stop}
use Rattle.ytt_base.specs.Trees.{Scalar, scalar}
use Rattle.code_spec.specs.Code.{Name}
use Rattle.code_spec.specs.Program.{ItemKind, Holds}
use Rattle.star_spec.specs.Flow.{on, Part}
use Rattle.value_spec.specs.Outcomes.{Computation, State, done, give, ◌>>=◌}
use Rattle.value_spec.specs.Values.{Arguments, Children, no_children, Value, one, taken}
use Rattle.star_steps.specs.Meets.{Meets, state_in}
use Rattle.star_values.specs.View.{View}
use Rattle.template_meaning.specs.Adding.{add_taken}
use Rattle.template_meaning.specs.Run.{Node, and_note, closed_with, on_top, opened}
use Rattle.template_meaning.specs.Take.{take_over}

-- a node opens; its step is taken elsewhere
abbrev pub starting : {H : Type 0} → Place → ItemKind → Holds → Part H (List Node)
starting p k h ns = on_top (λ m ms. give (on (opened p k h (suc m.level) ∷ m ∷ ms))) ns

-- a note with the values of its arguments
abbrev pub noting : {H : Type 0} → Name → Arguments → Part H (List Node)
noting x vs ns = on_top (λ n ms. give (on (record n { notes = and_note n.notes x vs } ∷ ms))) ns

abbrev pub keying : {H : Type 0} → Scalar → Part H (List Node)
keying x ns = on_top (λ n ms. give (on (record n { key = Some x } ∷ ms))) ns

-- a written value
abbrev pub valuing : {H : Type 0} → Scalar → Part H (List Node)
valuing x ns = on_top (λ n ms. give (on (record n { value = taken (one (scalar x)) } ∷ ms))) ns

-- the value of the node on top, which isn't the outermost one
abbrev pub taking : {H : Type 0} → Value → Part H (List Node)
taking v ns = on_top (λ n ms. on_top (λ m ls. do
  b ← take_over n.place n.kind m.level v
  give (on (record n { value = b } ∷ m ∷ ls))) ms) ns

-- the node on top closes into the one below
abbrev pub ending : {H : Type 0} → Part H (List Node)
ending ns = on_top (λ n ms. on_top (λ m ls. do
  all ← add_taken m.children n.place n.notes n.key (closed_with n.holds n.value n.children)
  give (on (record m { children = all } ∷ ls))) ms) ns

-- ---- what calls do

-- the part goes on to these nodes
abbrev pub Does : Part (Unit {0}) (List Node) → (old new : List Node) → Type 0
Does part old new = (s : State (Unit {0})) → part old s ≡ done (on new) s

-- so it does, or nothing is changed
abbrev pub Changes : {E : Type 0} → Part (Unit {0}) (List Node) → Result (Unit {0}) E → (old new : List Node) → Type 0
Changes part (Ok u) old new = Does part old new
Changes part (Err e) old new = new ≡ old

-- what a call returned is how a computation ends that leaves each state as it is
abbrev pub Tells : {A B : Type 0} → (A → B) → Result A Stop → Computation (Unit {0}) B → Type 0
Tells view result m = (state : State (Unit {0})) → Meets view result state (m state)

-- The same over an arena, with so many steps before it and after it; want of memory says nothing.
abbrev pub Spends : {A B : Type 0} → (A → B) → Result A Stop → View → (before after : ℕ) → Computation (Unit {0}) B → Type 0
Spends view result a before after m = Meets view result (state_in a after) (m (state_in a before))

-- a node is open that isn't the outermost one
abbrev pub has_two : List Node → Bool
has_two [] = false
has_two (n ∷ []) = false
has_two (n ∷ m ∷ ms) = true

-- the children of the outermost node
abbrev pub finished : List Node → Children
finished [] = no_children
finished (n ∷ []) = n.children
finished (n ∷ m ∷ ms) = finished (m ∷ ms)

-- the outermost node, with so many above it at most
abbrev pub cut_to : (height : ℕ) → List Node → List Node
cut_to height ns = drop (length ns - suc height) ns

-- the innermost node stands there
abbrev pub IsOnTopAt : Place → List Node → Type 0
IsOnTopAt p [] = ⊥
IsOnTopAt p (n ∷ ns) = p ≡ n.place
