-- The scopes of a name against the environments in which code is evaluated, which have a box for each name.
use Rattle.std.specs.Prelude.{◌≡◌, ℕ, zero, suc, Bool, true, false, List, [], ◌∷◌, ◌++◌, Option, None, is_some}
use Rattle.ytt_base.specs.declared.fault.Place.{Place}
use Rattle.code_spec.specs.Allowed.{parameter_names}
use Rattle.star_spec.specs.Binding.{scope_of_call}
use Rattle.code_spec.specs.Code.{Name, Parameters}
use Rattle.star_spec.specs.Names.{box_of, with_boxes}
use Rattle.value_spec.specs.Outcomes.{State, done}
use Rattle.code_spec.specs.Scopes.{Around, Use, Home, local, global, builtin, unknown, home_of, binds}
use Rattle.value_spec.specs.Values.{Value, Arguments, Env}

-- the boxes are those of these names, and of no others
abbrev pub BoxesOf : List Name → Env → Type 0
BoxesOf names env = (x : Name) → is_some (box_of x env) ≡ binds x names

-- an environment by its parts: one for each function and comprehension around, the innermost first, and the file's
abbrev pub joined : List Env → Env → Env
joined [] file = file
joined (own ∷ more) file = own ++ joined more file

-- each part has the boxes of what is bound there
abbrev pub Parts : Around → List Env → Type 0
Parts [] [] = Unit {0}
Parts (names ∷ around) (own ∷ more) = BoxesOf names own × Parts around more
Parts _ _ = ⊥

abbrev pub part_at : ℕ → List Env → Env
part_at n [] = []
part_at zero (own ∷ more) = own
part_at (suc n) (own ∷ more) = part_at n more

-- the box of a name by what it is
abbrev pub box_at_home : Home → Name → List Env → Env → Option ℕ
box_at_home (local n) x parts file = box_of x (part_at n parts)
box_at_home global x parts file = box_of x file
box_at_home builtin x parts file = None
box_at_home unknown x parts file = None

abbrev pub has_box : Home → Bool
has_box (local n) = true
has_box global = true
has_box builtin = false
has_box unknown = false

-- A name has the box that its scope has for it, and it has none exactly where no scope binds it.
abbrev pub NamesHaveTheirBoxes : Type 0
NamesHaveTheirBoxes =
    (globals builtins : List Name) (u : Use) (parts : List Env) (file : Env) → Parts u.around parts → BoxesOf globals file →
    (box_of u.name (joined parts file) ≡ box_at_home (home_of globals builtins u) u.name parts file) × (is_some (box_of u.name (joined parts file)) ≡ has_box (home_of globals builtins u))

-- a file and a comprehension get the boxes of the names that they bind
abbrev pub NewScopes : Type 0 → Type 0
NewScopes H = (names : List Name) (env : Env) (s t : State H) → with_boxes names [] s ≡ done env t → BoxesOf names env

-- A call of a function gets the boxes of its parameters and of the names that its block binds, in front of those that stand
-- around the function.
abbrev pub CallScopes : Type 0 → Type 0
CallScopes H =
    (p : Place) (ps : Parameters) (names : List Name) (defaults : List Value) (given : Arguments) (around env : Env) (s t : State H) →
    scope_of_call p ps names defaults given around s ≡ done env t → (own : Env) × (env ≡ own ++ around) × BoxesOf (parameter_names ps ++ names) own
