-- The boxes of variables, by their numbers, against the environments in which code is evaluated, which have a box for each
-- name: so that what is said of names holds of their variables.
use Rattle.std.specs.Prelude.{◌≡◌, ℕ, zero, suc, Bool, true, false, List, [], ◌∷◌, ◌++◌, length, slice_get, Option, Some, None, is_some, bytes_eq, position, if◌then◌else◌, map as each, IsTrue}
use Rattle.std.specs.List.{list_any}
use Rattle.ytt_base.specs.declared.fault.Place.{Place}
use Rattle.code_spec.specs.Allowed.{are_distinct, parameter_names}
use Rattle.value_spec.specs.Binding.{bound_values}
use Rattle.star_spec.specs.Binding.{boxes_for}
use Rattle.code_spec.specs.Code.{Name, Parameters}
use Rattle.star_spec.specs.Names.{box_of, with_boxes}
use Rattle.value_spec.specs.Outcomes.{State, done, on_store}
use Rattle.code_spec.specs.Scopes.{Around, Use, home_of}
use Rattle.value_spec.specs.Store.{object}
use Rattle.value_spec.specs.Values.{Value, Arguments, Env, Store, of_box}
use Rattle.star_resolve.specs.declared.levels.Variable.{Variable}
use Rattle.star_resolve.specs.declared.levels.Variable.TheVariants as variable
use Rattle.star_resolve.specs.Environments.{BoxesOf, has_box, joined}
use Rattle.star_resolve.specs.Variables.{each_once, variable_of}

-- the boxes of a scope's variables, in the order of their numbers
abbrev pub Frame : Type 0
Frame = List ℕ

abbrev pub box_in : Frame → Option ℕ → Option ℕ
box_in frame None = None
box_in frame (Some k) = slice_get frame k

-- each name that a scope binds has the box of its variable, and no other name has one
pub record FrameOf (names : List Name) (env : Env) (frame : Frame) : Type 0 where
  pub boxes : (x : Name) → box_of x env ≡ box_in frame (position (bytes_eq x) (each_once names))
  pub known : BoxesOf names env

-- ---- what stands around a place

abbrev pub Frames : Around → List Env → List Frame → Type 0
Frames [] [] [] = Unit {0}
Frames (names ∷ around) (own ∷ more) (frame ∷ frames) = FrameOf names own frame × Frames around more frames
Frames _ _ _ = ⊥

abbrev pub frame_at : ℕ → List Frame → Frame
frame_at n [] = []
frame_at zero (frame ∷ frames) = frame
frame_at (suc n) (frame ∷ frames) = frame_at n frames

-- the box of a variable, where these are the frames around and the file's; what the language binds has none
abbrev pub variable_box : List Frame → (globals : Frame) → Option Variable → Option ℕ
variable_box frames globals (Some (variable.Local n k)) = slice_get (frame_at n frames) k
variable_box frames globals (Some (variable.Global k)) = slice_get globals k
variable_box frames globals (Some (variable.Builtin k)) = None
variable_box frames globals None = None

-- a variable of the program, and none of the language
abbrev pub is_own : Variable → Bool
is_own (variable.Local n k) = true
is_own (variable.Global k) = true
is_own (variable.Builtin k) = false

-- The box of a name is the box of its variable. It has one exactly where a scope binds it.
abbrev pub NamesAreVariables : Type 0
NamesAreVariables =
    (globals builtins : List Name) (u : Use) (parts : List Env) (file : Env) (frames : List Frame) (own : Frame) → Frames u.around parts frames → FrameOf globals file own →
    (box_of u.name (joined parts file) ≡ variable_box frames own (variable_of globals builtins u)) × (is_some (box_of u.name (joined parts file)) ≡ has_box (home_of globals builtins u))

-- So a name whose variable is the program's has a box, and is never unknown when it is read or written.
abbrev pub OwnNamesHaveBoxes : Type 0
OwnNamesHaveBoxes =
    (globals builtins : List Name) (u : Use) (parts : List Env) (file : Env) (frames : List Frame) (own : Frame) (v : Variable) → Frames u.around parts frames → FrameOf globals file own →
    variable_of globals builtins u ≡ Some v → IsTrue (is_own v) → (r : ℕ) × (box_of u.name (joined parts file) ≡ Some r) × (variable_box frames own (Some v) ≡ Some r)

-- ---- new scopes

-- so many numbers, from this one on
abbrev pub counted : (first many : ℕ) → List ℕ
counted n zero = []
counted n (suc k) = n ∷ counted (suc n) k

-- names with boxes from this one on, each in front of those before it
abbrev pub boxed : ℕ → List Name → Env → Env
boxed n [] env = env
boxed n (x ∷ xs) env = boxed (suc n) xs ((x, n) ∷ env)

abbrev pub unset_boxes : ℕ → Store
unset_boxes zero = []
unset_boxes (suc k) = object (of_box None) ∷ unset_boxes k

-- so many new boxes, without values
abbrev pub with_unset : {H : Type 0} → ℕ → State H → State H
with_unset k s = on_store (λ store. store ++ unset_boxes k) s

-- those names that are not among these, each once
abbrev pub added : List Name → List Name → List Name
added known [] = []
added known (x ∷ xs) = if list_any (bytes_eq x) known then added known xs else x ∷ added (known ++ x ∷ []) xs

-- A file and a comprehension get a new box for each variable, in the order of their numbers.
abbrev pub NewFrames : Type 0 → Type 0
NewFrames H =
    (names : List Name) (s : State H) → let first = length s.store in let each_name = each_once names in
    (with_boxes names [] s ≡ done (boxed first each_name []) (with_unset (length each_name) s)) × FrameOf names (boxed first each_name []) (counted first (length each_name))

-- A call of a function whose parameters have each its own name: these are its first variables, in their order, with the boxes
-- of the values that these get; and the others that its block binds get new boxes behind them.
abbrev pub CallFrames : Type 0 → Type 0
CallFrames H =
    (p : Place) (ps : Parameters) (names : List Name) (defaults : List Value) (given : Arguments) (values : List Value) (own : Env) (s r t : State H) →
    IsTrue (are_distinct (parameter_names ps)) → bound_values p ps defaults given s ≡ done values r → boxes_for (parameter_names ps) values r ≡ done own t →
    let first = length t.store in let others = added (parameter_names ps) names in
    (each_once (parameter_names ps ++ names) ≡ parameter_names ps ++ others)
    × (with_boxes names own t ≡ done (boxed first others own) (with_unset (length others) t))
    × FrameOf (parameter_names ps ++ names) (boxed first others own) (each (λ (b : Name × ℕ). b.1) own ++ counted first (length others))
