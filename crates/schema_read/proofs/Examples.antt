-- The types of examples of more than one form.
use Rattle.std.proofs.Common.{◌≡◌, ◌≤◌, true, false, Bool, ◌&&◌, List, [], ◌∷◌, length, refl, arith}
use Rattle.ytt_base.specs.declared.fault.Place.{Place}
use Rattle.ytt_base.specs.declared.tree.Tree.{Tree}
use Rattle.ytt_base.specs.Trees as plain
use Rattle.ytt_base.specs.Trees.{is_null, scalar, null, boolean, integer, string, list, map}
use Rattle.ytt_base.specs.View.{trees_of}
use Rattle.value_spec.specs.Outcomes.{Computation, State, give}
use Rattle.schema_spec.specs.Reading.{example_item, example_type, refused, value_type}
use Rattle.schema_spec.specs.Schemas.{Schema, any_type, simple}

-- a list of two
pub two-items : (p : Place) (ts : List Tree) (s : State (Unit {0})) → 2 ≤ length ts → example_item p (trees_of ts) s ≡ refused {A = Schema} p s
two-items p [] s h = absurd (omega arith)
two-items p (t ∷ []) s h = absurd (omega arith)
two-items p (t ∷ u ∷ ts) s h = refl

-- ---- where null may stand

abbrev Gives : Type 0
Gives = Computation (Unit {0}) Schema

pub null-any : (p : Place) (t : plain.Tree) → is_null t ≡ true → value_type true p t ≡ (let m : Gives = give (simple any_type (scalar null)) in m)
null-any p (scalar null) e = refl
null-any p (scalar (boolean b)) e = cc
null-any p (scalar (integer z)) e = cc
null-any p (scalar (string n)) e = cc
null-any p (list ts) e = cc
null-any p (map ps) e = cc

pub no-null : (b : Bool) (p : Place) (t : plain.Tree) → (b && is_null t) ≡ false → value_type b p t ≡ (let m : Gives = example_type p t in m)
no-null false p t e = refl
no-null true p (scalar null) e = cc
no-null true p (scalar (boolean b)) e = refl
no-null true p (scalar (integer z)) e = refl
no-null true p (scalar (string n)) e = refl
no-null true p (list ts) e = refl
no-null true p (map ps) e = refl
