-- Items as the plain children that they stand for.
use Rattle.std.proofs.Common.{◌≡◌, ◌≤◌, ◌<◌, true, false, Bool, List, [], ◌∷◌, ◌++◌, length, get_or, refl, sym, ap, ◌∙◌, arith, if◌then◌else◌}
use Rattle.ytt_base.specs.declared.fault.Place.{Place}
use Rattle.ytt_base.specs.declared.tree.Tree.{Tree}
use Rattle.ytt_base.specs.Trees as plain
use Rattle.ytt_base.specs.Trees.{is_null, scalar, null, boolean, integer, string, list, map, no_trees, tree}
use Rattle.ytt_base.specs.View.{tree_of, trees_of}
use Rattle.value_spec.specs.Outcomes.{Computation}
use Rattle.value_spec.specs.Values as values
use Rattle.value_spec.specs.Values.{Children, a_child, child}
use Rattle.value_spec.specs.Built.{body_tree}
use Rattle.template_meaning.specs.Meaning.{documents}
use Rattle.star_fragments.proofs.Views.{child_in-item}
use Rattle.star_values.specs.View.{body_in, built_in, child_in, scalar_key}
use Rattle.star_values.specs.declared.value.BuiltItem.{BuiltItem}
use Rattle.schema_spec.specs.Reading.{and_types, item_schema, item_type, member_types, named_type, refused}
use Rattle.schema_spec.specs.Schemas.{Schema, TypePairs}

abbrev Gives : Type 0 → Type 0
Gives A = Computation (Unit {0}) A

-- ---- the tree of one item

abbrev unless_null : plain.Tree → plain.Trees
unless_null u = if is_null u then no_trees else tree u no_trees

pub lone : (held : List values.Value) (i : BuiltItem) → documents (built_in held (i ∷ [])) ≡ unless_null (body_tree (body_in held i.value))
lone held i = ap (λ c. documents (a_child c values.no_children)) (child_in-item held i)

pub none-null : (u : plain.Tree) → no_trees ≡ unless_null u → scalar null ≡ u
none-null (scalar null) e = refl
none-null (scalar (boolean b)) e = cc
none-null (scalar (integer z)) e = cc
none-null (scalar (string s)) e = cc
none-null (list ts) e = cc
none-null (map ps) e = cc

last-by : (b : Bool) (front : List Tree) (t : Tree) (u : plain.Tree) → trees_of (front ++ t ∷ []) ≡ (if b then no_trees else tree u no_trees) → tree_of t ≡ u
last-by true [] t u e = cc
last-by true (f ∷ front) t u e = cc
last-by false [] t u e = cc
last-by false (f ∷ []) t u e = cc
last-by false (f ∷ g ∷ front) t u e = cc

pub last-is : (front : List Tree) (t : Tree) (u : plain.Tree) → trees_of (front ++ t ∷ []) ≡ unless_null u → tree_of t ≡ u
last-is front t u e = last-by (is_null u) front t u e

-- ---- items one after another

module _ (held : List values.Value) where
  pub first-member : (i : BuiltItem) (cs : Children) →
      (let m : Gives TypePairs = member_types (a_child (child_in held i) cs) in m) ≡ and_types (named_type i.place (scalar_key i.key) (item_schema false (child_in held i))) (member_types cs)
  first-member i cs =
      ap (λ c. member_types (a_child c cs)) (child_in-item held i)
      ∙ sym (ap (λ c. and_types (named_type i.place (scalar_key i.key) (item_schema false c)) (member_types cs)) (child_in-item held i))

  pub one-item : (p : Place) (is : List BuiltItem) (i : BuiltItem) → 1 ≤ length is → length is < 2 → i ≡ get_or is 0 i → (let m : Gives Schema = item_type p (built_in held is) in m) ≡ item_schema true (child_in held i)
  one-item p [] i h k e = absurd (omega arith)
  one-item p (j ∷ []) i h k e =
      ap (λ c. item_type p (a_child c values.no_children)) (child_in-item held j) ∙ sym (ap (item_schema true) (child_in-item held j)) ∙ ap (λ (i : BuiltItem). item_schema true (child_in held i)) (sym e)
  one-item p (j ∷ l ∷ is) i h k e = absurd (omega arith)

  pub two-items : (p : Place) (is : List BuiltItem) → 2 ≤ length is → (let m : Gives Schema = item_type p (built_in held is) in m) ≡ refused p
  two-items p [] h = absurd (omega arith)
  two-items p (i ∷ []) h = absurd (omega arith)
  two-items p (i ∷ j ∷ is) h = ap (λ c. item_type p (a_child c (a_child (child_in held j) (built_in held is)))) (child_in-item held i)
