-- The members of an object that a loop walks.
use Rattle.std.proofs.Common.{◌≡◌, ℕ, Option, Some, None, IsTrue, slice_get, option_map, refl, ap, subst, sym, ◌∙◌, rules}
use Rattle.value_spec.specs.Members.{keys_in}
use Rattle.value_spec.specs.Store.{list_in, list_of_contents, pairs_in, pairs_of_contents}
use Rattle.value_spec.specs.Values as plain
use Rattle.value_spec.specs.Values.{of_list, of_dict, of_box, of_function}
use Rattle.star_values.proofs.Slots.{some_same}
use Rattle.star_values.specs.Objects.{lent_in, walked_members}
use Rattle.star_values.specs.Owns.{Owns, contents_sort, object_sort}
use Rattle.star_values.specs.View.{View, value_of}
use Rattle.star_values.specs.declared.lent.Lent.{Lent}
use Rattle.star_values.specs.declared.value.Ref.{Ref}
use Rattle.star_values.specs.declared.value.Sort.TheVariants as sort
use Rattle.star_values.specs.declared.value.Value.TheVariants as value
use Rattle.star_eval.specs.Sources.{IsWalkOf, members_at, object_members, walked_sort}

-- ---- lists and dicts

listed : (c : plain.Contents) → contents_sort c ≡ sort.List → list_of_contents c ≡ walked_members c
listed (of_list vs) h = refl
listed (of_dict ps) h = absurd (search (rules, h))
listed (of_box v) h = absurd (search (rules, h))
listed (of_function f) h = absurd (search (rules, h))

keyed : (c : plain.Contents) → contents_sort c ≡ sort.Dict → keys_in (pairs_of_contents c) ≡ walked_members c
keyed (of_list vs) h = absurd (search (rules, h))
keyed (of_dict ps) h = refl
keyed (of_box v) h = absurd (search (rules, h))
keyed (of_function f) h = absurd (search (rules, h))

object_listed : (o : Option plain.Object) → object_sort o ≡ Some sort.List → list_in o ≡ object_members o
object_listed None h = absurd (search (rules, h))
object_listed (Some o) h = listed o.contents (some_same _ _ h)

object_keyed : (o : Option plain.Object) → object_sort o ≡ Some sort.Dict → keys_in (pairs_in o) ≡ object_members o
object_keyed None h = absurd (search (rules, h))
object_keyed (Some o) h = keyed o.contents (some_same _ _ h)

pub list_walks : (a : View) (r : Ref) → Owns a (value.List r) → IsWalkOf a (value_of a (value.List r)) (Some r)
list_walks a r o = (refl, subst (λ k. IsTrue (walked_sort k)) (sym o.1) refl, ap Some (object_listed (slice_get a.store r.at) o.1))

pub dict_walks : (a : View) (r : Ref) → Owns a (value.Dict r) → IsWalkOf a (value_of a (value.Dict r)) (Some r)
dict_walks a r o = (refl, subst (λ k. IsTrue (walked_sort k)) (sym o.1) refl, ap Some (object_keyed (slice_get a.store r.at) o.1))

-- ---- what is lent

held_contents : (o : Option plain.Object) (c : plain.Contents) → option_map (λ (o : plain.Object). o.contents) o ≡ Some c → object_members o ≡ walked_members c
held_contents None c h = absurd (search (rules, h))
held_contents (Some o) c h = ap walked_members (some_same _ _ h)

-- where it is seen in a view of the same held things
pub lent_members : (a b : View) (at : ℕ) (l : Lent) → option_map (λ (o : plain.Object). o.contents) (slice_get a.store at) ≡ Some (lent_in a.held l) → b.held ≡ a.held → members_at at a.store ≡ walked_members (lent_in b.held l)
lent_members a b at l h e = held_contents (slice_get a.store at) (lent_in a.held l) h ∙ sym (ap (λ held. walked_members (lent_in held l)) e)
