-- The members of a tree as items in a node's place.
use Rattle.std.proofs.Common.{◌≡◌, ◌<◌, ◌≤◌, ◌+◌, ℕ, List, [], ◌∷◌, ◌++◌, length, drop, get_or, Some, None, refl, sym, ap, ◌∙◌, append_assoc, append-nil}
use Rattle.std.specs.Prelude.{map}
use Rattle.std.proofs.Math.ListN.{drop_of_length-le}
use Rattle.std.proofs.lemmas.List.{map-append}
use Rattle.ytt_base.specs.declared.fault.Place.{Place}
use Rattle.ytt_base.specs.declared.tree.Key.{Key}
use Rattle.ytt_base.specs.declared.tree.Tree.{Tree}
use Rattle.ytt_base.specs.View.{key_of, pairs_of, tree_of, trees_of}
use Rattle.ytt_laws.proofs.Lists.{dropped}
use Rattle.star_values.specs.View.{child_in, in_children}
use Rattle.star_values.specs.declared.value.BuiltItem.{BuiltItem}
use Rattle.template_meaning.specs.Take.{elements_at, pairs_at}
use Rattle.value_spec.specs.Values as plain
use Rattle.value_spec.specs.Values.{Child, a_child, child, no_built, one}

abbrev pub element : Place → Tree → Child
element p t = child p no_built None (one (tree_of t))

abbrev pub entry : Place → Key × Tree → Child
entry p e = child p no_built (Some (key_of e.0)) (one (tree_of e.1))

pub elements_in : (p : Place) (ts : List Tree) → in_children (map (element p) ts) ≡ elements_at p (trees_of ts)
elements_in p [] = refl
elements_in p (t ∷ ts) = ap (a_child (element p t)) (elements_in p ts)

pub entries_in : (p : Place) (es : List (Key × Tree)) → in_children (map (entry p) es) ≡ pairs_at p (pairs_of es)
entries_in p [] = refl
entries_in p (e ∷ es) = ap (a_child (entry p e)) (entries_in p es)

-- members that are turned one after another: items, before what becomes of the members that are left
module _ {X : Type 0} (turned : X → Child) (held : List plain.Value) (xs : List X) (j : ℕ) (items : List BuiltItem) (h : map (child_in held) items ++ map turned (drop j xs) ≡ map turned xs) where
  pub turned_next : (x : X) (i : BuiltItem) → j < length xs → x ≡ get_or xs j x → child_in held i ≡ turned x → map (child_in held) (items ++ i ∷ []) ++ map turned (drop (j + 1) xs) ≡ map turned xs
  turned_next x i lt is e =
      ap (λ cs. cs ++ map turned (drop (j + 1) xs)) (map-append (child_in held) items (i ∷ []))
      ∙ append_assoc (map (child_in held) items) (child_in held i ∷ []) (map turned (drop (j + 1) xs))
      ∙ ap (λ c. map (child_in held) items ++ (c ∷ map turned (drop (j + 1) xs))) e
      ∙ ap (λ l. map (child_in held) items ++ map turned l) (sym (dropped xs j x lt is)) ∙ h

  pub turned_all : length xs ≤ j → map (child_in held) items ≡ map turned xs
  turned_all past = sym (append-nil (map (child_in held) items)) ∙ ap (λ l. map (child_in held) items ++ map turned l) (sym (drop_of_length-le xs past)) ∙ h
