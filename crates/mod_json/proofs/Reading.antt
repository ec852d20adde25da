-- What was read of members, before what is left.
use Rattle.std.proofs.Common.{◌≡◌, ℕ, List, [], ◌∷◌, ◌++◌, Option, Some, None, Global, String, string_bytes, rules, if◌then◌else◌, refl, sym, ap, ◌∙◌}
use Rattle.std.specs.Option.{option_map}
use Rattle.std.proofs.lemmas.Str.{IsUtf8-string_bytes, is_utf8-from_IsUtf8}
use Rattle.ytt_base.specs.declared.tree.Key.{Key}
use Rattle.ytt_base.specs.declared.tree.Key.TheVariants as key
use Rattle.ytt_base.specs.declared.tree.Tree.{Tree}
use Rattle.ytt_base.specs.Trees as trees
use Rattle.ytt_base.specs.Trees.{Pairs, Trees, no_pairs, no_trees, pair, string, tree}
use Rattle.ytt_base.specs.View.{key_of, pairs_of, tree_of, trees_of}
use Rattle.ytt_laws.proofs.InTurn.{and_pairs, and_trees, pairs-last, pairs-none, trees-last, trees-none}
use Rattle.serde_json.specs.View.{items_view, members_view, view}
use Rattle.serde_json.specs.Data as json
use Rattle.serde_json.specs.declared.value.Value as value
use Rattle.serde_json.specs.declared.value.Value.{Value as Json, the_lemmas}
use Rattle.ytt_base.proofs.Views.{tree_of-Str}
use Rattle.ytt_base.specs.declared.tree.Tree as code
use Rattle.module_spec.specs.JsonCodec as plain
use Rattle.module_spec.specs.JsonCodec.{pair_in_front, string_read, tree_in_front}
use Rattle.mod_json.specs.Walk.{Entry}

view-String : (s : String Global) → view (value.String s) ≡ json.string (string_bytes s)
view-String s = search (rules, the_lemmas)

-- a string is UTF-8
pub string_known : {Z : Type 0} (s : String Z) → string_read (string_bytes s) ≡ Some (string (string_bytes s))
string_known s = ap (λ b. if b then Some (string (string_bytes s)) else None) (is_utf8-from_IsUtf8 (string_bytes s) (IsUtf8-string_bytes s))

-- the tree of a string
pub string_tree : (j : Json) (s : String Global) (t : List ℕ) → j ≡ value.String s → t ≡ string_bytes s → Some (tree_of (code.Str t)) ≡ plain.tree_of (view j)
string_tree j s t e is =
    ap Some (tree_of-Str t ∙ ap (λ t. trees.scalar (string t)) is)
    ∙ sym (ap (λ j. plain.tree_of (view j)) e ∙ ap plain.tree_of (view-String s) ∙ ap (option_map trees.scalar) (string_known s))

-- ---- items

pub trees_begin : (front : List Tree) (all : Option Trees) → front ≡ [] → all ≡ option_map (and_trees (trees_of front)) all
trees_begin front all e = same all ∙ ap (λ l. option_map (and_trees (trees_of l)) all) (sym e)
  where
    same : (o : Option Trees) → o ≡ option_map (and_trees no_trees) o
    same None = refl
    same (Some ts) = refl

trees_more : (front : List Tree) (t : Tree) (o : Option Trees) → option_map (and_trees (trees_of front)) (tree_in_front (Some (tree_of t)) o) ≡ option_map (and_trees (trees_of (front ++ t ∷ []))) o
trees_more front t None = refl
trees_more front t (Some ts) = ap Some (sym (trees-last front t ts))

module _ (all : Option Trees) (front : List Tree) (x : Json) (left rest : List Json) (is : left ≡ x ∷ rest) (h : all ≡ option_map (and_trees (trees_of front)) (plain.trees_of (items_view left))) where
  so : all ≡ option_map (and_trees (trees_of front)) (tree_in_front (plain.tree_of (view x)) (plain.trees_of (items_view rest)))
  so = h ∙ ap (λ l. option_map (and_trees (trees_of front)) (plain.trees_of (items_view l))) is

  pub trees_next : (t : Tree) → Some (tree_of t) ≡ plain.tree_of (view x) → all ≡ option_map (and_trees (trees_of (front ++ t ∷ []))) (plain.trees_of (items_view rest))
  trees_next t e = so ∙ ap (λ o. option_map (and_trees (trees_of front)) (tree_in_front o (plain.trees_of (items_view rest)))) (sym e) ∙ trees_more front t (plain.trees_of (items_view rest))

  pub trees_stop : None ≡ plain.tree_of (view x) → None ≡ all
  trees_stop e = sym (so ∙ ap (λ o. option_map (and_trees (trees_of front)) (tree_in_front o (plain.trees_of (items_view rest)))) (sym e))

pub trees_done : (all : Option Trees) (front : List Tree) (left : List Json) → left ≡ [] → all ≡ option_map (and_trees (trees_of front)) (plain.trees_of (items_view left)) → Some (trees_of front) ≡ all
trees_done all front left e h = sym (h ∙ ap (λ l. option_map (and_trees (trees_of front)) (plain.trees_of (items_view l))) e ∙ ap Some (trees-none front))

-- ---- members

pub pairs_begin : (front : List (Key × Tree)) (all : Option Pairs) → front ≡ [] → all ≡ option_map (and_pairs (pairs_of front)) all
pairs_begin front all e = same all ∙ ap (λ l. option_map (and_pairs (pairs_of l)) all) (sym e)
  where
    same : (o : Option Pairs) → o ≡ option_map (and_pairs no_pairs) o
    same None = refl
    same (Some ts) = refl

pairs_more : (front : List (Key × Tree)) (e : Key × Tree) (o : Option Pairs) → option_map (and_pairs (pairs_of front)) (pair_in_front (Some (key_of e.0)) (Some (tree_of e.1)) o) ≡ option_map (and_pairs (pairs_of (front ++ e ∷ []))) o
pairs_more front e None = refl
pairs_more front e (Some ps) = ap Some (sym (pairs-last front e ps))

module _ (all : Option Pairs) (front : List (Key × Tree)) (x : Entry) (left rest : List Entry) (is : left ≡ x ∷ rest) (h : all ≡ option_map (and_pairs (pairs_of front)) (plain.pairs_of (members_view left))) where
  so_pairs : (t : Option trees.Tree) → t ≡ plain.tree_of (view x.1) → all ≡ option_map (and_pairs (pairs_of front)) (pair_in_front (Some (string (string_bytes x.0))) t (plain.pairs_of (members_view rest)))
  so_pairs t e =
      h ∙ ap (λ l. option_map (and_pairs (pairs_of front)) (plain.pairs_of (members_view l))) is
      ∙ (λ i. option_map (and_pairs (pairs_of front)) (pair_in_front (string_known x.0 i) (sym e i) (plain.pairs_of (members_view rest))))

  pub pairs_next : (k : List ℕ) (t : Tree) → k ≡ string_bytes x.0 → Some (tree_of t) ≡ plain.tree_of (view x.1) → all ≡ option_map (and_pairs (pairs_of (front ++ (key.Str k, t) ∷ []))) (plain.pairs_of (members_view rest))
  pairs_next k t is_key e =
      so_pairs (Some (tree_of t)) e
      ∙ ap (λ k. option_map (and_pairs (pairs_of front)) (pair_in_front (Some (string k)) (Some (tree_of t)) (plain.pairs_of (members_view rest)))) (sym is_key)
      ∙ pairs_more front (key.Str k, t) (plain.pairs_of (members_view rest))

  pub pairs_stop : None ≡ plain.tree_of (view x.1) → None ≡ all
  pairs_stop e = sym (so_pairs None e)

pub pairs_done : (all : Option Pairs) (front : List (Key × Tree)) (left : List Entry) → left ≡ [] → all ≡ option_map (and_pairs (pairs_of front)) (plain.pairs_of (members_view left)) → Some (pairs_of front) ≡ all
pairs_done all front left e h = sym (h ∙ ap (λ l. option_map (and_pairs (pairs_of front)) (plain.pairs_of (members_view l))) e ∙ ap Some (pairs-none front))
