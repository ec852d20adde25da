-- Noted documents: trees with a place for each item and with the comments that belong to it (YAML 1.2.2, 3.1 and 6.6).
use Rattle.std.specs.Prelude.{ℕ, Bool, true, false, ◌&&◌, ◌||◌, ◌==◌, List, [], ◌∷◌, slice_index, Option, Some, None, unwrap_or, codes, drop}
use Rattle.std.specs.List.{starts_with}
use Rattle.ytt_base.specs.declared.fault.Place.{Place}
use Rattle.ytt_base.specs.Trees.{Scalar, null, Tree, list, map, Trees, no_trees, tree, Pairs, no_pairs, pair, has_key, is_null}
use Rattle.yaml_spec.specs.Bytes.{hash, at_sign}

-- a comment from `#` on to the end of its line; `own_line` where only white space stands before it
pub record Comment : Type 0 where
  pub line : ℕ
  pub own_line : Bool
  pub text : List ℕ

-- an item besides its content; an item is a document, a pair of a map or an element of a list, and a pair has a key
pub record Note : Type 0 where
  pub place : Place
  pub key : Option Scalar
  pub before : List Comment
  pub trailing : Option Comment
  pub flow : Bool

-- a scalar is a tree without items below it: all that is read as one is a scalar, though its type has lists and maps too
mutual
  pub data Content : Type 0 where
    noted_scalar : Tree → Content
    noted_list : Items → Content
    noted_map : Items → Content

  pub data Items : Type 0 where
    no_items : Items
    item : Note → Content → Items → Items

-- the documents of a text, and the comments after the last item
pub record Documents : Type 0 where
  pub items : Items
  pub after : List Comment

-- ---- the trees without their notes

abbrev pub key_of : Note → Scalar
key_of n = unwrap_or n.key null

abbrev mutual
  pub bare_tree : Content → Tree
  bare_tree (noted_scalar t) = t
  bare_tree (noted_list is) = list (bare_trees is)
  bare_tree (noted_map is) = map (bare_pairs is)

  pub bare_trees : Items → Trees
  bare_trees no_items = no_trees
  bare_trees (item n c is) = tree (bare_tree c) (bare_trees is)

  pub bare_pairs : Items → Pairs
  bare_pairs no_items = no_pairs
  bare_pairs (item n c is) = pair (key_of n) (bare_tree c) (bare_pairs is)

-- the trees that are not null
abbrev pub drop_null : Trees → Trees
drop_null no_trees = no_trees
drop_null (tree t ts) = elim (is_null t) [ true ↦ drop_null ts | false ↦ tree t (drop_null ts) ]

-- ---- a key that stands twice

-- the first note that there is
abbrev pub or_else : Option Note → Option Note → Option Note
or_else (Some n) o = Some n
or_else None o = o

-- the first item in text order whose key stands already in its map (3.2.1.3)
abbrev mutual
  pub twice : Content → Option Note
  twice (noted_scalar t) = None
  twice (noted_list is) = twice_below is
  twice (noted_map is) = twice_among [] is

  pub twice_below : Items → Option Note
  twice_below no_items = None
  twice_below (item n c is) = or_else (twice c) (twice_below is)

  -- the keys before it are these
  pub twice_among : List Scalar → Items → Option Note
  twice_among ks no_items = None
  twice_among ks (item n c is) =
      elim (has_key (key_of n) ks) [ true ↦ Some n | false ↦ or_else (twice c) (twice_among (key_of n ∷ ks) is) ]

-- ---- code in comments

-- the comment begins with `#@`
abbrev pub is_note : List ℕ → Bool
is_note t = slice_index t 0 == hash && slice_index t 1 == at_sign

-- what the comment of a value expression begins with
abbrev pub code_mark : List ℕ
code_mark = codes "#@ "

abbrev pub is_code : List ℕ → Bool
is_code text = starts_with (λ a b. a == b) text code_mark

-- the code behind the mark
abbrev pub code_in : List ℕ → List ℕ
code_in text = drop 3 text

-- one of the comments begins with `#@`
abbrev pub code_in_some : List Comment → Bool
code_in_some [] = false
code_in_some (c ∷ cs) = is_note c.text || code_in_some cs

abbrev pub code_beside : Option Comment → Bool
code_beside None = false
code_beside (Some c) = is_note c.text

abbrev mutual
  pub code_within : Content → Bool
  code_within (noted_scalar t) = false
  code_within (noted_list is) = code_among is
  code_within (noted_map is) = code_among is

  pub code_among : Items → Bool
  code_among no_items = false
  code_among (item n c is) = code_in_some n.before || code_beside n.trailing || code_within c || code_among is

-- a comment that begins with `#@` makes a text a template
abbrev pub has_code : Documents → Bool
has_code ds = code_among ds.items || code_in_some ds.after
