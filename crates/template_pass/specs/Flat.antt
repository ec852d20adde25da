-- The items of noted documents, with their keys and what is written in them, and the comments, in text order.
use Rattle.std.specs.Prelude.{ℕ, suc, Bool, if◌then◌else◌, List, [], ◌∷◌, ◌++◌, map as each, Option, Some, None}
use Rattle.ytt_base.specs.Trees.{Scalar, Tree}
use Rattle.yaml_spec.specs.Noted.{Comment, Note, Content, noted_scalar, noted_list, noted_map, Items, no_items, item, Documents}
use Rattle.code_spec.specs.Program.{ItemKind, document_item, pair_item, element_item}
use Rattle.template_spec.specs.Events.{Path, Raw, begun, trails, loose, is_collection, comes_behind}

-- what is written in an item
pub data Shape : Type 0 where
  a_scalar : Tree → Shape
  a_map : Shape
  a_list : Shape

abbrev pub shape : Content → Shape
shape (noted_scalar t) = a_scalar t
shape (noted_list is) = a_list
shape (noted_map is) = a_map

pub data Flat : Type 0 where
  starts : Path → ItemKind → (line : ℕ) → (key : Option Scalar) → Shape → Flat
  trailing_of : Path → ItemKind → (is_collection : Bool) → Comment → Flat
  alone : Comment → Flat

abbrev pub loose_all : List Comment → List Flat
loose_all [] = []
loose_all (c ∷ cs) = alone c ∷ loose_all cs

abbrev pub start : Path → ItemKind → Note → Content → Flat
start p k i x = starts p k i.place.line i.key (shape x)

abbrev pub trailing : Path → ItemKind → (is_collection : Bool) → Option Comment → List Flat
trailing p k b None = []
trailing p k b (Some c) = trailing_of p k b c ∷ []

-- an item's comment, and what the item holds: the comment before it, or behind it
abbrev pub inside : (is_behind : Bool) → (comment below : List Flat) → List Flat
inside b comment below = if b then below ++ comment else comment ++ below

abbrev mutual
  pub flat_items : ItemKind → Path → (number : ℕ) → Items → List Flat
  flat_items k c n no_items = []
  flat_items k c n (item i x more) =
      (loose_all i.before ++ start (n ∷ c) k i x ∷ inside (comes_behind i.trailing x) (trailing (n ∷ c) k (is_collection x) i.trailing) (flat_below (n ∷ c) x)) ++ flat_items k c (suc n) more

  pub flat_below : Path → Content → List Flat
  flat_below p (noted_scalar t) = []
  flat_below p (noted_list is) = flat_items element_item p 0 is
  flat_below p (noted_map is) = flat_items pair_item p 0 is

abbrev pub flat_item : ItemKind → Path → Note → Content → List Flat
flat_item k p i x = loose_all i.before ++ start p k i x ∷ inside (comes_behind i.trailing x) (trailing p k (is_collection x) i.trailing) (flat_below p x)

abbrev pub flat_text : Documents → List Flat
flat_text ds = flat_items document_item [] 0 ds.items ++ loose_all ds.after

-- ---- without keys and what is written

abbrev pub raw_of : Flat → Raw
raw_of (starts p k l key w) = begun p k l
raw_of (trailing_of p k b c) = trails p k b c
raw_of (alone c) = loose c

abbrev pub raws_of : List Flat → List Raw
raws_of fs = each raw_of fs

-- ---- the items alone

abbrev pub starts_in : List Flat → List Flat
starts_in [] = []
starts_in (starts p k l key w ∷ fs) = starts p k l key w ∷ starts_in fs
starts_in (f ∷ fs) = starts_in fs
