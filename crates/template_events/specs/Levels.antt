-- The items and comments of noted documents in text order, each item by its level: by how many items are around it.
use Rattle.std.specs.Prelude.{ℕ, ◌+◌, nat_le, nat_lt, Bool, false, if◌then◌else◌, List, [], ◌∷◌, ◌++◌, Option, Some, None}
use Rattle.ytt_base.specs.Trees.{Scalar}
use Rattle.yaml_spec.specs.Noted.{Comment, Note, Content, noted_scalar, noted_list, noted_map, Items, no_items, item, Documents}
use Rattle.code_spec.specs.Program.{ItemKind, document_item, pair_item, element_item}
use Rattle.template_spec.specs.Events.{is_collection, comes_behind}
use Rattle.template_pass.specs.Flat.{Shape, shape}

-- the item on whose line a comment stands: its level, its kind, and whether a collection is written in it
pub record Owner : Type 0 where
  pub level : ℕ
  pub kind : ItemKind
  pub is_collection : Bool

pub data Part : Type 0 where
  -- an item begins
  starts : (level : ℕ) → ItemKind → (line : ℕ) → (key : Option Scalar) → Shape → Part
  -- a comment, and the item to which it belongs
  comment : Option Owner → Comment → Part

abbrev pub loose_all : List Comment → List Part
loose_all [] = []
loose_all (c ∷ cs) = comment None c ∷ loose_all cs

abbrev pub start : (level : ℕ) → ItemKind → Note → Content → Part
start d k i x = starts d k i.place.line i.key (shape x)

abbrev pub owner : (level : ℕ) → ItemKind → Content → Owner
owner d k x = record { level = d; kind = k; is_collection = is_collection x }

abbrev pub trailing : Owner → Option Comment → List Part
trailing o None = []
trailing o (Some c) = comment (Some o) c ∷ []

-- an item's comment, and what the item holds: the comment before it, or behind it
abbrev pub inside : (is_behind : Bool) → (trailing below : List Part) → List Part
inside b trailing below = if b then below ++ trailing else trailing ++ below

abbrev mutual
  pub parts_among : ItemKind → (level : ℕ) → Items → List Part
  parts_among k d no_items = []
  parts_among k d (item i x more) =
      (loose_all i.before ++ start d k i x ∷ inside (comes_behind i.trailing x) (trailing (owner d k x) i.trailing) (parts_below d x)) ++ parts_among k d more

  -- what an item of this level holds
  pub parts_below : (level : ℕ) → Content → List Part
  parts_below d (noted_scalar t) = []
  parts_below d (noted_list is) = parts_among element_item (d + 1) is
  parts_below d (noted_map is) = parts_among pair_item (d + 1) is

-- what an item of this kind and level holds, and the comment on its line
abbrev pub inside_item : ItemKind → (level : ℕ) → Note → Content → List Part
inside_item k d i x = inside (comes_behind i.trailing x) (trailing (owner d k x) i.trailing) (parts_below d x)

abbrev pub parts_in : Documents → List Part
parts_in ds = parts_among document_item 0 ds.items ++ loose_all ds.after

-- the first of items begins on this line
abbrev pub first_begins_on : (line : ℕ) → Items → Bool
first_begins_on l no_items = false
first_begins_on l (item n c is) = nat_le n.place.line l

-- ---- in the order of lines

-- the comment on an item's line, which waits while comments of earlier lines follow
pub record Waiting : Type 0 where
  pub owner : Owner
  pub comment : Comment

-- what waits
abbrev pub come : Option Waiting → List Part
come None = []
come (Some w) = comment (Some w.owner) w.comment ∷ []

abbrev pub is_later : Option Waiting → Comment → Bool
is_later None d = false
is_later (Some w) d = nat_lt d.line w.comment.line

-- behind what waits, by line
abbrev pub by_line : Option Waiting → List Part → List Part
by_line w [] = come w
by_line w (starts d k l key x ∷ ps) = come w ++ starts d k l key x ∷ by_line None ps
by_line w (comment (Some o) c ∷ ps) = come w ++ by_line (Some (record { owner = o; comment = c })) ps
by_line w (comment None d ∷ ps) = if is_later w d then comment None d ∷ by_line w ps else come w ++ comment None d ∷ by_line None ps
