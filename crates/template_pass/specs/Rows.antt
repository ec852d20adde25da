-- The events of a text by levels alone. The level of a collection is the number of items around what stands in it: the list of
-- documents has level 0, and a collection that is the value of a document level 1.
use Rattle.std.specs.Prelude.{◌≡◌, ℕ, Bool, List, [], ◌∷◌, length, map as each, Option}
use Rattle.ytt_base.specs.Trees.{Scalar}
use Rattle.yaml_spec.specs.Noted.{Documents}
use Rattle.code_spec.specs.Program.{ItemKind}
use Rattle.template_spec.specs.Comments.{Said}
use Rattle.template_spec.specs.Events.{Path, Event}
use Rattle.template_spec.specs.Events as event
use Rattle.template_spec.specs.OpenBlocks.{collection_of}
use Rattle.template_pass.specs.Flat.{Shape, Flat, starts, flat_text}

-- the level of the collection that holds the item at this path
abbrev pub level_of : Path → ℕ
level_of p = length (collection_of p)

-- an item as it begins, with its key and what is written in it; what is said on its line; what is said on a line of its own
pub data Row : Type 0 where
  begins : (level : ℕ) → ItemKind → (line : ℕ) → (key : Option Scalar) → Shape → Row
  beside : (level : ℕ) → ItemKind → (is_collection : Bool) → (line : ℕ) → Said → Row
  says : (line : ℕ) → Said → Row

-- ---- which rows a text has

-- an event without keys and what is written
pub data Bare : Type 0 where
  bare_item : (level : ℕ) → ItemKind → (line : ℕ) → Bare
  bare_beside : (level : ℕ) → ItemKind → (is_collection : Bool) → (line : ℕ) → Said → Bare
  bare_said : (line : ℕ) → Said → Bare

abbrev pub bare_row : Row → Bare
bare_row (begins d k l key w) = bare_item d k l
bare_row (beside d k b l s) = bare_beside d k b l s
bare_row (says l s) = bare_said l s

abbrev pub bare_event : Event → Bare
bare_event (event.begins p k l) = bare_item (level_of p) k l
bare_event (event.beside p k b l s) = bare_beside (level_of p) k b l s
bare_event (event.says l s) = bare_said l s

pub record Start : Type 0 where
  pub level : ℕ
  pub kind : ItemKind
  pub line : ℕ
  pub key : Option Scalar
  pub written : Shape

-- the items of rows, in text order
abbrev pub started : List Row → List Start
started [] = []
started (begins d k l key w ∷ rs) = record { level = d; kind = k; line = l; key = key; written = w } ∷ started rs
started (r ∷ rs) = started rs

-- the items of a text, in text order
abbrev pub flat_started : List Flat → List Start
flat_started [] = []
flat_started (starts p k l key w ∷ fs) = record { level = level_of p; kind = k; line = l; key = key; written = w } ∷ flat_started fs
flat_started (f ∷ fs) = flat_started fs

-- the rows are the events of documents, with the keys of the items and what is written in them
pub record AreRows (ds : Documents) (es : List Event) (rs : List Row) : Type 0 where
  pub bare : each bare_row rs ≡ each bare_event es
  pub items : started rs ≡ flat_started (flat_text ds)
