-- The items and comments of noted documents in text order, and what their comments say.
use Rattle.std.specs.Prelude.{ℕ, suc, nat_le, nat_lt, Bool, true, false, ◌&&◌, ◌==◌, if◌then◌else◌, List, [], ◌∷◌, ◌++◌, Option, Some, None, Ok}
use Rattle.ytt_base.specs.Outcomes.{Outcome, ◌>>=◌, place_at}
use Rattle.yaml_spec.specs.Bytes.{line_feed}
use Rattle.yaml_spec.specs.Noted.{Comment, Content, noted_scalar, noted_list, noted_map, Items, no_items, item, Documents, is_code, code_in}
use Rattle.code_spec.specs.CodeReading.{CodeReader}
use Rattle.code_spec.specs.Program.{ItemKind, document_item, pair_item, element_item}
use Rattle.template_spec.specs.Comments.{Said, ignored, comment_said, without_end}

-- Where an item stands: its number in its collection, and then where the item stands whose value this collection is.
-- A collection is known by the path of the item whose value it is, and the list of documents by the empty path.
abbrev pub Path : Type 0
Path = List ℕ

-- ---- items and comments

pub data Raw : Type 0 where
  -- an item begins
  begun : Path → ItemKind → (line : ℕ) → Raw
  -- the comment that belongs to an item, on its line
  trails : Path → ItemKind → (is_collection : Bool) → Comment → Raw
  loose : Comment → Raw

abbrev pub is_collection : Content → Bool
is_collection (noted_scalar t) = false
is_collection _ = true

abbrev pub loose_all : List Comment → List Raw → List Raw
loose_all [] rest = rest
loose_all (c ∷ cs) rest = loose c ∷ loose_all cs rest

abbrev pub trailing : Path → ItemKind → (is_collection : Bool) → Option Comment → List Raw → List Raw
trailing p k b None rest = rest
trailing p k b (Some c) rest = trails p k b c ∷ rest

-- the first member of a collection begins on this line, as it may in brackets
abbrev pub begins_on : (line : ℕ) → Content → Bool
begins_on l (noted_list (item n c is)) = nat_le n.place.line l
begins_on l (noted_map (item n c is)) = nat_le n.place.line l
begins_on l _ = false

-- the comment of an item comes behind the members that begin on its line
abbrev pub comes_behind : Option Comment → Content → Bool
comes_behind None x = false
comes_behind (Some c) x = begins_on c.line x

-- in front of what follows: an item behind the comments before it, an outer one before an inner one
abbrev mutual
  pub raw_items : ItemKind → Path → (number : ℕ) → Items → List Raw → List Raw
  raw_items k c n no_items rest = rest
  raw_items k c n (item i x more) rest =
      let after = raw_items k c (suc n) more rest in
      loose_all i.before (begun (n ∷ c) k i.place.line ∷ (if comes_behind i.trailing x then raw_below (n ∷ c) x (trailing (n ∷ c) k (is_collection x) i.trailing after) else trailing (n ∷ c) k (is_collection x) i.trailing (raw_below (n ∷ c) x after)))

  pub raw_below : Path → Content → List Raw → List Raw
  raw_below p (noted_scalar t) rest = rest
  raw_below p (noted_list is) rest = raw_items element_item p 0 is rest
  raw_below p (noted_map is) rest = raw_items pair_item p 0 is rest

abbrev pub raw_text : Documents → List Raw
raw_text ds = raw_items document_item [] 0 ds.items (loose_all ds.after [])

-- ---- comments in the order of their lines

-- What stands above a scalar that is a document is told behind it, as what stands between two items. So the comment on an item's
-- line waits while comments of earlier lines follow.
pub data Waiting : Type 0 where
  none_waits : Waiting
  waits : Path → ItemKind → (is_collection : Bool) → Comment → Waiting

-- what waits, in front of what follows
abbrev pub then_come : Waiting → List Raw → List Raw
then_come none_waits rest = rest
then_come (waits p k b c) rest = trails p k b c ∷ rest

abbrev pub is_later : Waiting → Comment → Bool
is_later none_waits d = false
is_later (waits p k b c) d = nat_lt d.line c.line

abbrev pub by_line : Waiting → List Raw → List Raw
by_line w [] = then_come w []
by_line w (begun p k l ∷ xs) = then_come w (begun p k l ∷ by_line none_waits xs)
by_line w (trails p k b c ∷ xs) = then_come w (by_line (waits p k b c) xs)
by_line w (loose d ∷ xs) = if is_later w d then loose d ∷ by_line w xs else then_come w (loose d ∷ by_line none_waits xs)

-- ---- code over several lines

-- a comment that may go on, and the line of its last part
pub data Held : Type 0 where
  nothing : Held
  held : Comment → (last : ℕ) → Held
  held_trailing : Path → ItemKind → (is_collection : Bool) → Comment → (last : ℕ) → Held

-- in front of what follows
abbrev pub let_go : Held → List Raw → List Raw
let_go nothing rest = rest
let_go (held c l) rest = loose c ∷ rest
let_go (held_trailing p k b c l) rest = trails p k b c ∷ rest

-- code whose brackets are open goes on with code on a line of its own directly below
abbrev pub continues_it : CodeReader → (file : ℕ) → Comment → (last : ℕ) → (below : Comment) → Bool
continues_it r file c last d = d.own_line && (d.line == suc last && (is_code d.text && (is_code c.text && r.is_open (place_at file c.line) (without_end (code_in c.text)))))

abbrev pub goes_on : CodeReader → (file : ℕ) → Held → Comment → Bool
goes_on r file nothing d = false
goes_on r file (held c l) d = continues_it r file c l d
goes_on r file (held_trailing p k b c l) d = continues_it r file c l d

-- a line end stands between the parts
abbrev pub longer : Comment → Comment → Comment
longer c d = record { line = c.line; own_line = c.own_line; text = c.text ++ line_feed ∷ code_in d.text }

abbrev pub grown : Held → Comment → Held
grown nothing d = nothing
grown (held c l) d = held (longer c d) (suc l)
grown (held_trailing p k b c l) d = held_trailing p k b (longer c d) (suc l)

-- each code comment together with those that continue it
abbrev pub gathered : CodeReader → (file : ℕ) → Held → List Raw → List Raw
gathered r file h [] = let_go h []
gathered r file h (begun p k l ∷ xs) = let_go h (begun p k l ∷ gathered r file nothing xs)
gathered r file h (trails p k b c ∷ xs) = let_go h (gathered r file (held_trailing p k b c c.line) xs)
gathered r file h (loose c ∷ xs) =
    elim (goes_on r file h c) [ true ↦ gathered r file (grown h c) xs | false ↦ let_go h (gathered r file (held c c.line) xs) ]

-- ---- what they say

pub data Event : Type 0 where
  begins : Path → ItemKind → (line : ℕ) → Event
  -- said on the line of an item, to which it belongs
  beside : Path → ItemKind → (is_collection : Bool) → (line : ℕ) → Said → Event
  -- said on a line of its own
  says : (line : ℕ) → Said → Event

-- ignored comments are no events
abbrev pub spoken : Said → (Said → Event) → List Event → List Event
spoken ignored event es = es
spoken s event es = event s ∷ es

-- the events of a text, or the first fault of a comment
abbrev pub heard : CodeReader → (ignore_unknown : Bool) → (file : ℕ) → List Raw → Outcome (List Event)
heard r ignore file [] = Ok []
heard r ignore file (begun p k l ∷ xs) = heard r ignore file xs >>= (λ es. Ok (begins p k l ∷ es))
heard r ignore file (trails p k b c ∷ xs) =
    comment_said r ignore (place_at file c.line) c >>= (λ s. heard r ignore file xs >>= (λ es. Ok (spoken s (beside p k b c.line) es)))
heard r ignore file (loose c ∷ xs) =
    comment_said r ignore (place_at file c.line) c >>= (λ s. heard r ignore file xs >>= (λ es. Ok (spoken s (says c.line) es)))

unfoldable pub events : CodeReader → (ignore_unknown : Bool) → (file : ℕ) → Documents → Outcome (List Event)
events r ignore file ds = heard r ignore file (gathered r file nothing (by_line none_waits (raw_text ds)))
