-- Rows and the events that they are, one by one.
use Rattle.std.proofs.Common.{◌≡◌, ℕ, List, [], ◌∷◌, drop, map as each, Option, Some, None, refl, ◌∙◌, ap}
use Rattle.ytt_base.specs.Trees.{Scalar}
use Rattle.code_spec.specs.Program.{ItemKind}
use Rattle.template_spec.specs.Events.{Event, begins, beside, says}
use Rattle.template_spec.specs.OpenBlocks.{next_item}
use Rattle.template_pass.specs.Flat.{Shape, a_map}
use Rattle.template_pass.specs.Levels.{Open, behind, next_level}
use Rattle.template_pass.specs.Rows as row
use Rattle.template_pass.specs.Rows.{Row, level_of, Bare, bare_item, bare_beside, bare_said, bare_row, bare_event}
use Rattle.template_pass.specs.Standing.{level_at, row_of}

-- each row is its event, but for a key and what is written
abbrev pub Alike : List Row → List Event → Type 0
Alike [] [] = Unit {0}
Alike [] (e ∷ es) = ⊥
Alike (r ∷ rs) [] = ⊥
Alike (r ∷ rs) (e ∷ es) = (bare_row r ≡ bare_event e) × Alike rs es

first_bare : Bare → List Bare → Bare
first_bare b [] = b
first_bare b (c ∷ cs) = c

pub alike : (rs : List Row) (es : List Event) → each bare_row rs ≡ each bare_event es → Alike rs es
unfolding first_bare
alike [] [] h = tt
alike [] (e ∷ es) h = cc
alike (r ∷ rs) [] h = cc
alike (r ∷ rs) (e ∷ es) h = (ap (first_bare (bare_row r)) h, alike rs es (ap (drop 1) h))

-- ---- a row without its key and what is written

plain : Bare → Row
plain (bare_item d k l) = row.begins d k l None a_map
plain (bare_beside d k b l s) = row.beside d k b l s
plain (bare_said l s) = row.says l s

row_plain : (e : Event) → plain (bare_event e) ≡ row_of e
unfolding plain
row_plain (begins p k l) = refl
row_plain (beside p k b l s) = refl
row_plain (says l s) = refl

-- something does not go by an item's key and what is written in it
abbrev pub ByLevel : {A : Type 0} → (Row → A) → Type 0
ByLevel f = (d : ℕ) (k : ItemKind) (l : ℕ) (key : Option Scalar) (w : Shape) → f (row.begins d k l key w) ≡ f (row.begins d k l None a_map)

by_bare : {A : Type 0} (f : Row → A) → ByLevel f → (r : Row) → f r ≡ f (plain (bare_row r))
unfolding plain
by_bare f h (row.begins d k l key w) = h d k l key w
by_bare f h (row.beside d k b l s) = refl
by_bare f h (row.says l s) = refl

-- so it is the same of a row and of its event
pub by_event : {A : Type 0} (f : Row → A) → ByLevel f → (r : Row) (e : Event) → bare_row r ≡ bare_event e → f r ≡ f (row_of e)
by_event f h r e b = by_bare f h r ∙ ap (λ b. f (plain b)) b ∙ ap f (row_plain e)

-- the stack behind a row is the stack behind its event
pub behind_row : (bs : List Open) (next : Option ℕ) (n : ℕ) (r : Row) (e : Event) → bare_row r ≡ bare_event e → behind bs next n r ≡ behind bs next n (row_of e)
behind_row bs next n r e b = by_event (behind bs next n) (λ d k l key w. refl) r e b

next_first : Row → Option ℕ → Option ℕ
next_first (row.begins d k l key w) o = Some d
next_first (row.beside d k b l s) o = o
next_first (row.says l s) o = o

next_level_first : (r : Row) (rs : List Row) → next_level (r ∷ rs) ≡ next_first r (next_level rs)
unfolding next_first
next_level_first (row.begins d k l key w) rs = refl
next_level_first (row.beside d k b l s) rs = refl
next_level_first (row.says l s) rs = refl

next_item_first : (e : Event) (es : List Event) → next_first (row_of e) (level_at (next_item es)) ≡ level_at (next_item (e ∷ es))
unfolding next_first
next_item_first (begins p k l) es = refl
next_item_first (beside p k b l s) es = refl
next_item_first (says l s) es = refl

-- the item that comes next has the level of the row that begins next
pub next_level_alike : (rs : List Row) (es : List Event) → Alike rs es → next_level rs ≡ level_at (next_item es)
unfolding next_first
next_level_alike [] [] h = refl
next_level_alike [] (e ∷ es) h = absurd h
next_level_alike (r ∷ rs) [] h = absurd h
next_level_alike (r ∷ rs) (e ∷ es) h =
    next_level_first r rs ∙ ap (next_first r) (next_level_alike rs es h.1) ∙ by_event (λ r. next_first r (level_at (next_item es))) (λ d k l key w. refl) r e h.0 ∙ next_item_first e es
