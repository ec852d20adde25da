-- What the events of a text put, by paths; and their rows.
use Rattle.std.proofs.Common.{◌≡◌, ℕ, suc, List, [], ◌∷◌, ◌++◌, length, drop, bytes_eq, map as each, Option, Some, None, refl, ◌∙◌, ap, if◌then◌else◌}
use Rattle.code_spec.specs.Program.{document_item}
use Rattle.template_spec.specs.Comments.{Said, ignored, a_note, a_value, statements, opens, elif, otherwise, closes}
use Rattle.template_spec.specs.Events.{Path, Event, begins, beside, says}
use Rattle.template_spec.specs.OpenBlocks.{collection_of, belongs, next_item, open_blocks, so_far}
use Rattle.template_spec.specs.Nesting.{innermost}
use Rattle.template_pass.specs.Building as building
use Rattle.template_pass.specs.Building.{Before, Put, put_mark, mark, puts, waiting}
use Rattle.template_pass.specs.Flat.{a_map}
use Rattle.template_pass.specs.Levels as levels
use Rattle.template_pass.specs.Levels.{Open, next_level, behind}
use Rattle.template_pass.specs.Orderly.{Orderly}
use Rattle.template_pass.specs.Rows as row
use Rattle.template_pass.specs.Rows.{Row, level_of, bare_row, bare_event, Start, started}
use Rattle.template_pass.proofs.ByPath.{PathPut, item_put, beside_put, mark_put, by_level, Ordered}
use Rattle.template_pass.proofs.Paths.{In, lain}

-- ---- rows

abbrev no_start : Start
no_start = record { level = 0; kind = document_item; line = 0; key = None; written = a_map }

abbrev pub first_start : List Start → Start
first_start [] = no_start
first_start (s ∷ ss) = s

-- the rows of events whose items have these keys, and this written in them
abbrev pub rows_of : List Event → List Start → List Row
rows_of [] ss = []
rows_of (begins p k l ∷ es) ss = row.begins (level_of p) k l (first_start ss).key (first_start ss).written ∷ rows_of es (drop 1 ss)
rows_of (beside p k b l s ∷ es) ss = row.beside (level_of p) k b l s ∷ rows_of es ss
rows_of (says l s ∷ es) ss = row.says l s ∷ rows_of es ss

pub rows_same : (es : List Event) (rs : List Row) → each bare_row rs ≡ each bare_event es → rs ≡ rows_of es (started rs)
rows_same [] [] h = refl
rows_same [] (r ∷ rs) h = cc h
rows_same (e ∷ es) [] h = cc h
rows_same (begins p k l ∷ es) (row.begins d k' l' key w ∷ rs) h =
    let a : d ≡ level_of p = cc h in
    let b : k' ≡ k = cc h in
    let c : l' ≡ l = cc h in
    let up : rs ≡ rows_of es (started rs) = rows_same es rs (cc h) in
    cc (a, b, c, up)
rows_same (begins p k l ∷ es) (row.beside d k' b l' s ∷ rs) h = cc h
rows_same (begins p k l ∷ es) (row.says l' s ∷ rs) h = cc h
rows_same (beside p k b l s ∷ es) (row.begins d k' l' key w ∷ rs) h = cc h
rows_same (beside p k b l s ∷ es) (row.beside d k' b' l' s' ∷ rs) h =
    let x : d ≡ level_of p = cc h in
    let y : k' ≡ k = cc h in
    let z : b' ≡ b = cc h in
    let u : l' ≡ l = cc h in
    let v : s' ≡ s = cc h in
    let up : rs ≡ rows_of es (started rs) = rows_same es rs (cc h) in
    cc (x, y, z, u, v, up)
rows_same (beside p k b l s ∷ es) (row.says l' s' ∷ rs) h = cc h
rows_same (says l s ∷ es) (row.begins d k' l' key w ∷ rs) h = cc h
rows_same (says l s ∷ es) (row.beside d k' b l' s' ∷ rs) h = cc h
rows_same (says l s ∷ es) (row.says l' s' ∷ rs) h =
    let u : l' ≡ l = cc h in
    let v : s' ≡ s = cc h in
    let up : rs ≡ rows_of es (started rs) = rows_same es rs (cc h) in
    cc (u, v, up)

-- ---- puts

-- the collection to which a statement, an opener, a branch or an end belongs
abbrev pub place_of : (past coming : List Event) → Said → Option Path
place_of past coming (statements is) = Some (belongs (open_blocks past (next_item coming)) (next_item coming))
place_of past coming (opens h z) = Some (belongs (open_blocks past (next_item coming)) (next_item coming))
place_of past coming (elif e) = Some (innermost (open_blocks past (next_item coming)))
place_of past coming otherwise = Some (innermost (open_blocks past (next_item coming)))
place_of past coming closes = Some (innermost (open_blocks past (next_item coming)))
place_of past coming s = None

-- and its level
abbrev pub level_place : List Open → (next : Option ℕ) → Said → Option ℕ
level_place bs next (statements is) = Some (levels.belongs bs next)
level_place bs next (opens h z) = Some (levels.belongs bs next)
level_place bs next (elif e) = Some (building.innermost bs)
level_place bs next otherwise = Some (building.innermost bs)
level_place bs next closes = Some (building.innermost bs)
level_place bs next s = None

-- in front of what follows
abbrev pub marked : Option Path → (line : ℕ) → Said → List PathPut → List PathPut
marked None l s qs = qs
marked (Some c) l s qs = mark_put c l s ∷ qs

abbrev pub path_puts : (past : List Event) → List Before → List Event → List Start → List PathPut
path_puts past ns [] ss = []
path_puts past ns (begins p k l ∷ es) ss = item_put p k l (first_start ss).key (first_start ss).written ns ∷ path_puts (begins p k l ∷ past) [] es (drop 1 ss)
path_puts past ns (beside p k b l s ∷ es) ss = beside_put p l s ∷ path_puts (beside p k b l s ∷ past) ns es ss
path_puts past ns (says l s ∷ es) ss = marked (place_of past es s) l s (path_puts (says l s ∷ past) (waiting ns (row.says l s)) es ss)

-- ---- where marks stand

-- a mark belongs to a collection of this level, which the last item is in
abbrev pub Stands : (last : Path) → Option Path → (level : Option ℕ) → Type 0
Stands q None None = Unit {0}
Stands q (Some c) (Some d) = In q c × (d ≡ length c)
Stands q None (Some d) = ⊥
Stands q (Some c) None = ⊥

-- so does each mark of the events, which have these rows
abbrev pub MarksStand : (last : Path) → (past : List Event) → List Open → (count : ℕ) → List Event → List Row → Type 0
MarksStand q past bs n [] rs = Unit {0}
MarksStand q past bs n (e ∷ es) [] = Unit {0}
MarksStand q past bs n (begins p k l ∷ es) (r ∷ rs) = MarksStand p (begins p k l ∷ past) (behind bs (next_level rs) n r) (suc n) es rs
MarksStand q past bs n (beside p k b l s ∷ es) (r ∷ rs) = MarksStand q (beside p k b l s ∷ past) (behind bs (next_level rs) n r) (suc n) es rs
MarksStand q past bs n (says l s ∷ es) (r ∷ rs) =
    Stands q (place_of past es s) (level_place bs (next_level rs) s) × MarksStand q (says l s ∷ past) (behind bs (next_level rs) n r) (suc n) es rs

abbrev level_marks : Option ℕ → (line : ℕ) → Said → List Put
level_marks None l s = []
level_marks (Some d) l s = put_mark d l s ∷ []

mark_is : (bs : List Open) (next : Option ℕ) (l : ℕ) (s : Said) → mark bs next l s ≡ level_marks (level_place bs next s) l s
mark_is bs next l ignored = refl
mark_is bs next l (a_note x es) = refl
mark_is bs next l (a_value e) = refl
mark_is bs next l (statements is) = refl
mark_is bs next l (opens h z) = refl
mark_is bs next l (elif e) = refl
mark_is bs next l otherwise = refl
mark_is bs next l closes = refl

mark_levels : (q : Path) (o : Option Path) (d : Option ℕ) (l : ℕ) (s : Said) (qs : List PathPut) → Stands q o d → level_marks d l s ++ each by_level qs ≡ each by_level (marked o l s qs)
mark_levels q None None l s qs h = refl
mark_levels q (Some c) (Some d) l s qs h = ap (λ (n : ℕ). put_mark n l s ∷ each by_level qs) h.1
mark_levels q None (Some d) l s qs h = absurd h
mark_levels q (Some c) None l s qs h = absurd h

-- the puts by levels are those by paths
pub puts_by_path : (q : Path) (past : List Event) (bs : List Open) (n : ℕ) (ns : List Before) (es : List Event) (ss : List Start) →
    MarksStand q past bs n es (rows_of es ss) → puts bs n ns (rows_of es ss) ≡ each by_level (path_puts past ns es ss)
puts_by_path q past bs n ns [] ss h = refl
puts_by_path q past bs n ns (begins p k l ∷ es) ss h =
    ap (λ (x : List Put). building.an_item (level_of p) k l (first_start ss).key (first_start ss).written ns ∷ x)
    (puts_by_path p (begins p k l ∷ past) (behind bs (next_level (rows_of es (drop 1 ss))) n (row.begins (level_of p) k l (first_start ss).key (first_start ss).written)) (suc n) [] es (drop 1 ss) h)
puts_by_path q past bs n ns (beside p k b l s ∷ es) ss h =
    ap (λ (x : List Put). building.put_beside (level_of p) l s ∷ x) (puts_by_path q (beside p k b l s ∷ past) bs (suc n) ns es ss h)
puts_by_path q past bs n ns (says l s ∷ es) ss h =
    ap (λ (x : List Put). x ++ puts (behind bs (next_level (rows_of es ss)) n (row.says l s)) (suc n) (waiting ns (row.says l s)) (rows_of es ss)) (mark_is bs (next_level (rows_of es ss)) l s)
    ∙ ap (λ (x : List Put). level_marks (level_place bs (next_level (rows_of es ss)) s) l s ++ x)
    (puts_by_path q (says l s ∷ past) (behind bs (next_level (rows_of es ss)) n (row.says l s)) (suc n) (waiting ns (row.says l s)) es ss h.1)
    ∙ mark_levels q (place_of past es s) (level_place bs (next_level (rows_of es ss)) s) l s (path_puts (says l s ∷ past) (waiting ns (row.says l s)) es ss) h.0

-- ---- they are in order

-- what is said beside an item comes while the last item is in it
abbrev pub BesideStands : (last : Path) → List Event → Type 0
BesideStands q [] = Unit {0}
BesideStands q (begins p k l ∷ es) = BesideStands p es
BesideStands q (beside p k b l s ∷ es) = In q p × (suc (level_of p) ≡ length p) × BesideStands q es
BesideStands q (says l s ∷ es) = BesideStands q es

marked_ordered : (q : Path) (past : List Event) (o : Option Path) (d : Option ℕ) (l : ℕ) (s : Said) (qs : List PathPut) → Stands q o d → Ordered q past qs → Ordered q past (marked o l s qs)
marked_ordered q past None d l s qs h o = o
marked_ordered q past (Some c) (Some d) l s qs h o = (h.0, o)
marked_ordered q past (Some c) None l s qs h o = absurd h

-- both counts of items agree
abbrev pub Agree : (past seen : List Event) → Type 0
Agree past seen = (c : Path) → so_far c past ≡ so_far c seen

pub puts_ordered : (q : Path) (past seen : List Event) (bs : List Open) (n : ℕ) (ns : List Before) (es : List Event) (ss : List Start) → Agree past seen →
    MarksStand q past bs n es (rows_of es ss) → BesideStands q es → Orderly q past es → Ordered q seen (path_puts past ns es ss)
puts_ordered q past seen bs n ns [] ss a m b o = tt
puts_ordered q past seen bs n ns (begins p k l ∷ es) ss a m b o = (
  lain q (collection_of p) o.0,
  o.1 ∙ ap (λ (x : ℕ). x ∷ collection_of p) (a (collection_of p)),
  puts_ordered p (begins p k l ∷ past) (begins p k l ∷ seen) (behind bs (next_level (rows_of es (drop 1 ss))) n (row.begins (level_of p) k l (first_start ss).key (first_start ss).written)) (suc n) []
      es (drop 1 ss) (λ c. ap (λ (x : ℕ). if bytes_eq (collection_of p) c then suc x else x) (a c)) m b o.2,
)
puts_ordered q past seen bs n ns (beside p k v l s ∷ es) ss a m b o = (b.0, b.1, puts_ordered q (beside p k v l s ∷ past) seen bs (suc n) ns es ss a m b.2 o)
puts_ordered q past seen bs n ns (says l s ∷ es) ss a m b o =
    marked_ordered q seen (place_of past es s) (level_place bs (next_level (rows_of es ss)) s) l s (path_puts (says l s ∷ past) (waiting ns (row.says l s)) es ss) m.0
    (puts_ordered q (says l s ∷ past) seen (behind bs (next_level (rows_of es ss)) n (row.says l s)) (suc n) (waiting ns (row.says l s)) es ss a m.1 b o)
