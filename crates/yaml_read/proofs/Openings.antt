-- How the heads of a row open blocks, one after another.
use Rattle.std.proofs.Common.{◌≡◌, ℕ, suc, ◌<◌, Bool, true, false, not, ◌&&◌, ◌||◌, ◌==◌, List, [], ◌∷◌, ◌++◌, length, Option, Some, None, Ok, Err, refl, sym, ◌∙◌, ap, arith, append_assoc, eq-eqb, get_or}
use Rattle.ytt_base.specs.Outcomes.{Outcome, ◌>>=◌}
use Rattle.ytt_base.specs.Trees.{Scalar}
use Rattle.yaml_pass.specs.Machine.{Begun, Frame, Hole, Opened, begin_content, begin_entry, opens}
use Rattle.yaml_spec.specs.Entries.{behind_head, is_dash_mark, note_of}
use Rattle.yaml_spec.specs.Noted.{Comment, Note}
use Rattle.yaml_spec.specs.Plain.{typed}
use Rattle.yaml_spec.specs.Rows.{Head, Mark, Row, dash_mark, key_mark}
use Rattle.yaml_rows.specs.declared.row.Head as held
use Rattle.yaml_rows.specs.declared.row.Row as held_row
use Rattle.yaml_rows.specs.View.{head_of, heads_of, mark_of, row_of}
use Rattle.yaml_entries.specs.Heads.{begin_last}
use Rattle.yaml_read.specs.Heads.{goes_on, new_frame, onto, opens_in, row_from}
use Rattle.ytt_laws.proofs.Chains.{when_true}

-- the row from these heads on
abbrev pub at_heads : ℕ → List Head → Row → Row
at_heads n hs r = record r { indent = n; heads = hs }

-- ---- tests

eq_same : (n : ℕ) → (n == n) ≡ true
eq_same n = eq-eqb n n refl

test_true : (tab : Bool) (n : ℕ) (b : Bool) → tab ≡ false → (not tab && n == n && ((b && b) || (not b && not b))) ≡ true
test_true tab n true e = rw (e, eq_same n) refl
test_true tab n false e = rw (e, eq_same n) refl

test_false : (tab : Bool) (n : ℕ) (b : Bool) → tab ≡ true → (not tab && n == n && ((b && b) || (not b && not b))) ≡ false
test_false tab n b e = rw e refl

-- ---- the last head

abbrev begun_as : Row → Option Scalar → Option Comment × Hole → Outcome Begun
begun_as r k b = Ok (note_of r k b.0, [], b.1)

abbrev has_key : Scalar → Outcome (Option Scalar)
has_key s = Ok (Some s)

last_by : (left : ℕ) (r : Row) (o : Outcome Scalar) →
    o >>= (λ s. begin_content left r >>= begun_as r (Some s)) ≡ (o >>= has_key) >>= (λ k. begin_content left r >>= begun_as r k)
last_by left r (Ok s) = refl
last_by left r (Err e) = refl

entry-last : (left : ℕ) (o : ℕ → Row → Outcome Opened) (r : Row) (m : Mark) (hs : List Head) → goes_on m hs ≡ false → begin_entry left o r m hs ≡ begin_last left r m
entry-last left o r (key_mark k) hs e = last_by left r (typed r.place k)
entry-last left o r dash_mark [] e = refl
entry-last left o r dash_mark (h ∷ hs) e = cc

-- what stands at the last head does not depend on which heads are passed
last_from : (left n : ℕ) (r : Row) (x : Head) (xs : List Head) → r.heads ≡ x ∷ xs → (h : Head) (hs : List Head) (m : Mark) → begin_last left (at_heads n (h ∷ hs) r) m ≡ begin_last left r m
last_from left n r x xs e h hs m = rw e refl

-- ---- blocks

abbrev framed : ℕ → ℕ → Bool → Begun → Outcome Opened
framed left n is_list b = Ok (new_frame left n is_list b.0, b.1, b.2)

opens-here : (left n : ℕ) (h : Head) (hs : List Head) (r : Row) → h.has_tab ≡ false →
    opens (suc left) n (at_heads n (h ∷ hs) r) ≡ begin_entry left (opens left) (at_heads n (h ∷ hs) r) h.mark hs >>= framed left n (is_dash_mark h.mark)
opens-here left n h hs r e =
    ap (λ (o : Outcome Begun). o >>= framed left n (is_dash_mark h.mark))
    (when_true (not h.has_tab && n == n && ((is_dash_mark h.mark && is_dash_mark h.mark) || (not (is_dash_mark h.mark) && not (is_dash_mark h.mark)))) _ _ (test_true h.has_tab n (is_dash_mark h.mark) e))

-- the last block that a row opens
abbrev pub last_in : List Frame → ℕ → ℕ → Bool → Begun → Outcome (List Frame × Hole)
last_in outer left n is_list b = Ok (outer ++ new_frame left n is_list b.0 ∷ b.1, b.2)

bind_framed : (outer : List Frame) (left n : ℕ) (is_list : Bool) (o : Outcome Begun) → (o >>= framed left n is_list) >>= onto outer ≡ o >>= last_in outer left n is_list
bind_framed outer left n is_list (Ok b) = refl
bind_framed outer left n is_list (Err e) = refl

opens-last : (outer : List Frame) (left n : ℕ) (h : Head) (hs : List Head) (r : Row) (x : Head) (xs : List Head) → r.heads ≡ x ∷ xs → h.has_tab ≡ false → goes_on h.mark hs ≡ false →
    opens_in outer (suc left) n (at_heads n (h ∷ hs) r) ≡ begin_last left r h.mark >>= last_in outer left n (is_dash_mark h.mark)
opens-last outer left n h hs r x xs e t g =
    ap (λ (o : Outcome Opened). o >>= onto outer) (opens-here left n h hs r t)
    ∙ bind_framed outer left n (is_dash_mark h.mark) _
    ∙ ap (λ (o : Outcome Begun). o >>= last_in outer left n (is_dash_mark h.mark)) (entry-last left (opens left) (at_heads n (h ∷ hs) r) h.mark hs g ∙ last_from left n r x xs e h hs h.mark)

-- a block behind a dash
abbrev opened_as : Note → Opened → Outcome Begun
opened_as note p = Ok (note, p.0 ∷ p.1, p.2)

more_by : (outer : List Frame) (left n : ℕ) (r : Row) (o : Outcome Opened) →
    ((o >>= opened_as (note_of r None None)) >>= framed left n true) >>= onto outer
    ≡ o >>= onto (outer ++ new_frame left n true (note_of r None None) ∷ [])
more_by outer left n r (Ok p) = ap (λ (fs : List Frame). Ok (fs, p.2)) (sym (append_assoc outer (new_frame left n true (note_of r None None) ∷ []) (p.0 ∷ p.1)))
more_by outer left n r (Err e) = refl

dash_by : (m : Mark) (i : Head) (is : List Head) → goes_on m (i ∷ is) ≡ true → m ≡ dash_mark
dash_by dash_mark i is e = refl
dash_by (key_mark k) i is e = cc

opens-more : (outer : List Frame) (left n : ℕ) (h i : Head) (is : List Head) (r : Row) → h.has_tab ≡ false → goes_on h.mark (i ∷ is) ≡ true →
    opens_in outer (suc left) n (at_heads n (h ∷ i ∷ is) r)
    ≡ opens_in (outer ++ new_frame left n true (note_of r None None) ∷ []) left i.column (at_heads i.column (i ∷ is) (record r { before = [] }))
opens-more outer left n h i is r t g =
    ap (λ (o : Outcome Opened). o >>= onto outer) (opens-here left n h (i ∷ is) r t)
    ∙ rw (dash_by h.mark i is g) (more_by outer left n r (opens left i.column (behind_head i.column (i ∷ is) r)))

-- ---- blocks of the program's rows

some_head : (hs : List held.Head) → 0 < length hs → (x : Head) × (xs : List Head) × (heads_of hs ≡ x ∷ xs)
some_head [] h = absurd (omega arith)
some_head (x ∷ xs) h = (head_of x, heads_of xs, refl)

more_held : (outer : List Frame) (left n : ℕ) (h : held.Head) (behind : List held.Head) (i : held.Head) (row : held_row.Row) (bs : List Comment) →
    h.has_tab ≡ false → goes_on (mark_of h.mark) (heads_of behind) ≡ true →
    opens_in outer (suc left) n (row_from bs n (h ∷ behind) row)
    ≡ opens_in (outer ++ new_frame left n true (note_of (row_of bs row) None None) ∷ []) left (get_or behind 0 i).column (row_from [] (get_or behind 0 i).column behind row)
more_held outer left n h [] i row bs t g = let w : goes_on (mark_of h.mark) [] ≡ false = none (mark_of h.mark) in cc
  where
    none : (m : Mark) → goes_on m [] ≡ false
    none dash_mark = refl
    none (key_mark k) = refl
more_held outer left n h (j ∷ js) i row bs t g = (opens-more outer left n (head_of h) (head_of j) (heads_of js) (row_of bs row) t g)

pub more_blocks : (outer fs : List Frame) (left l n : ℕ) (heads : List held.Head) (h : held.Head) (behind : List held.Head) (i : held.Head) (row : held_row.Row) (bs cs : List Comment) (note : Note) →
    heads ≡ h ∷ behind → left ≡ suc l → h.has_tab ≡ false → goes_on (mark_of h.mark) (heads_of behind) ≡ true → cs ≡ [] →
    note ≡ note_of (row_of bs row) None None → fs ≡ outer ++ new_frame l n true note ∷ [] →
    opens_in outer left n (row_from bs n heads row) ≡ opens_in fs l (get_or behind 0 i).column (row_from cs (get_or behind 0 i).column behind row)
more_blocks outer fs left l n heads h behind i row bs cs note he le t g ce ne fe =
    rw (he, le, fe, ce, ne) (more_held outer l n h behind i row bs t g)

pub last_block : (outer : List Frame) (left l n : ℕ) (heads : List held.Head) (h : held.Head) (behind : List held.Head) (row : held_row.Row) (bs : List Comment) →
    heads ≡ h ∷ behind → left ≡ suc l → 0 < length row.heads → h.has_tab ≡ false → goes_on (mark_of h.mark) (heads_of behind) ≡ false →
    opens_in outer left n (row_from bs n heads row) ≡ begin_last l (row_of bs row) (mark_of h.mark) >>= last_in outer l n (is_dash_mark (mark_of h.mark))
last_block outer left l n heads h behind row bs he le some t g =
    let x = some_head row.heads some in
    rw (he, le) (opens-last outer l n (head_of h) (heads_of behind) (row_of bs row) x.0 x.1 x.2 t g)

pub last_opened : (outer fs : List Frame) (left n : ℕ) (is_list d : Bool) (o : Outcome Begun) (b : Begun) →
    o ≡ Ok b → b.1 ≡ [] → d ≡ is_list → fs ≡ outer ++ new_frame left n d b.0 ∷ [] →
    o >>= last_in outer left n is_list ≡ Ok (fs, b.2)
last_opened outer fs left n is_list d o b e none de fe = rw (e, fe, de, none) refl

begun_by : (note : Note) (o : Outcome Opened) (x : List Frame × Hole) → o >>= onto [] ≡ Ok x → o >>= opened_as note ≡ Ok (note, x.0, x.1)
begun_by note (Ok o) x e = let h : ◌≡◌ {A = List Frame × Hole} (o.0 ∷ o.1, o.2) x = cc in ap (λ (y : List Frame × Hole). Ok (note, y.0, y.1)) h
begun_by note (Err d) x e = cc

pub entry_begun : (fs : List Frame) (left : ℕ) (m : Mark) (behind : List held.Head) (i : held.Head) (row : held_row.Row) (bs cs : List Comment) (note : Note) (x : List Frame × Hole) →
    goes_on m (heads_of behind) ≡ true → fs ≡ [] → cs ≡ [] → note ≡ note_of (row_of bs row) None None →
    opens_in fs left (get_or behind 0 i).column (row_from cs (get_or behind 0 i).column behind row) ≡ Ok x →
    begin_entry left (opens left) (row_of bs row) m (heads_of behind) ≡ Ok (note, x.0, x.1)
entry_begun fs left (key_mark k) behind i row bs cs note x g fe ce ne e = cc
entry_begun fs left dash_mark [] i row bs cs note x g fe ce ne e = cc
entry_begun fs left dash_mark (j ∷ js) i row bs cs note x g fe ce ne e =
    rw ne (begun_by (note_of (row_of bs row) None None) (opens left j.column (row_from [] j.column (j ∷ js) row)) x (rw (fe, ce) at e))
