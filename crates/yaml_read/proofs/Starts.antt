-- A line that begins a row.
use Rattle.std.proofs.Common.{◌≡◌, ℕ, zero, suc, ◌+◌, ◌<◌, ◌≤◌, ◌^◌, Bool, true, false, not, ◌||◌, ◌==◌, List, [], ◌∷◌, ◌++◌, length, drop, Some, None, Result, refl, sym, ◌∙◌, ap}
use Rattle.std.proofs.lemmas.List.{length-map}
use Rattle.ytt_base.specs.declared.fault.FaultKind.{FaultKind}
use Rattle.ytt_base.specs.declared.fault.Stop.{Stop}
use Rattle.ytt_base.specs.declared.line.Line as held_line
use Rattle.ytt_base.specs.Outcomes.{Outcome}
use Rattle.ytt_base.specs.Trees.{Scalar}
use Rattle.yaml_pass.specs.Machine.{Frame, Hole, own_comment, pass}
use Rattle.yaml_rows.specs.declared.row.Row as held
use Rattle.yaml_rows.specs.View.{heads_of, row_of}
use Rattle.yaml_spec.specs.Bytes.{first, hash, is_blank, is_empty, passed, skip_white}
use Rattle.yaml_spec.specs.Held.{plain_line, plain_lines}
use Rattle.yaml_spec.specs.Lines.{Line}
use Rattle.yaml_spec.specs.Noted.{Comment}
use Rattle.yaml_spec.specs.Rows as plain
use Rattle.yaml_spec.specs.Rows.{Head, Key_text, Row, dash_mark, has_tab_before, has_value, is_dash, key_at, key_mark, row_at}
use Rattle.yaml_entries.specs.Heads.{FitsRow}
use Rattle.yaml_read.specs.Passing.{Leads, pass_behind}
use Rattle.ytt_laws.proofs.Chains.{when_false}

pub leads-same : {S A : Type 0} (next : S → Outcome A) (r : Result S Stop) (o p : Outcome A) → p ≡ o → Leads next r o → Leads next r p
leads-same next r o p e h = rw e h

-- ---- the row of a line

row_at-place : (stop : ℕ) (o : Bool) (least : ℕ) (bs : List Comment) (l : Line) (ls : List Line) → (row_at stop o least bs l ls).place ≡ l.place
unfolding row_at
row_at-place stop o least bs l ls = refl

row_at-below : (stop : ℕ) (o : Bool) (least : ℕ) (bs : List Comment) (l : Line) (ls : List Line) → (row_at stop o least bs l ls).below ≡ ls
unfolding row_at
row_at-below stop o least bs l ls = refl

-- where no head stands, the text is that behind the line's white space
none_dash : (d : Bool) (t : List ℕ) (h : Head) (more : List Head × List ℕ) (k : Key_text) (n : Result Scalar FaultKind → Head) →
    (elim d as (λ _. List Head × List ℕ) [ true ↦ (h ∷ more.0, more.1) | false ↦ elim k as (λ _. List Head × List ℕ) [ Some k ↦ (n k.0 ∷ [], skip_white k.1) | None ↦ ([], t) ] ]).0 ≡ [] →
    (elim d as (λ _. List Head × List ℕ) [ true ↦ (h ∷ more.0, more.1) | false ↦ elim k as (λ _. List Head × List ℕ) [ Some k ↦ (n k.0 ∷ [], skip_white k.1) | None ↦ ([], t) ] ]).1 ≡ t
none_dash true t h more k n e = cc
none_dash false t h more (Some k) n e = cc
none_dash false t h more None n e = refl

heads_of-none : (n column : ℕ) (tab : Bool) (t : List ℕ) → (plain.heads_of n column tab t).0 ≡ [] → (plain.heads_of n column tab t).1 ≡ t
unfolding plain.heads_of
heads_of-none zero column tab t e = refl
heads_of-none (suc n) column tab t e =
    let u = drop 1 t in
    none_dash (is_dash t) t (record { column = column; has_tab = tab; mark = dash_mark })
    (plain.heads_of n (column + 1 + passed u (skip_white u)) (has_tab_before u) (skip_white u)) (key_at t) (λ k. record { column = column; has_tab = tab; mark = key_mark k }) e

value_by : (t u : List ℕ) → u ≡ t → is_empty t ≡ false → (first t == hash) ≡ false → not (is_empty u || first u == hash) ≡ true
value_by t u e b h = rw (e, b, h) refl

row_at-value : (stop : ℕ) (o : Bool) (least : ℕ) (bs : List Comment) (l : Line) (ls : List Line) → is_blank l.text ≡ false → (first (skip_white l.text) == hash) ≡ false →
    (row_at stop o least bs l ls).heads ≡ [] → has_value (row_at stop o least bs l ls) ≡ true
unfolding row_at
row_at-value stop o least bs l ls b h e =
    let t = skip_white l.text in
    value_by t _ (heads_of-none (length t) (passed l.text t) (has_tab_before l.text) t e) b h

-- ---- the row that the program has

abbrev IsRow : held.Row → ℕ → Bool → ℕ → Line → List held_line.Line → Type 0
IsRow r stop o least l below = (bs : List Comment) → row_of bs r ≡ row_at stop o least bs l (plain_lines below)

pub row-fits : (r : held.Row) (stop : ℕ) (o : Bool) (least : ℕ) (l : Line) (below : List held_line.Line) → IsRow r stop o least l below → r.least ≤ 2 ^ 63 → l.place.line + length below < 2 ^ 32 → FitsRow r
row-fits r stop o least l below h b f =
    let p : r.place ≡ l.place = ap (λ (q : Row). q.place) (h []) ∙ row_at-place stop o least [] l (plain_lines below) in
    let q : plain_lines r.below.now ≡ plain_lines below = ap (λ (q : Row). q.below) (h []) ∙ row_at-below stop o least [] l (plain_lines below) in
    let n : length r.below.now ≡ length below = sym (length-map r.below.now plain_line) ∙ ap length q ∙ length-map below plain_line in
    (b, rw (p, n) f)

pub row-value : (r : held.Row) (stop : ℕ) (o : Bool) (least : ℕ) (l : Line) (below : List held_line.Line) → IsRow r stop o least l below → is_blank l.text ≡ false → (first (skip_white l.text) == hash) ≡ false →
    r.heads ≡ [] → has_value (row_of [] r) ≡ true
row-value r stop o least l below h b m e =
    let none : (row_at stop o least [] l (plain_lines below)).heads ≡ [] = sym (ap (λ (q : Row). q.heads) (h [])) ∙ ap heads_of e in
    ap has_value (h []) ∙ row_at-value stop o least [] l (plain_lines below) b m none

-- ---- the pass

pub pass-start : (stop : ℕ) (o : Bool) (skip least : ℕ) (cs : List Comment) (fs : List Frame) (h : Hole) (l : Line) (ls : List Line) → skip ≡ 0 → is_blank l.text ≡ false → (first (skip_white l.text) == hash) ≡ false →
    pass stop o skip least cs fs h (l ∷ ls) ≡ pass_behind stop ls (row_at stop o least cs l ls) fs h
pass-start stop o skip least cs fs h l ls e b m =
    rw e (when_false (is_blank l.text) _ _ b ∙ when_false (first (skip_white l.text) == hash) (pass stop o zero least (cs ++ own_comment l ∷ []) fs h ls) (pass_behind stop ls (row_at stop o least cs l ls) fs h) m)
