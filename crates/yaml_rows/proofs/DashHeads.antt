-- The heads of a line one after another.
use Rattle.std.proofs.Common.{◌≡◌, ℕ, zero, suc, ◌+◌, ◌-◌, ◌≤◌, Bool, true, false, List, [], ◌∷◌, ◌++◌, length, drop, Option, Some, None, slice_get, refl, sym, ap, subst, ◌∙◌, arith, length-drop, append_assoc}
use Rattle.yaml_spec.specs.Bytes.{is_empty, indent, skip_white, passed}
use Rattle.yaml_spec.specs.Plain.{start_fault, span}
use Rattle.yaml_spec.specs.Rows.{Mark, dash_mark, key_mark, Key_text, Head, heads_of, key_at, is_dash, has_tab_before, least_behind, open_place_of, row_at}
use Rattle.yaml_spec.specs.Lines.{Line}
use Rattle.yaml_spec.specs.Noted.{Comment}
use Rattle.yaml_rows.specs.declared.row.Head as held
use Rattle.yaml_rows.specs.View.{heads_of as held_heads}
use Rattle.yaml_rows.specs.Heads.{marked, key_head, with_heads}
use Rattle.yaml_text.proofs.Whites.{skip_white-length}

pub ruleset whites = (skip_white-length)

-- ---- a key

abbrev head_at : ℕ → Bool → Mark → Head
head_at column has_tab m = record { column = column; has_tab = has_tab; mark = m }

some-pair : {A B : Type 0} (x m : A) (y b : B) → ◌≡◌ {A = Option (A × B)} (Some (x, y)) (Some (m, b)) → (x ≡ m) × (y ≡ b)
some-pair {A} {B} x m y b h = let e : ◌≡◌ {A = A × B} (x, y) (m, b) = cc in (ap (λ (p : A × B). p.0) e, ap (λ (p : A × B). p.1) e)

pub key_head-some : (column : ℕ) (has_tab : Bool) (t : List ℕ) (m : Mark) (b : List ℕ) → marked (key_at t) ≡ Some (m, b) → key_head column has_tab t ≡ (head_at column has_tab m ∷ [], skip_white b)
unfolding key_head
key_head-some column has_tab t m b h = by (key_at t) refl h where
  by : (o : Key_text) → key_at t ≡ o → marked o ≡ Some (m, b) → key_head column has_tab t ≡ (head_at column has_tab m ∷ [], skip_white b)
  by (Some k) e g =
      let same = some-pair (key_mark k.0) m k.1 b g in
      rw (e, key_head, same.0, same.1) refl
  by None e g = cc

pub key_head-none : (column : ℕ) (has_tab : Bool) (t : List ℕ) → marked (key_at t) ≡ None → key_head column has_tab t ≡ ([], t)
unfolding key_head
key_head-none column has_tab t h = by (key_at t) refl h where
  by : (o : Key_text) → key_at t ≡ o → marked o ≡ None → key_head column has_tab t ≡ ([], t)
  by (Some k) e g = cc
  by None e g = rw (e, key_head) refl

no_key : key_at [] ≡ None
unfolding key_at start_fault span
no_key = refl

-- ---- dashes

-- a dash takes a byte
pub dash-shorter : (t : List ℕ) → is_dash t ≡ true → suc (length (skip_white (drop 1 t))) ≤ length t
dash-shorter [] h = cc
dash-shorter (b ∷ t) h = omega (arith, skip_white-length t)

heads-dash-suc : (n column : ℕ) (has_tab : Bool) (t : List ℕ) → is_dash t ≡ true
    → heads_of (suc n) column has_tab t ≡ with_heads (head_at column has_tab dash_mark ∷ []) (let u = drop 1 t in heads_of n (column + 1 + passed u (skip_white u)) (has_tab_before u) (skip_white u))
unfolding heads_of
heads-dash-suc n column has_tab t h = rw (h, heads_of) refl

heads-key-suc : (n column : ℕ) (has_tab : Bool) (t : List ℕ) → is_dash t ≡ false → heads_of (suc n) column has_tab t ≡ key_head column has_tab t
unfolding heads_of key_head
heads-key-suc n column has_tab t h = rw (h, heads_of) (by (key_at t)) where
  by : (o : Key_text) → ◌≡◌ {A = List Head × List ℕ} (elim o [ Some k ↦ (head_at column has_tab (key_mark k.0) ∷ [], skip_white k.1) | None ↦ ([], t) ]) (elim o [ Some k ↦ (head_at column has_tab (key_mark k.0) ∷ [], skip_white k.1) | None ↦ ([], t) ])
  by o = refl

heads-empty : (n column : ℕ) (has_tab : Bool) → heads_of n column has_tab [] ≡ ([], [])
unfolding heads_of
heads-empty zero column has_tab = refl
heads-empty (suc n) column has_tab = heads-key-suc n column has_tab [] refl ∙ key_head-none column has_tab [] (rw no_key refl)

-- it makes no difference how many heads there may be, where they are no fewer than the bytes
heads-same : (n m column : ℕ) (has_tab : Bool) (t : List ℕ) → length t ≤ n → length t ≤ m → heads_of n column has_tab t ≡ heads_of m column has_tab t
heads-same zero m column has_tab [] a b = heads-empty 0 column has_tab ∙ sym (heads-empty m column has_tab)
heads-same zero m column has_tab (x ∷ t) a b = absurd (omega arith)
heads-same (suc n) zero column has_tab [] a b = heads-empty (suc n) column has_tab ∙ sym (heads-empty 0 column has_tab)
heads-same (suc n) zero column has_tab (x ∷ t) a b = absurd (omega arith)
heads-same (suc n) (suc m) column has_tab t a b = by (is_dash t) refl (heads-same n m) where
  by : (v : Bool) → is_dash t ≡ v → ((column : ℕ) (has_tab : Bool) (t : List ℕ) → length t ≤ n → length t ≤ m → heads_of n column has_tab t ≡ heads_of m column has_tab t)
      → heads_of (suc n) column has_tab t ≡ heads_of (suc m) column has_tab t
  by true e more =
      let shorter = dash-shorter t e in
      heads-dash-suc n column has_tab t e
      ∙ ap (λ r. with_heads (head_at column has_tab dash_mark ∷ []) r) (more _ _ (skip_white (drop 1 t)) (omega (arith, shorter)) (omega (arith, shorter)))
      ∙ sym (heads-dash-suc m column has_tab t e)
  by false e more = heads-key-suc n column has_tab t e ∙ sym (heads-key-suc m column has_tab t e)

-- ---- the loop over dashes

-- the heads from here on, where none may be missing
abbrev pub heads_from : ℕ → Bool → List ℕ → List Head × List ℕ
heads_from column has_tab t = heads_of (length t) column has_tab t

with_heads-more : (hs : List Head) (h : Head) (r : List Head × List ℕ) → with_heads hs (with_heads (h ∷ []) r) ≡ with_heads (hs ++ h ∷ []) r
with_heads-more hs h r = rw (append_assoc hs (h ∷ []) r.0) refl

pub heads-dash : (hs : List Head) (column next : ℕ) (has_tab : Bool) (t u v : List ℕ) → is_dash t ≡ true → u ≡ drop 1 t → v ≡ skip_white u → next ≡ column + (1 + (length u - length v))
    → with_heads hs (heads_from column has_tab t) ≡ with_heads (hs ++ head_at column has_tab dash_mark ∷ []) (heads_from next (has_tab_before u) v)
heads-dash hs column next has_tab [] u v h e f g = cc
heads-dash hs column next has_tab (b ∷ t) u v h e f g =
    let told = rw (f, e) at g in
    let same : next ≡ column + 1 + (length t - length (skip_white t)) = omega arith in
    rw (f, e, same)
    (ap (λ r. with_heads hs r)
    (heads-dash-suc (length t) column has_tab (b ∷ t) h
    ∙ ap (λ r. with_heads (head_at column has_tab dash_mark ∷ []) r) (heads-same (length t) (length (skip_white t)) _ (has_tab_before t) (skip_white t) (skip_white-length t) (omega arith)))
    ∙ with_heads-more hs (head_at column has_tab dash_mark) (heads_from (column + 1 + (length t - length (skip_white t))) (has_tab_before t) (skip_white t)))

pub heads-key : (column : ℕ) (has_tab : Bool) (t : List ℕ) → is_dash t ≡ false → heads_from column has_tab t ≡ key_head column has_tab t
heads-key column has_tab [] h = heads-empty 0 column has_tab ∙ sym (key_head-none column has_tab [] (rw no_key refl))
heads-key column has_tab (b ∷ t) h = heads-key-suc (length t) column has_tab (b ∷ t) h

-- ---- the least indent behind heads

least_behind-more : (least bound : ℕ) (h : Head) (hs : List Head) → suc h.column ≤ bound → least_behind least hs ≤ bound → least_behind least (h ∷ hs) ≤ bound
least_behind-more least bound h [] a b = a
least_behind-more least bound h (i ∷ hs) a b = b

key-within : (least bound column : ℕ) (has_tab : Bool) (t : List ℕ) → least ≤ bound → column + length t ≤ bound → least_behind least (key_head column has_tab t).0 ≤ bound
key-within least bound column has_tab [] a b = rw (key_head-none column has_tab [] (rw no_key refl)) a
key-within least bound column has_tab (x ∷ t) a b = by (key_at (x ∷ t)) refl where
  by : (o : Key_text) → key_at (x ∷ t) ≡ o → least_behind least (key_head column has_tab (x ∷ t)).0 ≤ bound
  by (Some k) e = rw (key_head-some column has_tab (x ∷ t) (key_mark k.0) k.1 (rw e refl)) (omega arith)
  by None e = rw (key_head-none column has_tab (x ∷ t) (rw e refl)) a

-- each head takes a byte, and so stands before the line's end
least-within : (n least bound column : ℕ) (has_tab : Bool) (t : List ℕ) → least ≤ bound → column + length t ≤ bound → least_behind least (heads_of n column has_tab t).0 ≤ bound
unfolding heads_of
least-within zero least bound column has_tab t a b = a
least-within (suc n) least bound column has_tab t a b = by (is_dash t) refl (least-within n least bound) where
  by : (v : Bool) → is_dash t ≡ v → ((column : ℕ) (has_tab : Bool) (t : List ℕ) → least ≤ bound → column + length t ≤ bound → least_behind least (heads_of n column has_tab t).0 ≤ bound)
      → least_behind least (heads_of (suc n) column has_tab t).0 ≤ bound
  by true e more =
      let shorter = dash-shorter t e in
      let one = length-drop 1 t in
      let left = skip_white-length (drop 1 t) in
      rw (heads-dash-suc n column has_tab t e)
      (least_behind-more least bound (head_at column has_tab dash_mark)
      (heads_of n (column + 1 + passed (drop 1 t) (skip_white (drop 1 t))) (has_tab_before (drop 1 t)) (skip_white (drop 1 t))).0
      (omega (arith, shorter)) (more _ _ (skip_white (drop 1 t)) a (omega (arith, shorter, one, left))))
  by false e more = rw (heads-key-suc n column has_tab t e) (key-within least bound column has_tab t a b)

pub least-heads : (least bound column : ℕ) (has_tab : Bool) (t : List ℕ) (hs : List Head) (r : List ℕ) → least ≤ bound → column + length t ≤ bound → (hs, r) ≡ heads_from column has_tab t → least_behind least hs ≤ bound
least-heads least bound column has_tab t hs r a b e = subst (λ (p : List Head × List ℕ). least_behind least p.0 ≤ bound) (sym e) (least-within (length t) least bound column has_tab t a b)

pub least_behind-last : (least : ℕ) (hs : List held.Head) (h : held.Head) → Some h ≡ slice_get hs (length hs - 1) → least_behind least (held_heads hs) ≡ h.column + 1
least_behind-last least [] h e = cc
least_behind-last least (x ∷ []) h e = let same : h ≡ x = cc in rw same (omega arith)
least_behind-last least (x ∷ y ∷ hs) h e =
    let less : suc (suc (length hs)) - 1 ≡ suc (length hs) = omega arith in
    let less_too : suc (length hs) - 1 ≡ length hs = omega arith in
    least_behind-last least (y ∷ hs) h (rw less_too (rw less at e))

pub heads-some : (hs : List held.Head) → (hs ≡ [] → ⊥) → is_empty (held_heads hs) ≡ false
heads-some [] h = absurd (h refl)
heads-some (x ∷ hs) h = refl

-- ---- the row of a line

pub row_at-made : (stop : ℕ) (is_owned : Bool) (least : ℕ) (before : List Comment) (l : Line) (ls : List Line) (hs : List Head) (r : List ℕ)
    → (hs, r) ≡ heads_from (passed l.text (skip_white l.text)) (has_tab_before l.text) (skip_white l.text)
    → record { place = l.place; indent = indent l.text; heads = hs; before = before; is_owned = is_owned; least = least_behind least hs; open_place = open_place_of stop l.place; text = r; below = ls } ≡ row_at stop is_owned least before l ls
unfolding row_at
row_at-made stop is_owned least before l ls hs r e = rw (← e) refl
