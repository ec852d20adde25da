-- Parts of UTF-8 text that are cut at ASCII bytes are UTF-8.
use Rattle.std.proofs.Common.{◌≡◌, ℕ, zero, suc, ◌<◌, ◌≤◌, Bool, true, false, ◌&&◌, ◌||◌, ◌==◌, List, [], ◌∷◌, ◌++◌, length, take, drop, get_or, refl, sym, ◌∙◌, ap, subst, arith, true≢false, if◌then◌else◌}
use Rattle.std.specs.Prelude.{IsUtf8, bytes_eq}
use Rattle.std.specs.Str.{IsCharBoundary}
use Rattle.std.proofs.Math.Seq.{drop-append_seam, take-append_seam}
use Rattle.std.proofs.lemmas.Bool.{eqb-true, and_parts}
use Rattle.std.proofs.lemmas.Bool.Decides.{nat_tests}
use Rattle.std.proofs.lemmas.List.{append-nil, length-append, take-append-drop}
use Rattle.std.proofs.lemmas.Slice.Eq.{bytes_eq-Decides}
use Rattle.std.proofs.lemmas.Str.{IsUtf8-nil, IsUtf8-append, IsUtf8-take, IsUtf8-drop, IsUtf8-from_ascii, IsCharBoundary-before_ascii, IsCharBoundary-after_ascii, IsCharBoundary-end}
use Rattle.std.proofs.lemmas.Str.Ascii.{IsAscii-nil, IsAscii-cons}
use Rattle.yaml_spec.specs.Bytes.{first, is_white, is_empty, skip_white, trim_end, indent, space}
use Rattle.yaml_spec.specs.Plain.{ends_before, span, part, behind}
use Rattle.yaml_spec.specs.Blocks.{is_spaces}
use Rattle.yaml_spec.specs.Lines.{Line}
use Rattle.yaml_spec.specs.Read.{is_start, is_stop}

-- ---- at an ASCII byte

-- behind a first byte that is ASCII
pub utf8_tail : (b : ℕ) (bs : List ℕ) → b < 128 → IsUtf8 (b ∷ bs) → IsUtf8 bs
utf8_tail b bs l u = IsUtf8-drop (b ∷ bs) 1 u (IsCharBoundary-after_ascii (b ∷ bs) 0 u (omega arith) l)

-- the same for any text that begins with one
pub utf8_drop : (t : List ℕ) → first t < 128 → IsUtf8 t → IsUtf8 (drop 1 t)
utf8_drop [] l u = u
utf8_drop (b ∷ bs) l u = utf8_tail b bs l u

pub utf8_one : (b : ℕ) → b < 128 → IsUtf8 (b ∷ [])
utf8_one b l = IsUtf8-from_ascii (b ∷ []) (IsAscii-cons b [] l IsAscii-nil)

-- cut before nothing or an ASCII byte
pub record AreUtf8 (a b : List ℕ) : Type 0 where
  pub front : IsUtf8 a
  pub back : IsUtf8 b

seam_bound : (a b : List ℕ) → first b < 128 → IsCharBoundary (a ++ b) (length a)
seam_bound a [] l = rw (append-nil a) (IsCharBoundary-end a)
seam_bound a (c ∷ cs) l = IsCharBoundary-before_ascii (a ++ (c ∷ cs)) (length a) (let e = length-append a (c ∷ cs) in omega arith) (seam a)
  where
    seam : (a : List ℕ) → get_or (a ++ (c ∷ cs)) (length a) 0 < 128
    seam [] = l
    seam (x ∷ xs) = seam xs

pub utf8_cut : (a b : List ℕ) → first b < 128 → IsUtf8 (a ++ b) → AreUtf8 a b
utf8_cut a b l u = record {
  front = subst IsUtf8 (take-append_seam a b) (IsUtf8-take (a ++ b) (length a) u (seam_bound a b l));
  back = subst IsUtf8 (drop-append_seam a b) (IsUtf8-drop (a ++ b) (length a) u (seam_bound a b l));
}

-- ---- white space

pub white_low : (b : ℕ) → is_white b ≡ true → b < 128
white_low b e = grind (arith, nat_tests)

pub skip_utf8 : (t : List ℕ) → IsUtf8 t → IsUtf8 (skip_white t)
skip_utf8 [] u = u
skip_utf8 (b ∷ bs) u = go (skip_utf8 bs) (is_white b) refl
  where
    go : (IsUtf8 bs → IsUtf8 (skip_white bs)) → (w : Bool) → is_white b ≡ w → IsUtf8 (elim w as (λ _. List ℕ) [ true ↦ skip_white bs | false ↦ b ∷ bs ])
    go h true e = h (utf8_tail b bs (white_low b e) u)
    go h false e = u

-- ---- plain scalars

pub record CutLow (t a : List ℕ) : Type 0 where
  pub rest : List ℕ
  pub is : t ≡ a ++ rest
  pub low : first rest < 128

stop_low : (in_flow white : Bool) (b : ℕ) (bs : List ℕ) → ends_before in_flow white b bs ≡ true → b < 128
stop_low in_flow white b bs e = grind (arith, nat_tests)

span_cut : (in_flow white : Bool) (t : List ℕ) → CutLow t (span in_flow white t)
unfolding span
span_cut in_flow white [] = record { rest = []; is = refl; low = omega arith }
span_cut in_flow white (b ∷ bs) = go (ends_before in_flow white b bs) refl (span_cut in_flow (is_white b) bs)
  where
    go : (e : Bool) → ends_before in_flow white b bs ≡ e → CutLow bs (span in_flow (is_white b) bs) → CutLow (b ∷ bs) (elim e as (λ _. List ℕ) [ true ↦ [] | false ↦ b ∷ span in_flow (is_white b) bs ])
    go true e c = record { rest = b ∷ bs; is = refl; low = stop_low in_flow white b bs e }
    go false e c = record { rest = c.rest; is = ap (λ l. b ∷ l) c.is; low = c.low }

trim_cut : (t rest : List ℕ) → first rest < 128 → CutLow (t ++ rest) (trim_end t)
trim_cut [] rest l = record { rest = rest; is = refl; low = l }
trim_cut (b ∷ bs) rest l = go (is_white b) refl (trim_end bs) (trim_cut bs rest l)
  where
    go : (w : Bool) → is_white b ≡ w → (t : List ℕ) → CutLow (bs ++ rest) t → CutLow (b ∷ (bs ++ rest)) (if w && is_empty t then [] else b ∷ t)
    go true e [] c = record { rest = b ∷ (bs ++ rest); is = refl; low = white_low b e }
    go true e (x ∷ xs) c = record { rest = c.rest; is = ap (λ l. b ∷ l) c.is; low = c.low }
    go false e t c = record { rest = c.rest; is = ap (λ l. b ∷ l) c.is; low = c.low }

part_cut : (in_flow : Bool) (t : List ℕ) → CutLow t (part in_flow t)
part_cut in_flow t =
    let s = span_cut in_flow true t in
    let c = trim_cut (span in_flow true t) s.rest s.low in
    record { rest = c.rest; is = s.is ∙ c.is; low = c.low }

-- a plain scalar's part of a line, and what stands behind it
pub part_utf8 : (in_flow : Bool) (t : List ℕ) → IsUtf8 t → AreUtf8 (part in_flow t) (behind in_flow t)
part_utf8 in_flow t u =
    let c = part_cut in_flow t in
    let a = utf8_cut (part in_flow t) c.rest c.low (subst IsUtf8 c.is u) in
    let d : behind in_flow t ≡ c.rest = ap (drop (length (part in_flow t))) c.is ∙ drop-append_seam (part in_flow t) c.rest in
    record { front = a.front; back = subst IsUtf8 (sym d) a.back }

-- ---- indents

pub spaces_utf8 : (t : List ℕ) (n : ℕ) → is_spaces t ≡ true → IsUtf8 (drop n t)
spaces_utf8 [] zero e = IsUtf8-nil
spaces_utf8 [] (suc n) e = IsUtf8-nil
spaces_utf8 (b ∷ bs) zero e = go (spaces_utf8 bs 0) (b == space) refl e
  where
    go : (is_spaces bs ≡ true → IsUtf8 bs) → (s : Bool) → (b == space) ≡ s → (s && is_spaces bs) ≡ true → IsUtf8 (b ∷ bs)
    go h true p e = IsUtf8-append (b ∷ []) bs (utf8_one b (let q = eqb-true b space p in omega arith)) (h e)
    go h false p e = absurd (true≢false (sym e))
spaces_utf8 (b ∷ bs) (suc n) e = go (spaces_utf8 bs n) (b == space) e
  where
    go : (is_spaces bs ≡ true → IsUtf8 (drop n bs)) → (s : Bool) → (s && is_spaces bs) ≡ true → IsUtf8 (drop n bs)
    go h true e = h e
    go h false e = absurd (true≢false (sym e))

pub indent_utf8 : (t : List ℕ) (n : ℕ) → n ≤ indent t → IsUtf8 t → IsUtf8 (drop n t)
indent_utf8 t zero l u = u
indent_utf8 [] (suc n) l u = u
indent_utf8 (b ∷ bs) (suc n) l u = go (indent_utf8 bs n) (b == space) refl l
  where
    go : (n ≤ indent bs → IsUtf8 bs → IsUtf8 (drop n bs)) → (s : Bool) → (b == space) ≡ s → suc n ≤ elim s as (λ _. ℕ) [ true ↦ suc (indent bs) | false ↦ 0 ] → IsUtf8 (drop n bs)
    go h true p l = h (omega arith) (utf8_tail b bs (let q = eqb-true b space p in omega arith) u)
    go h false p l = absurd (omega arith)

-- ---- markers

marker_text : (a b c : ℕ) (t : List ℕ) → a < 128 → b < 128 → c < 128 → bytes_eq (take 3 t) (a ∷ b ∷ c ∷ []) ≡ true → IsUtf8 t → IsUtf8 (drop 3 t)
marker_text a b c t l m n e u =
    let p : take 3 t ≡ a ∷ b ∷ c ∷ [] = (bytes_eq-Decides (take 3 t) (a ∷ b ∷ c ∷ [])).0 e in
    let q : t ≡ a ∷ b ∷ c ∷ drop 3 t = sym (take-append-drop 3 t) ∙ ap (λ x. x ++ drop 3 t) p in
    utf8_tail c _ n (utf8_tail b _ m (utf8_tail a _ l (subst IsUtf8 q u)))

-- behind the marker of a line
pub utf8_marker : (l : Line) → (is_start l || is_stop l) ≡ true → IsUtf8 l.text → IsUtf8 (drop 3 l.text)
utf8_marker l e u = go (is_start l) refl e
  where
    go : (b : Bool) → is_start l ≡ b → (b || is_stop l) ≡ true → IsUtf8 (drop 3 l.text)
    go true p e = marker_text 45 45 45 l.text (omega arith) (omega arith) (omega arith) (and_parts _ _ p).0 u
    go false p e = marker_text 46 46 46 l.text (omega arith) (omega arith) (omega arith) (and_parts _ _ e).0 u
