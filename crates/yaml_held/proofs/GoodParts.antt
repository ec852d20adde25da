-- What is read of lines in UTF-8 is UTF-8: folded lines, strings in quotes, block scalars and plain scalars.
use Rattle.std.proofs.Common.{◌≡◌, ℕ, zero, suc, ◌+◌, ◌<◌, Bool, true, false, ◌&&◌, ◌||◌, ◌==◌, List, [], ◌∷◌, ◌++◌, map, drop, Ok, Option, Some, None, refl, arith, if◌then◌else◌, replicate}
use Rattle.std.specs.Prelude.{IsUtf8, nat_le}
use Rattle.std.proofs.lemmas.Bool.{leb-true}
use Rattle.std.proofs.lemmas.Bool.Decides.{nat_tests}
use Rattle.std.proofs.lemmas.Str.{IsUtf8-nil, IsUtf8-append}
use Rattle.ytt_base.specs.declared.fault.Place.{Place}
use Rattle.ytt_base.specs.declared.fault.FaultKind.TheVariants as kind
use Rattle.yaml_spec.specs.Refusals.{refused}
use Rattle.ytt_base.specs.Outcomes.{Outcome, ◌>>=◌}
use Rattle.yaml_spec.specs.Bytes.{quote, first, is_empty, is_blank, skip_white, indent}
use Rattle.yaml_spec.specs.Lines.{Line}
use Rattle.yaml_spec.specs.Folding.{Part, breaks, joint, is_empty_line, fold_rest, fold_parts, whole_line, Fold}
use Rattle.yaml_spec.specs.Quotes.{Cursor, Scan, open_end, closed, wrong, scan, parts, Quote, quote_on_line, starts_quote}
use Rattle.yaml_spec.specs.Blocks.{Chomp, strip, clip, keep, is_spaces, Body, found_indent, too_long, lines_within, lines_of_spaces, body, drop_empty_end, literal, between, folded_rest, folded, starts_white, end_breaks, block_text, header, ends_header, Block}
use Rattle.yaml_spec.specs.Plain.{part, behind, ends_scalar, breaks_scalar, further}
use Rattle.std.specs.Result.{IfOk}
use Rattle.ytt_laws.proofs.Yielded.{yielded_either, yielded_option, yielded_then}
use Rattle.yaml_held.proofs.TextParts.{utf8_drop, utf8_one, skip_utf8, part_utf8, spaces_utf8, indent_utf8}
use Rattle.yaml_held.proofs.QuotesUtf8.{IsGoodScan, good_scan}

-- ---- lines and places

-- each line is UTF-8
unfoldable pub AreGoodLines : List Line → Type 0
AreGoodLines [] = Unit {0}
AreGoodLines (l ∷ ls) = IsUtf8 l.text × AreGoodLines ls

-- each text is UTF-8
unfoldable pub AreTexts : List (List ℕ) → Type 0
AreTexts [] = Unit {0}
AreTexts (t ∷ ts) = IsUtf8 t × AreTexts ts

unfoldable pub AreGoodParts : List Part → Type 0
AreGoodParts [] = Unit {0}
AreGoodParts (p ∷ ps) = IsUtf8 p.text × AreGoodParts ps

-- what is left of a line, and the lines below it, are UTF-8
pub record IsGoodCursor (c : Cursor) : Type 0 where
  pub text : IsUtf8 c.text
  pub below : AreGoodLines c.below

pub drop_lines : (n : ℕ) (ls : List Line) → AreGoodLines ls → AreGoodLines (drop n ls)
unfolding AreGoodLines
drop_lines zero ls h = h
drop_lines (suc n) [] h = tt
drop_lines (suc n) (l ∷ ls) h = drop_lines n ls h.1

pub append_texts : (xs ys : List (List ℕ)) → AreTexts xs → AreTexts ys → AreTexts (xs ++ ys)
unfolding AreTexts
append_texts [] ys p q = q
append_texts (x ∷ xs) ys p q = (p.0, append_texts xs ys p.1 q)

pub empty_texts : (n : ℕ) → AreTexts (replicate n [])
unfolding AreTexts
empty_texts zero = tt
empty_texts (suc n) = (IsUtf8-nil, empty_texts n)

-- ---- folding

utf8_breaks : (n : ℕ) → IsUtf8 (breaks n)
utf8_breaks zero = IsUtf8-nil
utf8_breaks (suc n) = IsUtf8-append (10 ∷ []) (breaks n) (utf8_one 10 (omega arith)) (utf8_breaks n)

utf8_joint : (joined : Bool) (n : ℕ) → IsUtf8 (joint joined n)
utf8_joint true zero = IsUtf8-nil
utf8_joint false zero = utf8_one 32 (omega arith)
utf8_joint true (suc n) = utf8_breaks (suc n)
utf8_joint false (suc n) = utf8_breaks (suc n)

utf8_if : (b : Bool) (x y : List ℕ) → IsUtf8 x → IsUtf8 y → IsUtf8 (elim b as (λ _. List ℕ) [ true ↦ x | false ↦ y ])
utf8_if true x y p q = p
utf8_if false x y p q = q

utf8_fold_rest : (joined : Bool) (n : ℕ) (ps : List Part) → AreGoodParts ps → IsUtf8 (fold_rest joined n ps)
unfolding AreGoodParts
utf8_fold_rest joined n [] h = IsUtf8-nil
utf8_fold_rest joined n (p ∷ []) h = IsUtf8-append (joint joined n) p.text (utf8_joint joined n) h.0
utf8_fold_rest joined n (p ∷ q ∷ ps) h =
    utf8_if (is_empty_line p) _ _ (utf8_fold_rest joined (suc n) (q ∷ ps) h.1)
    (IsUtf8-append (joint joined n) _ (utf8_joint joined n) (IsUtf8-append p.text _ h.0 (utf8_fold_rest p.joined 0 (q ∷ ps) h.1)))

pub utf8_fold : (ps : List Part) → AreGoodParts ps → IsUtf8 (fold_parts ps)
unfolding fold_parts AreGoodParts
utf8_fold [] h = IsUtf8-nil
utf8_fold (p ∷ ps) h = IsUtf8-append p.text (fold_rest p.joined 0 ps) h.0 (utf8_fold_rest p.joined 0 ps h.1)

whole_parts : (ts : List (List ℕ)) → AreTexts ts → AreGoodParts (map whole_line ts)
unfolding AreTexts AreGoodParts
whole_parts [] h = tt
whole_parts (t ∷ ts) h = (h.0, whole_parts ts h.1)

pub utf8_Fold : (ts : List (List ℕ)) → AreTexts ts → IsUtf8 (Fold ts)
utf8_Fold ts h = utf8_fold (map whole_line ts) (whole_parts ts h)

-- ---- quotes

abbrev GoodEnd : List Part × Cursor → Type 0
GoodEnd r = AreGoodParts r.0 × IsGoodCursor r.1

abbrev pub GoodString : List ℕ × Cursor → Type 0
GoodString q = IsUtf8 q.0 × IsGoodCursor q.1

good_close : (here : Place) (u rest : List ℕ) (ls : List Line) → IsUtf8 u → IsUtf8 rest → AreGoodLines ls → GoodEnd (record { text = u; joined = false } ∷ [], record { place = here; text = rest; below = ls })
unfolding AreGoodParts
good_close here u rest ls p q h = ((p, tt), record { text = q; below = h })

good_parts : (opening : Place) (is_double : Bool) (here : Place) (t : List ℕ) (ls : List Line) → IsUtf8 t → AreGoodLines ls → IfOk (parts opening is_double here t ls) GoodEnd
unfolding parts AreGoodLines IsGoodScan AreGoodParts
good_parts opening is_double here t [] u h = go (scan is_double t) (good_scan is_double t u)
  where
    go : (s : Scan) → IsGoodScan s → IfOk (elim s as (λ _. Outcome (List Part × Cursor)) [
      | open_end p ↦ refused kind.YamlForm opening
      | closed u rest ↦ Ok (record { text = u; joined = false } ∷ [], record { place = here; text = rest; below = [] })
      | wrong ↦ refused kind.YamlForm here
    ]) GoodEnd
    go (open_end p) g = tt
    go (closed v rest) g = (good_close here v rest [] g.0 g.1 tt)
    go wrong g = tt
good_parts opening is_double here t (l ∷ ls) u h = go (good_parts opening is_double l.place (skip_white l.text) ls (skip_utf8 l.text h.0) h.1) (scan is_double t) (good_scan is_double t u)
  where
    go : IfOk (parts opening is_double l.place (skip_white l.text) ls) GoodEnd → (s : Scan) → IsGoodScan s → IfOk (elim s as (λ _. Outcome (List Part × Cursor)) [
      | open_end p ↦ parts opening is_double l.place (skip_white l.text) ls >>= (λ r. Ok (p ∷ r.0, r.1))
      | closed u rest ↦ Ok (record { text = u; joined = false } ∷ [], record { place = here; text = rest; below = l ∷ ls })
      | wrong ↦ refused kind.YamlForm here
    ]) GoodEnd
    go m (open_end p) g = yielded_then GoodEnd _ (parts opening is_double l.place (skip_white l.text) ls) _ m (λ r q. ((g, q.0), q.1))
    go m (closed v rest) g = (good_close here v rest (l ∷ ls) g.0 g.1 h)
    go m wrong g = tt

pub quote_low : (t : List ℕ) → starts_quote t ≡ true → first t < 128
quote_low t e = low (first t) e
  where
    low : (b : ℕ) → (b == 34 || b == 39) ≡ true → b < 128
    low b e = grind (arith, nat_tests)

pub good_quote : (opening : Place) (c : Cursor) → IsGoodCursor c → starts_quote c.text ≡ true → IfOk (Quote opening c) GoodString
unfolding Quote
good_quote opening c g e =
    yielded_then GoodEnd _ (parts opening (first c.text == quote) c.place (drop 1 c.text) c.below) _
    (good_parts opening (first c.text == quote) c.place (drop 1 c.text) c.below (utf8_drop c.text (quote_low c.text e) g.text) g.below)
    (λ r p. (utf8_fold r.0 p.0, p.1))

-- a string and what stands behind it, if there is one
unfoldable pub IsGoodPair : Option (List ℕ × List ℕ) → Type 0
IsGoodPair (Some q) = IsUtf8 q.0 × IsUtf8 q.1
IsGoodPair None = Unit {0}

pub good_on_line : (t : List ℕ) → IsUtf8 t → starts_quote t ≡ true → IsGoodPair (quote_on_line t)
unfolding IsGoodPair IsGoodScan
good_on_line t u e = go (scan (first t == quote) (drop 1 t)) (good_scan (first t == quote) (drop 1 t) (utf8_drop t (quote_low t e) u))
  where
    go : (s : Scan) → IsGoodScan s → IsGoodPair (elim s as (λ _. Option (List ℕ × List ℕ)) [ closed u rest ↦ Some (u, rest) | _ ↦ None ])
    go (open_end p) g = tt
    go (closed v rest) g = g
    go wrong g = tt

-- ---- block scalars

utf8_literal : (ts : List (List ℕ)) → AreTexts ts → IsUtf8 (literal ts)
unfolding AreTexts
utf8_literal [] h = IsUtf8-nil
utf8_literal (t ∷ []) h = h.0
utf8_literal (t ∷ u ∷ ts) h = IsUtf8-append t _ h.0 (IsUtf8-append (10 ∷ []) _ (utf8_one 10 (omega arith)) (utf8_literal (u ∷ ts) h.1))

utf8_between : (b : Bool) (n : ℕ) → IsUtf8 (between b n)
utf8_between true n = utf8_breaks (suc n)
utf8_between false zero = utf8_one 32 (omega arith)
utf8_between false (suc n) = utf8_breaks (suc n)

utf8_folded_rest : (white : Bool) (n : ℕ) (ts : List (List ℕ)) → AreTexts ts → IsUtf8 (folded_rest white n ts)
unfolding AreTexts
utf8_folded_rest white n [] h = IsUtf8-nil
utf8_folded_rest white n (t ∷ ts) h =
    utf8_if (is_empty t) _ _ (utf8_folded_rest white (suc n) ts h.1)
    (IsUtf8-append (between (white || starts_white t) n) _ (utf8_between (white || starts_white t) n) (IsUtf8-append t _ h.0 (utf8_folded_rest (starts_white t) 0 ts h.1)))

utf8_folded : (ts : List (List ℕ)) → AreTexts ts → IsUtf8 (folded ts)
unfolding AreTexts
utf8_folded [] h = IsUtf8-nil
utf8_folded (t ∷ ts) h =
    utf8_if (is_empty t) _ _ (IsUtf8-append (10 ∷ []) _ (utf8_one 10 (omega arith)) (utf8_folded ts h.1)) (IsUtf8-append t _ h.0 (utf8_folded_rest (starts_white t) 0 ts h.1))

texts_kept : (ts : List (List ℕ)) → AreTexts ts → AreTexts (drop_empty_end ts)
unfolding AreTexts
texts_kept [] h = tt
texts_kept (t ∷ ts) h = go (is_empty t && is_empty (drop_empty_end ts)) (texts_kept ts h.1)
  where
    go : (b : Bool) → AreTexts (drop_empty_end ts) → AreTexts (if b then [] else t ∷ drop_empty_end ts)
    go true r = tt
    go false r = (h.0, r)

utf8_end : (c : Chomp) (b : Bool) (n : ℕ) → IsUtf8 (end_breaks c b n)
utf8_end strip b n = IsUtf8-nil
utf8_end clip true n = IsUtf8-nil
utf8_end clip false n = utf8_one 10 (omega arith)
utf8_end keep true n = utf8_breaks n
utf8_end keep false n = utf8_breaks (suc n)

utf8_block : (is_literal : Bool) (c : Chomp) (ts : List (List ℕ)) → AreTexts ts → IsUtf8 (block_text is_literal c ts)
unfolding block_text
utf8_block is_literal c ts h = IsUtf8-append _ _ (go is_literal) (utf8_end c (is_empty (drop_empty_end ts)) _)
  where
    go : (b : Bool) → IsUtf8 (if b then literal (drop_empty_end ts) else folded (drop_empty_end ts))
    go true = utf8_literal (drop_empty_end ts) (texts_kept ts h)
    go false = utf8_folded (drop_empty_end ts) (texts_kept ts h)

texts_within : (n : ℕ) (ls : List Line) → AreGoodLines ls → AreTexts (map (λ (l : Line). drop n l.text) (lines_within n ls))
unfolding AreGoodLines AreTexts
texts_within n [] h = tt
texts_within n (l ∷ ls) h = go (is_spaces l.text) refl (nat_le n (indent l.text)) refl (texts_within n ls h.1)
  where
    go : (s : Bool) → is_spaces l.text ≡ s → (i : Bool) → nat_le n (indent l.text) ≡ i → AreTexts (map (λ (l : Line). drop n l.text) (lines_within n ls)) →
        AreTexts (map (λ (l : Line). drop n l.text) (elim (s || i) as (λ _. List Line) [ true ↦ l ∷ lines_within n ls | false ↦ [] ]))
    go true p i q m = (spaces_utf8 l.text n p, m)
    go false p true q m = (indent_utf8 l.text n (leb-true n (indent l.text) q) h.0, m)
    go false p false q m = tt

texts_none : (ls : List Line) → AreTexts (map (λ (l : Line). []) ls)
unfolding AreTexts
texts_none [] = tt
texts_none (l ∷ ls) = (IsUtf8-nil, texts_none ls)

abbrev GoodBody : Body → Type 0
GoodBody b = AreTexts b.contents

good_body : (least digit : ℕ) (ls : List Line) → AreGoodLines ls → IfOk (body least digit ls) GoodBody
unfolding body
good_body least (suc d) ls h = (texts_within (least + d) ls h)
good_body least zero ls h =
    yielded_option _ (found_indent least ls) _ _ ((texts_none (lines_of_spaces ls))) (λ n.
    yielded_option _ (too_long n ls) _ _ ((texts_within n ls h)) (λ p. tt))

abbrev pub GoodBlock : List ℕ × List ℕ × Cursor → Type 0
GoodBlock b = IsUtf8 b.0 × IsGoodCursor b.2

pub good_block : (least : ℕ) (c : Cursor) → IsGoodCursor c → IfOk (Block least c) GoodBlock
unfolding Block
good_block least c g =
    yielded_either _ (ends_header (header (drop 1 c.text)).rest) _ _
    (yielded_then GoodBody _ (body least (header (drop 1 c.text)).digit c.below) _ (good_body least (header (drop 1 c.text)).digit c.below g.below) (λ b p.
    (utf8_block _ _ b.contents p, record { text = IsUtf8-nil; below = drop_lines b.size c.below g.below })))
    tt

-- ---- further lines of a plain scalar

abbrev pub GoodFurther : List (List ℕ) × Cursor → Type 0
GoodFurther r = AreTexts r.0 × IsGoodCursor r.1

pub good_further : (in_flow : Bool) (least empties : ℕ) (stop : Cursor) (ls : List Line) → IsGoodCursor stop → AreGoodLines ls → IfOk (further in_flow least empties stop ls) GoodFurther
unfolding further AreTexts AreGoodLines
good_further in_flow least empties stop [] g h = (tt, g)
good_further in_flow least empties stop (l ∷ ls) g h =
    let t = skip_white l.text in
    let u = part_utf8 in_flow t (skip_utf8 l.text h.0) in
    let here : Cursor = record { place = l.place; text = behind in_flow t; below = ls } in
    let c : IsGoodCursor here = record { text = u.back; below = h.1 } in
    let this : AreTexts (replicate empties [] ++ part in_flow t ∷ []) = append_texts (replicate empties []) (part in_flow t ∷ []) (empty_texts empties) (u.front, tt) in
    yielded_either _ (is_blank l.text) _ _ (good_further in_flow least (suc empties) stop ls g h.1)
    (yielded_either _ (ends_scalar in_flow least l.text) _ _ ((tt, g))
    (yielded_either _ (breaks_scalar in_flow t) _ _ tt
    (yielded_either _ (is_blank (behind in_flow t)) _ _
    (yielded_then GoodFurther _ (further in_flow least 0 here ls) _ (good_further in_flow least 0 here ls c h.1) (λ r p. (append_texts _ _ this p.0, p.1)))
    ((this, c)))))
