-- A string, as it is printed on one line, is read as a value.
use Rattle.ytt_base.specs.declared.fault.Place.{Place}
use Rattle.std.proofs.Common.{◌≡◌, ℕ, Bool, true, false, not, ◌&&◌, ◌==◌, List, [], ◌∷◌, ◌++◌, None, Ok, refl, sym, ◌∙◌, ap, subst, arith, true≢false}
use Rattle.std.specs.List.{list_all}
use Rattle.std.proofs.lemmas.List.{append-nil}
use Rattle.std.proofs.lemmas.Bool.{ne_eqb, eqb-true, ltb-true, ltb-false, and_parts, not-true}
use Rattle.std.proofs.lemmas.Str.{encode_ascii, encodes-chars}
use Rattle.std.specs.Prelude.{IsUtf8, chars, nat_lt, bytes_eq, codes, take}
use lib.Utf8.{encode, encodes}
use Rattle.yaml_spec.specs.Bytes.{hash, colon, space, tab, quote, first, is_white, is_blank, is_one_of}
use Rattle.yaml_spec.specs.Lines.{Line}
use Rattle.ytt_base.specs.Trees.{string, scalar}
use Rattle.yaml_spec.specs.Scalars.{is_string_form, Form, null_form, bool_form, octal_form, bad_octal_form, integer_form, prefixed_form, float_form, word_form, string_form, form, plain, value_of}
use Rattle.yaml_spec.specs.Folding.{fold_parts}
use Rattle.yaml_spec.specs.Quotes.{Cursor, closed, scan, parts, Quote}
use Rattle.yaml_spec.specs.Plain.{start_fault, form_indicators, out_indicators, ends_with_colon, further, ends_scalar}
use Rattle.yaml_spec.specs.Noted.{Comment, noted_scalar}
use Rattle.yaml_spec.specs.Values.{Value, value, ended, noted}
use Rattle.yaml_spec.specs.Text.{is_shown, start_marks, has_pair, last, fits_plain, quoted_text, quoted_chars}
use Rattle.yaml_back.proofs.PlainBack.{NoTab, IsQuiet}
use Rattle.yaml_back.proofs.QuotesBack.{AreHigh, encode_high, closes_chars, Closes}

-- ---- what `fits_plain` says

-- a byte outside a list is outside each part of it
pub outside_one : (xs : List ℕ) (b y : ℕ) → is_one_of xs b ≡ false → is_one_of xs y ≡ true → (b == y) ≡ false
outside_one xs b y n m = go (b == y) refl
  where
    go : (t : Bool) → (b == y) ≡ t → t ≡ false
    go true e = absurd (true≢false (sym m ∙ ap (is_one_of xs) (sym (eqb-true b y e)) ∙ n))
    go false e = refl

abbrev pub all_in : List ℕ → List ℕ → Bool
all_in [] xs = true
all_in (y ∷ ys) xs = is_one_of xs y && all_in ys xs

pub outside_all : (ys xs : List ℕ) (b : ℕ) → is_one_of xs b ≡ false → all_in ys xs ≡ true → is_one_of ys b ≡ false
outside_all [] xs b n m = refl
outside_all (y ∷ ys) xs b n m =
    let k = and_parts (is_one_of xs y) (all_in ys xs) m in
    rw (outside_one xs b y n k.0) (outside_all ys xs b n k.1)

is_string : (f : Form) → is_string_form f ≡ true → f ≡ string_form
is_string string_form e = refl
is_string null_form e = absurd (true≢false (sym e))
is_string (bool_form b) e = absurd (true≢false (sym e))
is_string octal_form e = absurd (true≢false (sym e))
is_string bad_octal_form e = absurd (true≢false (sym e))
is_string integer_form e = absurd (true≢false (sym e))
is_string (prefixed_form n) e = absurd (true≢false (sym e))
is_string float_form e = absurd (true≢false (sym e))
is_string word_form e = absurd (true≢false (sym e))

high_no_tab : (bs : List ℕ) → AreHigh bs → NoTab bs
unfolding AreHigh NoTab
high_no_tab [] h = tt
high_no_tab (b ∷ bs) h = (ne_eqb b 9 (let l = h.0 in omega arith), high_no_tab bs h.1)

no_tab-append : (xs ys : List ℕ) → NoTab xs → NoTab ys → NoTab (xs ++ ys)
unfolding NoTab
no_tab-append [] ys p q = q
no_tab-append (x ∷ xs) ys p q = (p.0, no_tab-append xs ys p.1 q)

shown_no_tab : (c : ℕ) → is_shown c ≡ true → NoTab (encode c)
unfolding NoTab
shown_no_tab c e = go (nat_lt c 128) refl (c == tab) refl
  where
    go : (low : Bool) → nat_lt c 128 ≡ low → (t : Bool) → (c == tab) ≡ t → NoTab (encode c)
    go false l t f = high_no_tab (encode c) (encode_high c (ltb-false c 128 l))
    go true l true f = absurd (true≢false (sym e ∙ ap is_shown (eqb-true c tab f)))
    go true l false f = rw (encode_ascii c (ltb-true c 128 l)) (f, tt)

no_tab_of : (cs : List ℕ) → list_all is_shown cs ≡ true → NoTab (encodes cs)
unfolding NoTab
no_tab_of [] e = tt
no_tab_of (c ∷ cs) e = let k = and_parts (is_shown c) (list_all is_shown cs) e in no_tab-append (encode c) (encodes cs) (shown_no_tab c k.0) (no_tab_of cs k.1)

last_no_tab : (s : List ℕ) → NoTab s → (last s == tab) ≡ false
unfolding NoTab
last_no_tab [] t = refl
last_no_tab (b ∷ []) t = t.0
last_no_tab (b ∷ c ∷ s) t = last_no_tab (c ∷ s) t.1

pub record IsPlain (s : List ℕ) : Type 0 where
  pub quiet : IsQuiet true s
  pub trimmed : is_white (last s) ≡ false
  pub start : is_one_of start_marks (first s) ≡ false
  pub value : plain s ≡ Ok (string s)
  pub shown : list_all is_shown (chars s) ≡ true
  pub dots : bytes_eq (take 3 s) (codes "...") ≡ false

pub plain_of : (s : List ℕ) → IsUtf8 s → fits_plain s ≡ true → IsPlain s
unfolding fits_plain plain
plain_of s u e =
    let g = and_parts _ (not (has_pair space hash s)) e in
    let f = and_parts _ (not (has_pair colon space s)) g.0 in
    let d = and_parts _ (not (is_one_of (space ∷ colon ∷ []) (last s))) f.0 in
    let c = and_parts _ (not (bytes_eq (take 3 s) (codes "..."))) d.0 in
    let b = and_parts _ (not (is_one_of start_marks (first s))) c.0 in
    let a = and_parts (is_string_form (form s)) (list_all is_shown (chars s)) b.0 in
    let start = not-true (is_one_of start_marks (first s)) b.1 in
    let ends = not-true (is_one_of (space ∷ colon ∷ []) (last s)) d.1 in
    let tabs : NoTab s = subst NoTab (encodes-chars s u) (no_tab_of (chars s) a.1) in
    record {
      quiet = record {
        tabs = tabs;
        colons = not-true (has_pair colon space s) f.1;
        hashes = not-true (has_pair space hash s) g.1;
        start = outside_one start_marks (first s) hash start refl;
        end = outside_one (space ∷ colon ∷ []) (last s) colon ends refl;
      };
      trimmed = rw (outside_one (space ∷ colon ∷ []) (last s) space ends refl, last_no_tab s tabs) refl;
      start = start;
      value = ap (λ f. value_of f s) (is_string (form s) a.0);
      shown = a.1;
      dots = not-true (bytes_eq (take 3 s) (codes "...")) c.1;
    }

-- ---- a plain string as a value

-- no line below goes on with a scalar of this indent
unfoldable pub Stops : ℕ → List Line → Type 0
Stops least [] = Unit {0}
Stops least (l ∷ ls) = (is_blank l.text ≡ false) × (ends_scalar false least l.text ≡ true)

pub further-stops : (least : ℕ) (stop : Cursor) (ls : List Line) → Stops least ls → further false least 0 stop ls ≡ Ok ([], stop)
unfolding further Stops
further-stops least stop [] s = refl
further-stops least stop (l ∷ ls) s = rw (s.0, s.1, further) refl

pub no_start_fault : (t : List ℕ) → is_one_of start_marks (first t) ≡ false → start_fault false t ≡ None
unfolding start_fault
no_start_fault t n =
    rw (
      outside_all form_indicators start_marks (first t) n refl,
      outside_all out_indicators start_marks (first t) n refl,
      outside_one start_marks (first t) 45 n refl,
      outside_one start_marks (first t) 58 n refl,
      outside_one start_marks (first t) 63 n refl,
    ) refl

pub last_colon : (s : List ℕ) → (last s == colon) ≡ false → ends_with_colon s ≡ false
last_colon [] e = refl
last_colon (b ∷ []) e = e
last_colon (b ∷ c ∷ s) e = last_colon (c ∷ s) e

abbrev pub text_value : List ℕ → List Comment → ℕ → Value
text_value s cs n = record { content = noted_scalar (scalar (string s)); loose = cs; trailing = None; last = n }

-- ---- values

-- a string that is printed in double quotes
pub scan-quoted : (s rest : List ℕ) → IsUtf8 s → scan true (quoted_chars (chars s) ++ quote ∷ rest) ≡ closed s rest
unfolding Closes
scan-quoted s rest u = closes_chars (chars s) rest [] ∙ ap (λ l. closed l rest) (encodes-chars s u)

parts-quoted : (open_place n : Place) (s rest : List ℕ) (ls : List Line) → IsUtf8 s →
    parts open_place true n (quoted_chars (chars s) ++ quote ∷ rest) ls ≡ Ok (record { text = s; joined = false } ∷ [], record { place = n; text = rest; below = ls })
unfolding parts
parts-quoted open_place n s rest [] u = rw (scan-quoted s rest u, parts) refl
parts-quoted open_place n s rest (l ∷ ls) u = rw (scan-quoted s rest u, parts) refl

pub value-quoted : (left : ℕ) (open_place : Place) (least owner : ℕ) (n : Place) (cs : List Comment) (s : List ℕ) (ls : List Line) → IsUtf8 s →
    value left open_place least owner cs (record { place = n; text = quoted_text s; below = ls }) ≡ Ok (text_value s cs n.line)
unfolding value ended noted Quote fold_parts
value-quoted left open_place least owner n cs s ls u = rw (parts-quoted open_place n s [] ls u, value) (rw (append-nil s) refl)
