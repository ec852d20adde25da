-- A scalar on one line reads back, as a value and as a key.
use Rattle.ytt_base.specs.declared.fault.Place.{Place}
use Rattle.std.proofs.Common.{◌≡◌, ℕ, suc, ◌<◌, ◌≤◌, pos, negsuc, Bool, true, false, ◌&&◌, ◌==◌, List, [], ◌∷◌, ◌++◌, Option, Some, None, Ok, refl, sym, ◌∙◌, ap, append_assoc, arith, true≢false, if◌then◌else◌, ◌⊎◌, inl, inr}
use Rattle.std.specs.List.{list_all}
use Rattle.std.proofs.lemmas.List.{append-nil}
use Rattle.std.proofs.Math.Seq.{drop-append_seam}
use Rattle.std.proofs.lemmas.Bool.{ne_eqb, leb-true, le-leb, and_parts}
use Rattle.std.proofs.lemmas.Bool.Decides.{nat_tests}
use Rattle.std.specs.Prelude.{IsUtf8, chars, codes, bytes_eq, decimal, nat_le, FitsSigned}
use Rattle.std.specs.Int.{w128}
use Rattle.std.specs.Prelude.{ℤ}
use Rattle.std.specs.Fmt.{signed_decimal}
use Rattle.yaml_spec.specs.Bytes.{hash, colon, space, tab, quote, first, is_white, is_empty, is_gap, is_one_of, is_digit}
use Rattle.yaml_spec.specs.Lines.{Line}
use Rattle.ytt_base.specs.Trees.{Scalar, null, boolean, integer, string, IsScalar, scalar}
use Rattle.yaml_spec.specs.Scalars.{form, plain}
use Rattle.yaml_spec.specs.Folding.{fold_parts}
use Rattle.yaml_spec.specs.Quotes.{Cursor, quote_on_line}
use Rattle.yaml_spec.specs.Plain.{start_fault, part, behind, plain_lines}
use Rattle.yaml_spec.specs.Noted.{Comment, noted_scalar}
use Rattle.yaml_spec.specs.Values.{Value, value, ended, noted}
use Rattle.yaml_spec.specs.Rows.{quoted_key, key_at, behind_colon, key_with, is_dash}
use Rattle.yaml_spec.specs.Text.{start_marks, has_pair, last, fits_plain, quoted_text, quoted_chars, key_text}
use Rattle.yaml_back.proofs.PlainBack.{no_gap, NoTab, IsTail, IsQuiet, part-quiet, behind-quiet}
use Rattle.yaml_spec.proofs.IntegersBack.{plain-positive, plain-negative, decimal-digits, decimal-some}
use Rattle.yaml_back.proofs.ValuesBack.{IsPlain, plain_of, Stops, further-stops, no_start_fault, last_colon, outside_all, outside_one, scan-quoted, value-quoted}

-- bytes that begin no scalar without quotes
abbrev shown_marks : List ℕ
shown_marks = space ∷ 91 ∷ 123 ∷ 34 ∷ 39 ∷ 124 ∷ 62 ∷ hash ∷ 37 ∷ []

abbrev pub line_marks : List ℕ
line_marks = tab ∷ shown_marks

-- a text without quotes that is typed as this scalar
pub record IsBare (t : List ℕ) (s : Scalar) : Type 0 where
  pub quiet : IsQuiet true t
  pub trimmed : is_white (last t) ≡ false
  pub value : plain t ≡ Ok s
  pub no_fault : (rest : List ℕ) → IsTail rest → start_fault false (t ++ rest) ≡ None
  pub no_dash : (rest : List ℕ) → IsTail rest → is_dash (t ++ rest) ≡ false
  pub no_merge : bytes_eq t (codes "<<") ≡ false
  pub some : (b : ℕ) × (bs : List ℕ) × (t ≡ b ∷ bs) × (is_one_of line_marks b ≡ false)

-- ---- what such texts are

-- by its first byte, which begins a plain string too
bare_from : (b : ℕ) (bs : List ℕ) (s : Scalar) → IsQuiet true (b ∷ bs) → is_white (last (b ∷ bs)) ≡ false → is_one_of start_marks b ≡ false → plain (b ∷ bs) ≡ Ok s → IsBare (b ∷ bs) s
unfolding NoTab
bare_from b bs s q w o v = record {
  quiet = q;
  trimmed = w;
  value = v;
  no_fault = λ rest i. no_start_fault (b ∷ (bs ++ rest)) o;
  no_dash = λ rest i. rw (outside_one start_marks b 45 o refl) refl;
  no_merge = rw (outside_one start_marks b 60 o refl) refl;
  some = (b, bs, refl, rw (q.tabs.0, outside_all shown_marks start_marks b o refl) refl);
}

bare_plain : (s : List ℕ) → IsPlain s → IsBare s (string s)
unfolding plain form
bare_plain [] p = absurd (let v = p.value in cc)
bare_plain (b ∷ bs) p = bare_from b bs (string (b ∷ bs)) p.quiet p.trimmed p.start p.value

-- bytes from `-` to `9`
abbrev is_numeric : ℕ → Bool
is_numeric b = nat_le 45 b && nat_le b 57

numeric_bounds : (b : ℕ) → is_numeric b ≡ true → (45 ≤ b) × (b ≤ 57)
numeric_bounds b e = let k = and_parts (nat_le 45 b) (nat_le b 57) e in (leb-true 45 b k.0, leb-true b 57 k.1)

numeric_tabs : (t : List ℕ) → list_all is_numeric t ≡ true → NoTab t
unfolding NoTab
numeric_tabs [] e = tt
numeric_tabs (b ∷ bs) e =
    let k = and_parts (is_numeric b) (list_all is_numeric bs) e in
    let l = numeric_bounds b k.0 in
    (ne_eqb b 9 (omega arith), numeric_tabs bs k.1)

numeric_pair : (x y : ℕ) → (x < 45) ⊎ (57 < x) → (t : List ℕ) → list_all is_numeric t ≡ true → has_pair x y t ≡ false
numeric_pair x y h [] e = refl
numeric_pair x y h (b ∷ []) e = refl
numeric_pair x y h (b ∷ c ∷ t) e =
    let k = and_parts (is_numeric b) (list_all is_numeric (c ∷ t)) e in
    let l = numeric_bounds b k.0 in
    let n : (b == x) ≡ false = ne_eqb b x (omega arith) in
    rw n (numeric_pair x y h (c ∷ t) k.1)

numeric_last : (t : List ℕ) (b : ℕ) → list_all is_numeric (b ∷ t) ≡ true → is_numeric (last (b ∷ t)) ≡ true
numeric_last [] b e = (and_parts (is_numeric b) true e).0
numeric_last (c ∷ t) b e = numeric_last t c (and_parts (is_numeric b) (list_all is_numeric (c ∷ t)) e).1

numeric_quiet : (b : ℕ) (bs : List ℕ) → list_all is_numeric (b ∷ bs) ≡ true → IsQuiet true (b ∷ bs) × (is_white (last (b ∷ bs)) ≡ false)
numeric_quiet b bs e =
    let l = numeric_bounds b (and_parts (is_numeric b) (list_all is_numeric bs) e).0 in
    let m = numeric_bounds (last (b ∷ bs)) (numeric_last bs b e) in (
      record {
        tabs = numeric_tabs (b ∷ bs) e;
        colons = numeric_pair colon space (inr (omega arith)) (b ∷ bs) e;
        hashes = numeric_pair space hash (inl (omega arith)) (b ∷ bs) e;
        start = ne_eqb b 35 (omega arith);
        end = ne_eqb (last (b ∷ bs)) 58 (omega arith);
      },
      rw (ne_eqb (last (b ∷ bs)) 32 (omega arith), ne_eqb (last (b ∷ bs)) 9 (omega arith)) refl,
    )

digit_numeric : (b : ℕ) → is_digit b ≡ true → is_numeric b ≡ true
digit_numeric b e =
    let k = and_parts (nat_le 48 b) (nat_le b 57) e in
    let l = leb-true 48 b k.0 in
    rw (le-leb 45 b (omega arith)) k.1

digits_numeric : (t : List ℕ) → list_all is_digit t ≡ true → list_all is_numeric t ≡ true
digits_numeric [] e = refl
digits_numeric (b ∷ bs) e =
    let k = and_parts (is_digit b) (list_all is_digit bs) e in
    rw (digit_numeric b k.0) (digits_numeric bs k.1)

bare_digits : (t : List ℕ) (s : Scalar) → is_empty t ≡ false → list_all is_digit t ≡ true → plain t ≡ Ok s → IsBare t s
bare_digits [] s e d p = absurd (true≢false e)
bare_digits (b ∷ bs) s e d p =
    let q = numeric_quiet b bs (digits_numeric (b ∷ bs) d) in
    let k = and_parts (nat_le 48 b) (nat_le b 57) (and_parts (is_digit b) (list_all is_digit bs) d).0 in
    let l = leb-true 48 b k.0 in
    let h = leb-true b 57 k.1 in
    bare_from b bs s q.0 q.1 (grind (arith, nat_tests)) p

bare_negative : (t : List ℕ) (s : Scalar) → is_empty t ≡ false → list_all is_digit t ≡ true → plain (45 ∷ t) ≡ Ok s → IsBare (45 ∷ t) s
unfolding start_fault
bare_negative [] s e d p = absurd (true≢false e)
bare_negative (b ∷ bs) s e d p =
    let q = numeric_quiet 45 (b ∷ bs) (digits_numeric (b ∷ bs) d) in
    let k = and_parts (nat_le 48 b) (nat_le b 57) (and_parts (is_digit b) (list_all is_digit bs) d).0 in
    let l = leb-true 48 b k.0 in
    let g : (rest : List ℕ) → is_gap (b ∷ (bs ++ rest)) ≡ false = λ rest. no_gap b (bs ++ rest) (ne_eqb b 32 (omega arith)) (ne_eqb b 9 (omega arith)) in
    record {
      quiet = q.0;
      trimmed = q.1;
      value = p;
      no_fault = λ rest i. rw (g rest) refl;
      no_dash = λ rest i. rw (g rest) refl;
      no_merge = refl;
      some = (45, b ∷ bs, refl, refl);
    }

bare_null : IsBare (codes "null") null
unfolding plain form NoTab
bare_null = bare_from 110 (codes "ull") null (record { tabs = (refl, (refl, (refl, (refl, tt)))); colons = refl; hashes = refl; start = refl; end = refl }) refl refl refl

bare_true : IsBare (codes "true") (boolean true)
unfolding plain form NoTab
bare_true = bare_from 116 (codes "rue") (boolean true) (record { tabs = (refl, (refl, (refl, (refl, tt)))); colons = refl; hashes = refl; start = refl; end = refl }) refl refl refl

bare_false : IsBare (codes "false") (boolean false)
unfolding plain form NoTab
bare_false = bare_from 102 (codes "alse") (boolean false) (record { tabs = (refl, (refl, (refl, (refl, (refl, tt))))); colons = refl; hashes = refl; start = refl; end = refl }) refl refl refl

-- a scalar as it is printed on one line: without quotes, or a string in quotes
pub data IsLine : List ℕ → Scalar → Type 0 where
  bare : {t : List ℕ} {s : Scalar} → IsBare t s → IsLine t s
  in_quotes : (s : List ℕ) → IsUtf8 s → IsLine (quoted_text s) (string s)

line_string : (s : List ℕ) → IsUtf8 s → (b : Bool) → fits_plain s ≡ b → IsLine (if b then s else quoted_text s) (string s)
line_string s u true e = bare (bare_plain s (plain_of s u e))
line_string s u false e = in_quotes s u

line_integer : (z : ℤ) → FitsSigned w128 z → IsLine (signed_decimal z) (integer z)
line_integer (pos n) f = bare (bare_digits (decimal n) (integer (pos n)) (decimal-some n) (decimal-digits n) (plain-positive n (omega (arith, f))))
line_integer (negsuc n) f = bare (bare_negative (decimal (suc n)) (integer (negsuc n)) (decimal-some (suc n)) (decimal-digits (suc n)) (plain-negative n (omega (arith, f))))

pub key_line : (s : Scalar) → IsScalar s → IsLine (key_text s) s
key_line null h = bare bare_null
key_line (boolean true) h = bare bare_true
key_line (boolean false) h = bare bare_false
key_line (integer z) h = line_integer z h
key_line (string s) h = line_string s h (fits_plain s) refl

-- ---- as a value

abbrev pub leaf_value : Scalar → List Comment → ℕ → Value
leaf_value s cs n = record { content = noted_scalar (scalar s); loose = cs; trailing = None; last = n }

plain_lines-bare : (least : ℕ) (c : Cursor) (s : Scalar) → IsBare c.text s → Stops least c.below →
    plain_lines false least c ≡ Ok (s, record c { text = [] })
unfolding plain_lines IsTail fold_parts
plain_lines-bare least c s p e =
    let w : part false c.text ≡ c.text = ap (part false) (sym (append-nil c.text)) ∙ part-quiet c.text [] p.quiet tt p.trimmed in
    let v : behind false c.text ≡ [] = ap (behind false) (sym (append-nil c.text)) ∙ behind-quiet c.text [] p.quiet tt p.trimmed in
    let n : start_fault false c.text ≡ None = ap (start_fault false) (sym (append-nil c.text)) ∙ p.no_fault [] tt in
    rw (n, plain_lines, w, last_colon c.text p.quiet.end, v, v, further-stops least (record c { text = [] }) c.below e, w)
    (rw (append-nil c.text, p.value) refl)

value-bare_at : (left : ℕ) (open_place : Place) (least owner : ℕ) (n : Place) (cs : List Comment) (t : List ℕ) (ls : List Line) (s : Scalar) → IsBare t s → Stops least ls →
    (b : ℕ) (bs : List ℕ) → t ≡ b ∷ bs → is_one_of line_marks b ≡ false →
    value left open_place least owner cs (record { place = n; text = t; below = ls }) ≡ Ok (leaf_value s cs n.line)
unfolding value ended noted
value-bare_at left open_place least owner n cs t ls s p e b bs q o =
    let f : first t ≡ b = ap first q in
    rw (
      f,
      value,
      outside_one line_marks b 91 o refl,
      outside_one line_marks b 123 o refl,
      f,
      outside_one line_marks b 34 o refl,
      outside_one line_marks b 39 o refl,
      f,
      outside_one line_marks b 124 o refl,
      outside_one line_marks b 62 o refl,
      plain_lines-bare least (record { place = n; text = t; below = ls }) s p e,
    ) refl

pub value-line : (left : ℕ) (open_place : Place) (least owner : ℕ) (n : Place) (cs : List Comment) (t : List ℕ) (ls : List Line) (s : Scalar) → IsLine t s → Stops least ls →
    value left open_place least owner cs (record { place = n; text = t; below = ls }) ≡ Ok (leaf_value s cs n.line)
value-line left open_place least owner n cs t ls s (bare p) e = value-bare_at left open_place least owner n cs t ls s p e p.some.0 p.some.1 p.some.2 p.some.3
value-line left open_place least owner n cs t ls _ (in_quotes s u) e = value-quoted left open_place least owner n cs s ls u

-- ---- as a key

-- what follows a key: a colon and a gap, or nothing
pub tail_of : (rest : List ℕ) → IsTail rest → Option (List ℕ)
tail_of [] i = None
tail_of (b ∷ bs) i = Some bs

behind_colon-tail : (rest : List ℕ) (i : IsTail rest) → behind_colon rest ≡ tail_of rest i
unfolding IsTail tail_of
behind_colon-tail [] i = refl
behind_colon-tail (b ∷ bs) i = rw i.0 (rw i.1 refl)

bare_key : (t rest : List ℕ) (s : Scalar) → IsBare t s → (i : IsTail rest) → (b : ℕ) (bs : List ℕ) → t ≡ b ∷ bs → is_one_of line_marks b ≡ false →
    key_at (t ++ rest) ≡ key_with (Ok s) (tail_of rest i)
unfolding key_at
bare_key t rest s p i b bs q o =
    let f : first (t ++ rest) ≡ b = ap (λ (t : List ℕ). first (t ++ rest)) q in
    let w : part false (t ++ rest) ≡ t = part-quiet t rest p.quiet i p.trimmed in
    rw (
      f,
      outside_one line_marks b 34 o refl,
      outside_one line_marks b 39 o refl,
      f,
      key_at,
      outside_one line_marks b 91 o refl,
      outside_one line_marks b 123 o refl,
      p.no_fault rest i,
      w,
      last_colon t p.quiet.end,
      p.no_merge,
      p.value,
      drop-append_seam t rest,
    )
    (ap (key_with (Ok s)) (behind_colon-tail rest i))

quoted_key_at : (s rest : List ℕ) → IsUtf8 s → (i : IsTail rest) → key_at (quoted_text s ++ rest) ≡ key_with (Ok (string s)) (tail_of rest i)
unfolding key_at
quoted_key_at s rest u i =
    let e : quoted_text s ++ rest ≡ quote ∷ (quoted_chars (chars s) ++ quote ∷ rest) = simp append_assoc in
    let q : quote_on_line (quote ∷ (quoted_chars (chars s) ++ quote ∷ rest)) ≡ Some (s, rest) = rw (scan-quoted s rest u, quote_on_line) refl in
    rw e (ap quoted_key q ∙ ap (key_with (Ok (string s))) (behind_colon-tail rest i))

pub key_at-line : (t rest : List ℕ) (s : Scalar) → IsLine t s → (i : IsTail rest) → key_at (t ++ rest) ≡ key_with (Ok s) (tail_of rest i)
key_at-line t rest s (bare p) i = bare_key t rest s p i p.some.0 p.some.1 p.some.2 p.some.3
key_at-line _ rest _ (in_quotes s u) i = quoted_key_at s rest u i

-- a key with its colon; a scalar alone is none
pub key_at-key : (t rest : List ℕ) (s : Scalar) → IsLine t s → is_gap rest ≡ true → key_at (t ++ (colon ∷ rest)) ≡ Some (Ok s, rest)
unfolding IsTail tail_of
key_at-key t rest s l g = key_at-line t (colon ∷ rest) s l (refl, g)

pub key_at-none : (t : List ℕ) (s : Scalar) → IsLine t s → key_at t ≡ None
unfolding IsTail tail_of
key_at-none t s l = ap key_at (sym (append-nil t)) ∙ key_at-line t [] s l tt

-- no dash begins it
pub no_dash-line : (t rest : List ℕ) (s : Scalar) → IsLine t s → IsTail rest → is_dash (t ++ rest) ≡ false
no_dash-line t rest s (bare p) i = p.no_dash rest i
no_dash-line _ rest _ (in_quotes s u) i = refl

-- its first byte is no white space, no `#` and no `%`
pub first-line : (t : List ℕ) (s : Scalar) → IsLine t s → (b : ℕ) × (bs : List ℕ) × (t ≡ b ∷ bs) × (is_white b ≡ false) × ((b == hash) ≡ false) × ((b == 37) ≡ false)
first-line t s (bare p) = (
  p.some.0,
  p.some.1,
  p.some.2,
  rw (outside_one line_marks p.some.0 32 p.some.3 refl, outside_one line_marks p.some.0 9 p.some.3 refl) refl,
  outside_one line_marks p.some.0 35 p.some.3 refl,
  outside_one line_marks p.some.0 37 p.some.3 refl,
)
first-line _ _ (in_quotes s u) = (quote, quoted_chars (chars s) ++ quote ∷ [], refl, refl, refl, refl)
