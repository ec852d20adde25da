-- A line of a quoted scalar by pieces.
use Rattle.std.proofs.Common.{◌≡◌, ℕ, zero, suc, ◌+◌, ◌*◌, ◌<◌, Bool, true, false, ◌==◌, if◌then◌else◌, List, [], ◌∷◌, ◌++◌, take, drop, Option, Some, None, refl, sym, ap, ◌∙◌, arith, append_assoc, append-nil, lit<}
use Rattle.std.proofs.lemmas.Str.{encode_ascii}
use Rattle.std.proofs.lemmas.Bool.Decides.{nat_tests}
use Rattle.std.specs.Char.{encode_utf8}
use Rattle.std.specs.List.{prefix_len}
use Rattle.yaml_spec.specs.Bytes.{quote, apostrophe, backslash, is_white, is_hex_digit, digit_value, trim_end}
use Rattle.yaml_spec.specs.Quotes.{Scan, open_end, closed, wrong, line_ends, prepend, normal, escape, digits, escaped, escape_digits, is_scalar_value, single, double, scan}
use Rattle.yaml_quotes.specs.Turns.{Turn, ends, closes, gives, fails, is_plain, number_at, escape_at, turn_at, after_piece}
use Rattle.yaml_text.proofs.Whites.{trim_end-middle, trim_end-white}

pub prepend-nil : (s : Scan) → prepend [] s ≡ s
prepend-nil (open_end p) = refl
prepend-nil (closed u rest) = refl
prepend-nil wrong = refl

pub prepend-prepend : (t u : List ℕ) (s : Scan) → prepend t (prepend u s) ≡ prepend (t ++ u) s
prepend-prepend t u (open_end p) = rw (append_assoc t u p.text) refl
prepend-prepend t u (closed v rest) = rw (append_assoc t u v) refl
prepend-prepend t u wrong = refl

-- nothing but white space
abbrev IsWhite : List ℕ → Type 0
IsWhite w = trim_end w ≡ []

-- a byte that is no white space stands before a piece
before_piece : (is_double : Bool) (w : List ℕ) (b : ℕ) (p : List ℕ) (t : Turn) → is_white b ≡ false
    → prepend (w ++ b ∷ []) (after_piece is_double p t) ≡ after_piece is_double (w ++ b ∷ p) t
before_piece is_double w b p (ends true) h = rw (append_assoc w (b ∷ []) p) refl
before_piece is_double w b p (ends false) h = rw (append_assoc w (b ∷ []) (trim_end p), trim_end-middle w b p h) refl
before_piece is_double w b p (closes t) h = rw (append_assoc w (b ∷ []) p) refl
before_piece is_double w b p (gives c t) h =
    prepend-prepend (w ++ b ∷ []) (p ++ encode_utf8 c) (scan is_double t)
    ∙ ap (λ x. prepend x (scan is_double t)) (sym (append_assoc (w ++ b ∷ []) p (encode_utf8 c)) ∙ ap (λ x. x ++ encode_utf8 c) (append_assoc w (b ∷ []) p))
before_piece is_double w b p fails h = refl

-- ---- escapes

double-digits : (n c : ℕ) (w bs : List ℕ) → double (digits (suc n) c) w bs ≡ after_piece true w (number_at (suc n) c bs)
unfolding double number_at
double-digits n c w [] = refl
double-digits zero c w (b ∷ bs) = by (is_hex_digit b) (is_scalar_value (c * 16 + digit_value b)) refl refl where
  by : (h s : Bool) → is_hex_digit b ≡ h → is_scalar_value (c * 16 + digit_value b) ≡ s → double (digits 1 c) w (b ∷ bs) ≡ after_piece true w (number_at 1 c (b ∷ bs))
  by true true e f = rw (double, number_at, e, f) refl
  by true false e f = rw (double, number_at, e, f) refl
  by false s e f = rw (double, number_at, e) refl
double-digits (suc n) c w (b ∷ bs) = by (is_hex_digit b) refl (double-digits n (c * 16 + digit_value b) w bs) where
  by : (h : Bool) → is_hex_digit b ≡ h → double (digits (suc n) (c * 16 + digit_value b)) w bs ≡ after_piece true w (number_at (suc n) (c * 16 + digit_value b) bs)
      → double (digits (suc (suc n)) c) w (b ∷ bs) ≡ after_piece true w (number_at (suc (suc n)) c (b ∷ bs))
  by true e more = rw (double, number_at, e) more
  by false e more = rw (double, number_at, e) refl

some_digits : (x u l : Bool) → if◌then◌else◌ {A = Option ℕ} x (Some 2) (if◌then◌else◌ {A = Option ℕ} u (Some 4) (if◌then◌else◌ {A = Option ℕ} l (Some 8) None)) ≡ Some 0 → ⊥
some_digits true u l e = cc
some_digits false true l e = cc
some_digits false false true e = cc
some_digits false false false e = cc

double-escape : (w bs : List ℕ) → double escape w bs ≡ after_piece true w (escape_at bs)
unfolding double escape_at
double-escape w [] = refl
double-escape w (b ∷ bs) = by (escaped b) (escape_digits b) refl refl where
  by : (s : Option ℕ) (n : Option ℕ) → escaped b ≡ s → escape_digits b ≡ n → double escape w (b ∷ bs) ≡ after_piece true w (escape_at (b ∷ bs))
  by (Some c) n e f = rw (double, escape_at, e) refl
  by None None e f = rw (double, escape_at, e, f) refl
  by None (Some zero) e f = absurd (some_digits (b == 120) (b == 117) (b == 85) f)
  by None (Some (suc n)) e f = rw (double, escape_at, e, f) (double-digits n 0 w bs)

-- ---- pieces

abbrev run : Bool → List ℕ → ℕ
run is_double t = prefix_len (is_plain is_double) t

abbrev Cuts : Bool → List ℕ → List ℕ → Scan → Type 0
Cuts is_double w t s = s ≡ after_piece is_double (w ++ take (run is_double t) t) (turn_at is_double (drop (run is_double t) t))

double-piece : (w t : List ℕ) → IsWhite w → Cuts true w t (double normal w t)
unfolding double
double-piece w [] h = rw (append-nil w, h) refl
double-piece w (b ∷ bs) h = by (b == quote) (b == backslash) (is_white b) refl refl refl (double-piece (w ++ b ∷ []) bs) (double-piece [] bs refl) where
  by : (q k s : Bool) → (b == quote) ≡ q → (b == backslash) ≡ k → is_white b ≡ s → (IsWhite (w ++ b ∷ []) → Cuts true (w ++ b ∷ []) bs (double normal (w ++ b ∷ []) bs)) → Cuts true [] bs (double normal [] bs)
      → Cuts true w (b ∷ bs) (double normal w (b ∷ bs))
  by true k s e f g white other = rw (double, e, append-nil w, e) refl
  by false true s e f g white other = rw (double, e, f, append-nil w, e) (double-escape w bs)
  by false false true e f g white other =
      let one : 1 + run true bs ≡ suc (run true bs) = omega arith in
      rw (double, e, f, g, one) (white (trim_end-white w b g ∙ h) ∙ ap (λ x. after_piece true x (turn_at true (drop (run true bs) bs))) (append_assoc w (b ∷ []) (take (run true bs) bs)))
  by false false false e f g white other =
      let one : 1 + run true bs ≡ suc (run true bs) = omega arith in
      rw (double, e, f, g, one) (ap (prepend (w ++ b ∷ [])) other ∙ before_piece true w b (take (run true bs) bs) (turn_at true (drop (run true bs) bs)) g)

single-piece : (w t : List ℕ) → IsWhite w → Cuts false w t (single w t)
unfolding single
single-piece w [] h = rw (append-nil w, h) refl
single-piece w (b ∷ []) h = by (b == apostrophe) (is_white b) refl refl where
  by : (q s : Bool) → (b == apostrophe) ≡ q → is_white b ≡ s → Cuts false w (b ∷ []) (single w (b ∷ []))
  by true s e g = rw (single, e, append-nil w) refl
  by false true e g = rw (single, e, g, trim_end-white w b g, h) refl
  by false false e g = rw (single, e, g, trim_end-middle w b [] g, append-nil (w ++ b ∷ [])) refl
single-piece w (b ∷ c ∷ bs) h = by (b == apostrophe) (c == apostrophe) (is_white b) refl refl refl (single-piece (w ++ b ∷ []) (c ∷ bs)) (single-piece [] (c ∷ bs) refl) where
  by : (q k s : Bool) → (b == apostrophe) ≡ q → (c == apostrophe) ≡ k → is_white b ≡ s → (IsWhite (w ++ b ∷ []) → Cuts false (w ++ b ∷ []) (c ∷ bs) (single (w ++ b ∷ []) (c ∷ bs)))
      → Cuts false [] (c ∷ bs) (single [] (c ∷ bs)) → Cuts false w (b ∷ c ∷ bs) (single w (b ∷ c ∷ bs))
  by true true s e f g white other = rw (single, e, f, append-nil w, encode_ascii 39 (lit< tt)) refl
  by true false s e f g white other = rw (single, e, f, append-nil w) refl
  by false k true e f g white other =
      let one : 1 + run false (c ∷ bs) ≡ suc (run false (c ∷ bs)) = omega arith in
      rw (single, e, g, one) (white (trim_end-white w b g ∙ h) ∙ ap (λ x. after_piece false x (turn_at false (drop (run false (c ∷ bs)) (c ∷ bs)))) (append_assoc w (b ∷ []) (take (run false (c ∷ bs)) (c ∷ bs))))
  by false k false e f g white other =
      let one : 1 + run false (c ∷ bs) ≡ suc (run false (c ∷ bs)) = omega arith in
      rw (single, e, g, one) (ap (prepend (w ++ b ∷ [])) other ∙ before_piece false w b (take (run false (c ∷ bs)) (c ∷ bs)) (turn_at false (drop (run false (c ∷ bs)) (c ∷ bs))) g)

scan-piece : (is_double : Bool) (t : List ℕ) → Cuts is_double [] t (scan is_double t)
scan-piece true t = double-piece [] t refl
scan-piece false t = single-piece [] t refl

-- behind its run a text has none
pub run-behind : (test : ℕ → Bool) (t : List ℕ) → prefix_len test (drop (prefix_len test t) t) ≡ 0
run-behind test [] = refl
run-behind test (b ∷ t) = by (test b) refl (run-behind test t) where
  by : (v : Bool) → test b ≡ v → prefix_len test (drop (prefix_len test t) t) ≡ 0 → prefix_len test (drop (prefix_len test (b ∷ t)) (b ∷ t)) ≡ 0
  by true e more = let one : 1 + prefix_len test t ≡ suc (prefix_len test t) = omega arith in rw (e, one) more
  by false e more = rw (e, e) refl

-- a byte that ends a run is ASCII
pub stop_ascii : (is_double : Bool) (b : ℕ) → is_plain is_double b ≡ false → b < 128
stop_ascii true b h = grind (arith, nat_tests)
stop_ascii false b h = grind (arith, nat_tests)

-- ---- the loop over the pieces of a line, which has read a text and goes on at the rest

pub piece : (is_double : Bool) (line text rest plain after : List ℕ) (t : Turn) → prepend text (scan is_double rest) ≡ scan is_double line → plain ≡ take (run is_double rest) rest → after ≡ drop (run is_double rest) rest
    → t ≡ turn_at is_double after → scan is_double line ≡ prepend text (after_piece is_double plain t)
piece is_double line text rest plain after t h front back e = sym h ∙ ap (prepend text) (scan-piece is_double rest) ∙ rw (e, front, back) refl

pub piece-gives : (is_double : Bool) (line text rest plain after : List ℕ) (c : ℕ) (next : List ℕ) → prepend text (scan is_double rest) ≡ scan is_double line → plain ≡ take (run is_double rest) rest
    → after ≡ drop (run is_double rest) rest → gives c next ≡ turn_at is_double after → prepend ((text ++ plain) ++ encode_utf8 c) (scan is_double next) ≡ scan is_double line
piece-gives is_double line text rest plain after c next h front back e =
    sym (piece is_double line text rest plain after (gives c next) h front back e ∙ prepend-prepend text (plain ++ encode_utf8 c) _ ∙ ap (λ x. prepend x (scan is_double next)) (sym (append_assoc text plain (encode_utf8 c))))

pub piece-joined : (is_double : Bool) (line text rest plain after : List ℕ) (joined : Bool) → joined ≡ true → prepend text (scan is_double rest) ≡ scan is_double line
    → plain ≡ take (run is_double rest) rest → after ≡ drop (run is_double rest) rest → ends joined ≡ turn_at is_double after → line_ends (text ++ plain) joined ≡ scan is_double line
piece-joined is_double line text rest plain after joined on h front back e =
    sym (rw on at (piece is_double line text rest plain after (ends joined) h front back e) ∙ rw on refl)

pub piece-open : (is_double : Bool) (line text rest plain after : List ℕ) (joined : Bool) → joined ≡ false → prepend text (scan is_double rest) ≡ scan is_double line
    → plain ≡ take (run is_double rest) rest → after ≡ drop (run is_double rest) rest → ends joined ≡ turn_at is_double after → line_ends (text ++ trim_end plain) joined ≡ scan is_double line
piece-open is_double line text rest plain after joined off h front back e =
    sym (rw off at (piece is_double line text rest plain after (ends joined) h front back e) ∙ rw off refl)
