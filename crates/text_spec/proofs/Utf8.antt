-- What a text in UTF-8 is cut into is in UTF-8.
use Rattle.std.proofs.Common.{◌≡◌, ℕ, zero, suc, ◌+◌, ◌-◌, ◌<◌, true, false, Bool, ◌&&◌, ◌==◌, if◌then◌else◌, List, [], ◌∷◌, ◌++◌, length, take, drop, reverse, Option, Some, None, IsUtf8, IsAscii, refl, sym, ap, subst, arith, rules, ◌∙◌}
use Rattle.std.proofs.lemmas.Bool.Decides.{nat_tests}
use Rattle.std.proofs.lemmas.List.{append-nil, append_assoc, length-append, reverse-append, reverse-reverse}
use Rattle.std.proofs.lemmas.Str.{IsCharBoundary-after_ascii, IsCharBoundary-before_ascii, IsUtf8-append, IsUtf8-drop, IsUtf8-from_ascii, IsUtf8-nil, IsUtf8-take}
use Rattle.std.proofs.lemmas.Str.Ascii.{IsAscii-cons, IsAscii-nil}
use Rattle.std.proofs.Math.Seq.{drop-append-add, drop-append_seam, get_or-append_seam, take-append-add, take-append_seam}
use Rattle.operator_spec.specs.Operators.{begins_with}
use Rattle.text_spec.specs.Classes.{behind, front, is_space}
use Rattle.text_spec.specs.Cutting.{cut_back, cut_front, cut_once, cut_once_back, first_in, joined_by, is_word, last_in, more_joined, pieces, pieces_back, each_reversed, end_length, is_line_byte, line_with, lines, strip_back, strip_front, without_prefix, without_suffix, words, words_at, words_back}
use Rattle.text_spec.specs.Places.{ends_with, first_place, last_place}
use Rattle.operator_spec.proofs.Fronts.{begins_is}
use Rattle.text_spec.proofs.Cuts.{around_utf8, behind_utf8, first_is, last_is, sides_utf8}
use Rattle.text_spec.proofs.Ends.{ends_is}

abbrev pub AreUtf8 : List (List ℕ) → Type 0
AreUtf8 [] = Unit {0}
AreUtf8 (t ∷ ts) = IsUtf8 t × AreUtf8 ts

are_behind : (ts us : List (List ℕ)) → AreUtf8 ts → AreUtf8 us → AreUtf8 (ts ++ us)
are_behind [] us w v = v
are_behind (t ∷ ts) us w v = (w.0, are_behind ts us w.1 v)

-- ---- at another text

module _ (x : List ℕ) (u : IsUtf8 x) (l : 0 < length x) where
  pub pieces_utf8 : (n : ℕ) (t : List ℕ) → IsUtf8 t → AreUtf8 (pieces x n t)
  pieces_utf8 zero t w = (w, tt)
  pieces_utf8 (suc n) t w = by (pieces_utf8 n) (first_place x t) refl where
    by : ((s : List ℕ) → IsUtf8 s → AreUtf8 (pieces x n s)) → (o : Option ℕ) → first_place x t ≡ o → AreUtf8 (cut_once x t o (pieces x n))
    by more None e = (w, tt)
    by more (Some i) e = let sides = around_utf8 x t i u l w (first_is x t i e) in (sides.0, more (drop (i + length x) t) sides.1)

  pub pieces_back_utf8 : (n : ℕ) (t : List ℕ) → IsUtf8 t → AreUtf8 (pieces_back x n t)
  pieces_back_utf8 zero t w = (w, tt)
  pieces_back_utf8 (suc n) t w = by (pieces_back_utf8 n) (last_place x t) refl where
    by : ((s : List ℕ) → IsUtf8 s → AreUtf8 (pieces_back x n s)) → (o : Option ℕ) → last_place x t ≡ o → AreUtf8 (cut_once_back x t o (pieces_back x n))
    by more None e = (w, tt)
    by more (Some i) e =
        let sides = around_utf8 x t i u l w (last_is x t i e) in
        are_behind (pieces_back x n (take i t)) (drop (i + length x) t ∷ []) (more (take i t) sides.0) (sides.1, tt)

-- ---- in one

more_joined_utf8 : (x : List ℕ) (ts : List (List ℕ)) → IsUtf8 x → AreUtf8 ts → IsUtf8 (more_joined x ts)
more_joined_utf8 x [] u w = IsUtf8-nil
more_joined_utf8 x (t ∷ ts) u w = IsUtf8-append x (t ++ more_joined x ts) u (IsUtf8-append t (more_joined x ts) w.0 (more_joined_utf8 x ts u w.1))

pub joined_by_utf8 : (x : List ℕ) (ts : List (List ℕ)) → IsUtf8 x → AreUtf8 ts → IsUtf8 (joined_by x ts)
joined_by_utf8 x [] u w = IsUtf8-nil
joined_by_utf8 x (t ∷ ts) u w = IsUtf8-append t (more_joined x ts) w.0 (more_joined_utf8 x ts u w.1)

-- ---- by a test

front_behind : (f : ℕ → Bool) (t : List ℕ) → t ≡ front f t ++ behind f t
front_behind f [] = refl
front_behind f (b ∷ t) = by (f b) (front_behind f t) where
  by : (h : Bool) → t ≡ front f t ++ behind f t → b ∷ t ≡ (if h then b ∷ front f t else []) ++ (if h then behind f t else b ∷ t)
  by true e = λ i. b ∷ e i
  by false e = refl

-- where only bytes of ASCII pass
front_ascii : (f : ℕ → Bool) → ((b : ℕ) → f b ≡ true → b < 128) → (t : List ℕ) → IsAscii (front f t)
front_ascii f a [] = IsAscii-nil
front_ascii f a (b ∷ t) = by (front_ascii f a t) (f b) refl where
  by : IsAscii (front f t) → (h : Bool) → f b ≡ h → IsAscii (if h then b ∷ front f t else [])
  by more true e = IsAscii-cons b (front f t) (a b e) more
  by more false e = IsAscii-nil

pub behind_ascii_utf8 : (f : ℕ → Bool) → ((b : ℕ) → f b ≡ true → b < 128) → (t : List ℕ) → IsUtf8 t → IsUtf8 (behind f t)
behind_ascii_utf8 f a t w = behind_utf8 (front f t) (behind f t) (IsUtf8-from_ascii (front f t) (front_ascii f a t)) (subst IsUtf8 (front_behind f t) w)

-- where only bytes of ASCII don't
abbrev StartsLow : List ℕ → Type 0
StartsLow [] = Unit {0}
StartsLow (b ∷ t) = b < 128

behind_low : (f : ℕ → Bool) → ((b : ℕ) → f b ≡ false → b < 128) → (t : List ℕ) → StartsLow (behind f t)
behind_low f a [] = tt
behind_low f a (b ∷ t) = by (behind_low f a t) (f b) refl where
  by : StartsLow (behind f t) → (h : Bool) → f b ≡ h → StartsLow (if h then behind f t else b ∷ t)
  by more true e = more
  by more false e = a b e

both_utf8 : (a b : List ℕ) → StartsLow b → IsUtf8 (a ++ b) → IsUtf8 a × IsUtf8 b
both_utf8 a [] low w = (subst IsUtf8 (append-nil a) w, IsUtf8-nil)
both_utf8 a (c ∷ b) low w =
    let at = IsCharBoundary-before_ascii (a ++ c ∷ b) (length a) (grind (arith, length-append a (c ∷ b))) (subst (λ k. k < 128) (sym (get_or-append_seam a c b 0)) low) in
    (subst IsUtf8 (take-append_seam a (c ∷ b)) (IsUtf8-take (a ++ c ∷ b) (length a) w at), subst IsUtf8 (drop-append_seam a (c ∷ b)) (IsUtf8-drop (a ++ c ∷ b) (length a) w at))

pub around_low_utf8 : (f : ℕ → Bool) → ((b : ℕ) → f b ≡ false → b < 128) → (t : List ℕ) → IsUtf8 t → IsUtf8 (front f t) × IsUtf8 (behind f t)
around_low_utf8 f a t w = both_utf8 (front f t) (behind f t) (behind_low f a t) (subst IsUtf8 (front_behind f t) w)

-- ---- words

space_low : (b : ℕ) → is_space b ≡ true → b < 128
space_low b h = grind (arith, nat_tests)

word_stops : (b : ℕ) → is_word b ≡ false → b < 128
word_stops b h = space_low b (search (rules, h))

words_at_utf8 : (n : ℕ) (t : List ℕ) → IsUtf8 t → AreUtf8 (words_at n t)
words_at_utf8 n [] w = tt
words_at_utf8 zero (b ∷ t) w = (w, tt)
words_at_utf8 (suc n) (b ∷ t) w =
    let sides = around_low_utf8 is_word word_stops (b ∷ t) w in
    (sides.0, words_at_utf8 n (behind is_space (behind is_word (b ∷ t))) (behind_ascii_utf8 is_space space_low (behind is_word (b ∷ t)) sides.1))

pub words_utf8 : (n : ℕ) (t : List ℕ) → IsUtf8 t → AreUtf8 (words n t)
words_utf8 n t w = words_at_utf8 n (behind is_space t) (behind_ascii_utf8 is_space space_low t w)

-- ---- from the end

low_front : (b : List ℕ) (x : ℕ) → StartsLow b → x < 128 → StartsLow (b ++ x ∷ [])
low_front [] x h l = l
low_front (c ∷ b) x h l = h

reversed_low : (a : List ℕ) → IsAscii a → StartsLow (reverse a)
reversed_low [] h = tt
reversed_low (x ∷ a) h = subst StartsLow (sym (reverse-append (x ∷ []) a)) (low_front (reverse a) x (reversed_low a (λ k. h (suc k))) (h 0))

reversed_parts : (f : ℕ → Bool) (t : List ℕ) → reverse t ≡ reverse (behind f t) ++ reverse (front f t)
reversed_parts f t = ap reverse (front_behind f t) ∙ reverse-append (front f t) (behind f t)

-- of a text that begins, from its end, with bytes of ASCII
back_ascii_utf8 : (f : ℕ → Bool) → ((b : ℕ) → f b ≡ true → b < 128) → (t : List ℕ) → IsUtf8 (reverse t) → IsUtf8 (reverse (behind f t))
back_ascii_utf8 f a t w = (both_utf8 (reverse (behind f t)) (reverse (front f t)) (reversed_low (front f t) (front_ascii f a t)) (subst IsUtf8 (reversed_parts f t) w)).0

-- and of one that goes on so
after_low_utf8 : (a b : List ℕ) → StartsLow b → IsUtf8 (reverse b ++ a) → IsUtf8 (reverse b) × IsUtf8 a
after_low_utf8 a [] low w = (IsUtf8-nil, w)
after_low_utf8 a (c ∷ b) low w =
    let parts : reverse (c ∷ b) ++ a ≡ reverse b ++ c ∷ a = ap (λ x. x ++ a) (reverse-append (c ∷ []) b) ∙ append_assoc (reverse b) (c ∷ []) a in
    let v = subst IsUtf8 parts w in
    let here = subst (λ k. k < 128) (sym (get_or-append_seam (reverse b) c a 0)) low in
    let at = IsCharBoundary-after_ascii (reverse b ++ c ∷ a) (length (reverse b)) v (grind (arith, length-append (reverse b) (c ∷ a))) here in (
      subst IsUtf8 (take-append-add (reverse b) (c ∷ a) 1 ∙ sym (reverse-append (c ∷ []) b)) (IsUtf8-take (reverse b ++ c ∷ a) (length (reverse b) + 1) v at),
      subst IsUtf8 (drop-append-add (reverse b) (c ∷ a) 1) (IsUtf8-drop (reverse b ++ c ∷ a) (length (reverse b) + 1) v at),
    )

around_low_back_utf8 : (f : ℕ → Bool) → ((b : ℕ) → f b ≡ false → b < 128) → (t : List ℕ) → IsUtf8 (reverse t) → IsUtf8 (reverse (behind f t)) × IsUtf8 (reverse (front f t))
around_low_back_utf8 f a t w = after_low_utf8 (reverse (front f t)) (behind f t) (behind_low f a t) (subst IsUtf8 (reversed_parts f t) w)

words_at_back_utf8 : (n : ℕ) (t : List ℕ) → IsUtf8 (reverse t) → AreUtf8 (each_reversed (words_at n t))
words_at_back_utf8 n [] w = tt
words_at_back_utf8 zero (b ∷ t) w = (w, tt)
words_at_back_utf8 (suc n) (b ∷ t) w =
    let sides = around_low_back_utf8 is_word word_stops (b ∷ t) w in
    (sides.1, words_at_back_utf8 n (behind is_space (behind is_word (b ∷ t))) (back_ascii_utf8 is_space space_low (behind is_word (b ∷ t)) sides.0))

are_reversed : (ts : List (List ℕ)) → AreUtf8 ts → AreUtf8 (reverse ts)
are_reversed [] w = tt
are_reversed (t ∷ ts) w = subst AreUtf8 (sym (reverse-append (t ∷ []) ts)) (are_behind (reverse ts) (t ∷ []) (are_reversed ts w.1) (w.0, tt))

pub words_back_utf8 : (n : ℕ) (t : List ℕ) → IsUtf8 t → AreUtf8 (words_back n t)
words_back_utf8 n t w =
    let back = subst IsUtf8 (sym (reverse-reverse t)) w in
    are_reversed (each_reversed (words n (reverse t))) (words_at_back_utf8 n (behind is_space (reverse t)) (back_ascii_utf8 is_space space_low (reverse t) back))

-- ---- lines

line_stops : (b : ℕ) → is_line_byte b ≡ false → b < 128
line_stops b h = grind (arith, nat_tests)

-- the bytes that end a line
line_end_utf8 : (t : List ℕ) → StartsLow t → IsUtf8 t → IsUtf8 (take (end_length t) t) × IsUtf8 (drop (end_length t) t)
line_end_utf8 [] low w = (IsUtf8-nil, w)
line_end_utf8 (b ∷ []) low w = (w, IsUtf8-nil)
line_end_utf8 (b ∷ c ∷ t) low w = by (b == 13 && c == 10) refl where
  by : (h : Bool) → (b == 13 && c == 10) ≡ h → IsUtf8 (take (if h then 2 else 1) (b ∷ c ∷ t)) × IsUtf8 (drop (if h then 2 else 1) (b ∷ c ∷ t))
  by true e =
      let ends = IsUtf8-from_ascii (b ∷ c ∷ []) (IsAscii-cons b (c ∷ []) low (IsAscii-cons c [] (grind (arith, nat_tests)) IsAscii-nil)) in
      (ends, behind_utf8 (b ∷ c ∷ []) t ends w)
  by false e =
      let end = IsUtf8-from_ascii (b ∷ []) (IsAscii-cons b [] low IsAscii-nil) in
      (end, behind_utf8 (b ∷ []) (c ∷ t) end w)

line_with_utf8 : (keep : Bool) (line rest : List ℕ) → IsUtf8 line → IsUtf8 (take (end_length rest) rest) → IsUtf8 (line_with keep line rest)
line_with_utf8 true line rest w v = IsUtf8-append line (take (end_length rest) rest) w v
line_with_utf8 false line rest w v = w

pub lines_utf8 : (keep : Bool) (n : ℕ) (t : List ℕ) → IsUtf8 t → AreUtf8 (lines keep n t)
lines_utf8 keep n [] w = tt
lines_utf8 keep zero (b ∷ t) w = tt
lines_utf8 keep (suc n) (b ∷ t) w =
    let rest = behind is_line_byte (b ∷ t) in
    let sides = around_low_utf8 is_line_byte line_stops (b ∷ t) w in
    let end = line_end_utf8 rest (behind_low is_line_byte line_stops (b ∷ t)) sides.1 in
    (line_with_utf8 keep (front is_line_byte (b ∷ t)) rest sides.0 end.0, lines_utf8 keep n (drop (end_length rest) rest) end.1)

-- ---- what is cut off the ends

-- the text behind the first of the set that it begins with
first_cut : (cs : List (List ℕ)) (t : List ℕ) → AreUtf8 cs → IsUtf8 t → (k : ℕ) → first_in cs t ≡ Some k → IsUtf8 (drop k t)
first_cut [] t u w k e = cc
first_cut (c ∷ cs) t u w k e = by (first_cut cs t u.1 w k) (begins_with c t) refl e where
  by : (first_in cs t ≡ Some k → IsUtf8 (drop k t)) → (h : Bool) → begins_with c t ≡ h → (if h then Some (length c) else first_in cs t) ≡ Some k → IsUtf8 (drop k t)
  by more true is e =
      let same : length c ≡ k = cc in
      subst (λ j. IsUtf8 (drop j t)) same (behind_utf8 c (drop (length c) t) u.0 (subst IsUtf8 (begins_is c t is) w))
  by more false is e = more e

pub strip_front_utf8 : (n : ℕ) (cs : List (List ℕ)) (t : List ℕ) → AreUtf8 cs → IsUtf8 t → IsUtf8 (strip_front n cs t)
strip_front_utf8 zero cs t u w = w
strip_front_utf8 (suc n) cs t u w = by (strip_front_utf8 n cs) (first_in cs t) refl where
  by : ((s : List ℕ) → AreUtf8 cs → IsUtf8 s → IsUtf8 (strip_front n cs s)) → (o : Option ℕ) → first_in cs t ≡ o → IsUtf8 (cut_front t o (strip_front n cs))
  by more None e = w
  by more (Some k) e = more (drop k t) u (first_cut cs t u w k e)

-- the text before the first of the set that it ends with
before_utf8 : (a c : List ℕ) → IsUtf8 c → IsUtf8 (a ++ c) → IsUtf8 a
before_utf8 a [] u w = subst IsUtf8 (append-nil a) w
before_utf8 a (x ∷ c) u w = (sides_utf8 a (x ∷ c) [] u (search (rules, arith)) (subst IsUtf8 (ap (λ b. a ++ b) (sym (append-nil (x ∷ c)))) w)).0

last_cut : (cs : List (List ℕ)) (t : List ℕ) → AreUtf8 cs → IsUtf8 t → (k : ℕ) → last_in cs t ≡ Some k → IsUtf8 (take (length t - k) t)
last_cut [] t u w k e = cc
last_cut (c ∷ cs) t u w k e = by (last_cut cs t u.1 w k) (ends_with c t) refl e where
  by : (last_in cs t ≡ Some k → IsUtf8 (take (length t - k) t)) → (h : Bool) → ends_with c t ≡ h → (if h then Some (length c) else last_in cs t) ≡ Some k → IsUtf8 (take (length t - k) t)
  by more true is e =
      let same : length c ≡ k = cc in
      subst (λ j. IsUtf8 (take (length t - j) t)) same (before_utf8 (take (length t - length c) t) c u.0 (subst IsUtf8 (ends_is c t is) w))
  by more false is e = more e

pub strip_back_utf8 : (n : ℕ) (cs : List (List ℕ)) (t : List ℕ) → AreUtf8 cs → IsUtf8 t → IsUtf8 (strip_back n cs t)
strip_back_utf8 zero cs t u w = w
strip_back_utf8 (suc n) cs t u w = by (strip_back_utf8 n cs) (last_in cs t) refl where
  by : ((s : List ℕ) → AreUtf8 cs → IsUtf8 s → IsUtf8 (strip_back n cs s)) → (o : Option ℕ) → last_in cs t ≡ o → IsUtf8 (cut_back t o (strip_back n cs))
  by more None e = w
  by more (Some k) e = more (take (length t - k) t) u (last_cut cs t u w k e)

pub without_prefix_utf8 : (x t : List ℕ) → IsUtf8 x → IsUtf8 t → IsUtf8 (without_prefix x t)
without_prefix_utf8 x t u w = by (begins_with x t) refl where
  by : (h : Bool) → begins_with x t ≡ h → IsUtf8 (if h then drop (length x) t else t)
  by true e = behind_utf8 x (drop (length x) t) u (subst IsUtf8 (begins_is x t e) w)
  by false e = w

pub without_suffix_utf8 : (x t : List ℕ) → IsUtf8 x → IsUtf8 t → IsUtf8 (without_suffix x t)
without_suffix_utf8 x t u w = by (ends_with x t) refl where
  by : (h : Bool) → ends_with x t ≡ h → IsUtf8 (if h then take (length t - length x) t else t)
  by true e = before_utf8 (take (length t - length x) t) x u (subst IsUtf8 (ends_is x t e) w)
  by false e = w
