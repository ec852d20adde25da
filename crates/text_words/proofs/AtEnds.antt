-- The character at an end of a text, and whether it is one of some characters.
use Rattle.std.proofs.Common.{◌≡◌, ℕ, ◌-◌, ◌<◌, ◌≤◌, ◌/◌, Bool, true, false, ◌||◌, List, [], ◌∷◌, ◌++◌, length, take, drop, reverse, Some, None, IsUtf8, bytes_eq, cond, option_map, if◌then◌else◌, refl, sym, ap, subst, ◌∙◌, arith, length-append}
use Rattle.std.proofs.lemmas.List.{length-reverse, take-append-drop}
use Rattle.std.specs.Prelude.{nat_lt}
use Rattle.std.proofs.lemmas.Bool.{le-ltb, ltb-false, ltb-true}
use Rattle.std.proofs.lemmas.Bool.Decides.{nat_tests}
use Rattle.std.proofs.lemmas.Slice.Eq.{bytes_eq-Decides}
use Rattle.std.proofs.lemmas.Str.{IsCharBoundary-at_seam, IsCharBoundary-from_drop, IsCharBoundary-start, IsUtf8-encode, IsUtf8-past_char, encode_ascii}
use Rattle.std.proofs.Math.Seq.{drop-append_seam, take-append_seam}
use Rattle.std.specs.Borrow.{Bor}
use Rattle.std.specs.Char.{IsScalar}
use Rattle.std.specs.HashSet.{HashSet}
use Rattle.std.specs.List.{AllByRecursion}
use Rattle.std.specs.Str.{IsCharBoundary}
use lib.Utf8.{encode, next}
use Rattle.index_spec.specs.Index.{begins_inner, is_inner}
use Rattle.operator_spec.specs.Operators.{begins_with}
use Rattle.operator_spec.proofs.Fronts.{begins, begins_is}
use Rattle.text_spec.specs.Cutting.{first_in, last_in}
use Rattle.text_spec.specs.Places.{ends_with}
use Rattle.text_spec.proofs.Cuts.{behind_utf8}
use Rattle.text_spec.proofs.Ends.{ends, ends_is}
use Rattle.text_words.specs.declared.runs.End.{End}
use Rattle.text_words.specs.declared.runs.End.TheVariants.{Back, Front}
use Rattle.text_words.specs.Strips.{AreCharacters, AreInner, IsCharacter, HasAll, IsEdge, around, cut_at, has, is_among}

-- ---- a character as it is written

either_character : (v : Bool) (c d : List ℕ) → IsCharacter c → IsCharacter d → IsCharacter (cond v c d)
either_character true c d h k = h
either_character false c d h k = k

inside : (b : ℕ) → 128 ≤ b → b < 192 → is_inner b ≡ true
inside b h l = grind (arith, nat_tests)

next_inside : (n : ℕ) → is_inner (next n) ≡ true
next_inside n = inside (next n) (omega arith) (omega arith)

high_character : (c : ℕ) → 128 ≤ c → IsCharacter (encode c)
unfolding encode
high_character c h =
    rw (le-ltb c 128 h)
    (either_character (nat_lt c 2048) _ _ (omega arith, (next_inside c, tt))
    (either_character (nat_lt c 65536) _ _ (omega arith, (next_inside (c / 64), (next_inside c, tt)))
    (omega arith, (next_inside (c / 4096), (next_inside (c / 64), (next_inside c, tt))))))

pub encoded : (c : ℕ) → IsCharacter (encode c)
encoded c = by (nat_lt c 128) refl where
  by : (v : Bool) → nat_lt c 128 ≡ v → IsCharacter (encode c)
  by true e = subst IsCharacter (sym (encode_ascii c (ltb-true c 128 e))) (omega arith, tt)
  by false e = high_character c (ltb-false c 128 e)

pub first_cut : (t rest : List ℕ) (c n : ℕ) → IsUtf8 t → t ≡ encode c ++ rest → n ≡ length (encode c) → IsCharBoundary t n
first_cut t rest c n u e l =
    subst (IsCharBoundary t) (sym l)
    (IsCharBoundary-from_drop t (length (encode c)) (subst (λ x. length (encode c) ≤ length x) (sym e) (omega (arith, length-append (encode c) rest)))
    (subst IsUtf8 (sym (drop-append_seam (encode c) rest) ∙ ap (drop (length (encode c))) (sym e)) (IsUtf8-past_char t rest c u e)))

pub first_edge : (t rest : List ℕ) (c n : ℕ) → t ≡ encode c ++ rest → n ≡ length (encode c) → IsEdge Front (take n t) (drop n t) t
first_edge t rest c n e l =
    let here : take n t ≡ encode c = (λ i. take (l i) (e i)) ∙ take-append_seam (encode c) rest in
    (subst IsCharacter (sym here) (encoded c), sym (take-append-drop n t))

pub last_cut : (t rest : List ℕ) (c n : ℕ) → IsScalar c → t ≡ rest ++ encode c → n ≡ length rest → IsCharBoundary t n
last_cut t rest c n u e l = subst (IsCharBoundary t) (sym l) (IsCharBoundary-at_seam t rest (encode c) e (IsUtf8-encode c u))

pub last_edge : (t rest : List ℕ) (c n : ℕ) → t ≡ rest ++ encode c → n ≡ length rest → IsEdge Back (drop n t) (take n t) t
last_edge t rest c n e l =
    let here : drop n t ≡ encode c = (λ i. drop (l i) (e i)) ∙ drop-append_seam rest (encode c) in
    (subst IsCharacter (sym here) (encoded c), sym (take-append-drop n t))

-- ---- two characters at one end of a text are the same

-- a text in UTF-8 begins inside no character
not_inside : (b : ℕ) → (128 ≤ b → 192 ≤ b) → is_inner b ≡ false
not_inside b h = by (nat_lt b 128) refl where
  by : (v : Bool) → nat_lt b 128 ≡ v → is_inner b ≡ false
  by true e = let l = ltb-true b 128 e in grind (arith, nat_tests)
  by false e = let l = h (ltb-false b 128 e) in grind (arith, nat_tests)

outside : (t : List ℕ) → IsUtf8 t → begins_inner t ≡ false
outside [] u = refl
outside (b ∷ t) u = not_inside b ((IsCharBoundary-start (b ∷ t) u).1 (omega arith))

-- bytes inside a character are as many as there are
same_run : (l m x y : List ℕ) → AreInner l → AreInner m → begins_inner x ≡ false → begins_inner y ≡ false → l ++ x ≡ m ++ y → l ≡ m
same_run [] [] x y h k p q e = refl
same_run [] (b ∷ m) x y h k p q e = cc (sym k.0 ∙ sym (ap begins_inner e) ∙ p)
same_run (b ∷ l) [] x y h k p q e = cc (sym h.0 ∙ ap begins_inner e ∙ q)
same_run (a ∷ l) (b ∷ m) x y h k p q e =
    let head : a ≡ b = cc in
    let tail : l ++ x ≡ m ++ y = ap (drop 1) e in
    λ i. head i ∷ same_run l m x y h.1 k.1 p q tail i

same_front : (c d r s : List ℕ) → IsCharacter c → IsCharacter d → IsUtf8 r → IsUtf8 s → c ++ r ≡ d ++ s → c ≡ d
same_front [] d r s h k u v e = absurd (omega (arith, h.0))
same_front (a ∷ c) [] r s h k u v e = absurd (omega (arith, k.0))
same_front (a ∷ c) (b ∷ d) r s h k u v e =
    let head : a ≡ b = cc in
    let tail : c ++ r ≡ d ++ s = ap (drop 1) e in
    λ i. head i ∷ same_run c d r s h.1 k.1 (outside r u) (outside s v) tail i

-- a byte among such
among_inner : (s m : List ℕ) (b : ℕ) → AreInner (s ++ b ∷ m) → is_inner b ≡ true
among_inner [] m b h = h.0
among_inner (x ∷ s) m b h = among_inner s m b h.1

same_last : (a b : ℕ) (l m r s : List ℕ) → AreInner l → AreInner m → is_inner a ≡ false → is_inner b ≡ false → r ++ a ∷ l ≡ s ++ b ∷ m → a ∷ l ≡ b ∷ m
same_last a b l m [] [] h k p q e = e
same_last a b l m [] (z ∷ s) h k p q e = cc (sym (among_inner s m b (subst AreInner (ap (drop 1) e) h)) ∙ q)
same_last a b l m (z ∷ r) [] h k p q e = cc (sym (among_inner r l a (subst AreInner (sym (ap (drop 1) e)) k)) ∙ p)
same_last a b l m (y ∷ r) (z ∷ s) h k p q e = same_last a b l m r s h k p q (ap (drop 1) e)

same_back : (c d r s : List ℕ) → IsCharacter c → IsCharacter d → IsUtf8 c → IsUtf8 d → r ++ c ≡ s ++ d → c ≡ d
same_back [] d r s h k u v e = absurd (omega (arith, h.0))
same_back (a ∷ c) [] r s h k u v e = absurd (omega (arith, k.0))
same_back (a ∷ c) (b ∷ d) r s h k u v e = same_last a b c d r s h.1 k.1 (outside (a ∷ c) u) (outside (b ∷ d) v) e

-- ---- one of some characters stands at an end where the character there is one of them

same_text : (x y : List ℕ) → bytes_eq x y ≡ true → x ≡ y
same_text x y e = (bytes_eq-Decides x y).0 e

same_bytes : (x y : List ℕ) → x ≡ y → bytes_eq x y ≡ true
same_bytes x y e = (bytes_eq-Decides x y).1 e

agree : (v w : Bool) → (v ≡ true → w ≡ true) → (w ≡ true → v ≡ true) → v ≡ w
agree true w f g = sym (f refl)
agree false true f g = g refl
agree false false f g = refl

begins_one : (c d r : List ℕ) → IsCharacter c → IsCharacter d → IsUtf8 d → IsUtf8 r → IsUtf8 (c ++ r) → begins_with d (c ++ r) ≡ bytes_eq c d
begins_one c d r h k v u w =
    agree (begins_with d (c ++ r)) (bytes_eq c d)
    (λ e. let parts = begins_is d (c ++ r) e in same_bytes c d (same_front c d r (drop (length d) (c ++ r)) h k u (behind_utf8 d (drop (length d) (c ++ r)) v (subst IsUtf8 parts w)) parts))
    (λ e. ap (λ x. begins_with x (c ++ r)) (sym (same_text c d e)) ∙ begins c r)

ends_one : (c d r : List ℕ) → IsCharacter c → IsCharacter d → IsUtf8 c → IsUtf8 d → ends_with d (r ++ c) ≡ bytes_eq c d
ends_one c d r h k u v =
    agree (ends_with d (r ++ c)) (bytes_eq c d)
    (λ e. same_bytes c d (same_back c d r (take (length (r ++ c) - length d) (r ++ c)) h k u v (ends_is d (r ++ c) e)))
    (λ e. ap (λ x. ends_with x (r ++ c)) (sym (same_text c d e)) ∙ ends c r)

module _ (c r : List ℕ) (h : IsCharacter c) (u : IsUtf8 c) where
  first_found : (cs : List (List ℕ)) → AreCharacters cs → AllByRecursion IsUtf8 cs → IsUtf8 r → IsUtf8 (c ++ r) → first_in cs (c ++ r) ≡ (if is_among cs c then Some (length c) else None)
  first_found [] k v w x = refl
  first_found (d ∷ cs) k v w x = ap (λ t. if t then Some (length d) else first_in cs (c ++ r)) (begins_one c d r h k.0 v.0 w x) ∙ by (bytes_eq c d) refl (first_found cs k.1 v.1 w x) where
    by : (t : Bool) → bytes_eq c d ≡ t → first_in cs (c ++ r) ≡ (if is_among cs c then Some (length c) else None) → (if t then Some (length d) else first_in cs (c ++ r)) ≡ (if t || is_among cs c then Some (length c) else None)
    by true e more = ap (λ y. Some (length y)) (sym (same_text c d e))
    by false e more = more

  last_found : (cs : List (List ℕ)) → AreCharacters cs → AllByRecursion IsUtf8 cs → last_in cs (r ++ c) ≡ (if is_among cs c then Some (length c) else None)
  last_found [] k v = refl
  last_found (d ∷ cs) k v = ap (λ t. if t then Some (length d) else last_in cs (r ++ c)) (ends_one c d r h k.0 u v.0) ∙ by (bytes_eq c d) refl (last_found cs k.1 v.1) where
    by : (t : Bool) → bytes_eq c d ≡ t → last_in cs (r ++ c) ≡ (if is_among cs c then Some (length c) else None) → (if t then Some (length d) else last_in cs (r ++ c)) ≡ (if t || is_among cs c then Some (length c) else None)
    by true e more = ap (λ y. Some (length y)) (sym (same_text c d e))
    by false e more = more

-- what is left is the rest
left_of : (f : ℕ → List ℕ) (n : ℕ) (r : List ℕ) (t : Bool) → f n ≡ r → option_map f (if t then Some n else None) ≡ (if t then Some r else None)
left_of f n r true e = ap Some e
left_of f n r false e = refl

front_left : (c r : List ℕ) → take (length (r ++ c) - length c) (r ++ c) ≡ r
front_left c r = ap (λ n. take n (r ++ c)) (grind (arith, length-append r c)) ∙ take-append_seam r c

edge_found : (end : End) (cs : List (List ℕ)) (c r : List ℕ) → IsCharacter c → AreCharacters cs → AllByRecursion IsUtf8 cs → IsUtf8 c → IsUtf8 r → IsUtf8 (around end c r) →
    cut_at end cs (around end c r) ≡ (if is_among cs c then Some r else None)
edge_found Front cs c r h k v u w x =
    ap (option_map (λ n. drop n (c ++ r))) (first_found c r h u cs k v w x) ∙ left_of (λ n. drop n (c ++ r)) (length c) r (is_among cs c) (drop-append_seam c r)
edge_found Back cs c r h k v u w x =
    ap (option_map (λ n. take (length (r ++ c) - n) (r ++ c))) (last_found c r h u cs k v) ∙ left_of (λ n. take (length (r ++ c) - n) (r ++ c)) (length c) r (is_among cs c) (front_left c r)

-- by a set of them
pub looked_up : {S : Type 0} (end : End) (set : HashSet (Bor (List ℕ)) S) (cs : List (List ℕ)) (c r t : List ℕ) → IsEdge end c r t → AreCharacters cs → HasAll set cs → IsUtf8 c → IsUtf8 r → IsUtf8 t → (v : Bool) → has set c ≡ v →
    (if v then Some r else None) ≡ cut_at end cs t
looked_up end set cs c r t h k a u w x v e =
    ap (λ v. if v then Some r else None) (sym e ∙ a.1 c) ∙ sym (edge_found end cs c r h.0 k a.0 u w (subst IsUtf8 h.1 x)) ∙ ap (cut_at end cs) (sym h.1)

-- nothing stands at an end of an empty text
none_first : (cs : List (List ℕ)) → AreCharacters cs → first_in cs [] ≡ None
none_first [] h = refl
none_first ([] ∷ cs) h = absurd (omega (arith, h.0.0))
none_first ((b ∷ c) ∷ cs) h = none_first cs h.1

no_end : (c : List ℕ) → 0 < length c → ends_with c [] ≡ false
no_end c h = by (reverse c) (length-reverse c) where
  by : (x : List ℕ) → length x ≡ length c → begins_with x [] ≡ false
  by [] e = absurd (omega arith)
  by (b ∷ x) e = refl

none_last : (cs : List (List ℕ)) → AreCharacters cs → last_in cs [] ≡ None
none_last [] h = refl
none_last (c ∷ cs) h = ap (λ v. if v then Some (length c) else last_in cs []) (no_end c h.0.0) ∙ none_last cs h.1

pub none_cut : (end : End) (cs : List (List ℕ)) (t : List ℕ) → t ≡ [] → AreCharacters cs → cut_at end cs t ≡ None
none_cut Front cs t e h = ap (cut_at Front cs) e ∙ ap (option_map (λ n. drop n [])) (none_first cs h)
none_cut Back cs t e h = ap (cut_at Back cs) e ∙ ap (option_map (λ n. take (0 - n) [])) (none_last cs h)

-- what is left is shorter
pub rest_shorter : (end : End) (c r t : List ℕ) → IsEdge end c r t → length r < length t
rest_shorter Front c r t h = subst (λ x. length r < length x) (sym h.1) (omega (arith, length-append c r, h.0.0))
rest_shorter Back c r t h = subst (λ x. length r < length x) (sym h.1) (omega (arith, length-append r c, h.0.0))
