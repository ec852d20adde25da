-- The lines of a text, one after another.
use Rattle.std.proofs.Common.{◌≡◌, ℕ, zero, suc, ◌+◌, ◌<◌, ◌≤◌, Bool, true, false, if◌then◌else◌, ◌&&◌, ◌==◌, List, [], ◌∷◌, ◌++◌, length, take, drop, IsUtf8, refl, sym, ap, subst, ◌∙◌, arith, append_assoc, length-append}
use Rattle.std.proofs.lemmas.Bool.Decides.{nat_tests}
use Rattle.std.proofs.lemmas.Str.{IsCharBoundary-start, IsCharBoundary-end, IsCharBoundary-after_ascii, IsCharBoundary-from_rest}
use Rattle.std.proofs.Math.Seq.{drop-append_seam, drop-append-add, take-append-add}
use Rattle.std.specs.Borrow.{Bor}
use Rattle.std.specs.Str.{IsCharBoundary}
use Rattle.text_spec.specs.Classes.{behind, front}
use Rattle.text_spec.specs.Cutting.{end_length, is_line_byte, line_with, lines}
use Rattle.text_spec.specs.Texts.{texts_of}
use Rattle.text_words.proofs.WordSteps.{texts_of-push}

both_parts : (f : ℕ → Bool) (t : List ℕ) → front f t ++ behind f t ≡ t
both_parts f [] = refl
both_parts f (b ∷ t) = by (f b) (both_parts f t) where
  by : (v : Bool) → front f t ++ behind f t ≡ t → (if v then b ∷ front f t else []) ++ (if v then behind f t else b ∷ t) ≡ b ∷ t
  by true more = ap (λ l. b ∷ l) more
  by false more = refl

-- what stands behind a run is none of it
behind_stops : (f : ℕ → Bool) (t : List ℕ) (b : ℕ) (s : List ℕ) → behind f t ≡ b ∷ s → f b ≡ false
behind_stops f [] b s h = cc
behind_stops f (x ∷ t) b s h = by (f x) refl h (behind_stops f t b s) where
  by : (v : Bool) → f x ≡ v → (if v then behind f t else x ∷ t) ≡ b ∷ s → (behind f t ≡ b ∷ s → f b ≡ false) → f b ≡ false
  by true e h more = more h
  by false e h more = let same : x ≡ b = cc in ap f (sym same) ∙ e

-- ---- the end of a line

ascii_end : (b : ℕ) → is_line_byte b ≡ false → b < 128
ascii_end b h = grind (arith, nat_tests)

feed : (b c : ℕ) → (b == 13 && c == 10) ≡ true → c < 128
feed b c h = grind (arith, nat_tests)

-- behind the end of a line the text may be cut
end_cut : (t : List ℕ) → IsUtf8 t → ((b : ℕ) (s : List ℕ) → t ≡ b ∷ s → is_line_byte b ≡ false) → IsCharBoundary t (end_length t)
end_cut [] utf8 h = IsCharBoundary-start [] utf8
end_cut (b ∷ []) utf8 h = IsCharBoundary-end (b ∷ [])
end_cut (b ∷ c ∷ t) utf8 h = by (b == 13 && c == 10) refl where
  by : (v : Bool) → (b == 13 && c == 10) ≡ v → IsCharBoundary (b ∷ c ∷ t) (end_length (b ∷ c ∷ t))
  by true e = rw e (IsCharBoundary-after_ascii (b ∷ c ∷ t) 1 utf8 (omega arith) (feed b c e))
  by false e = rw e (IsCharBoundary-after_ascii (b ∷ c ∷ t) 0 utf8 (omega arith) (ascii_end b (h b (c ∷ t) refl)))

module _ (t line after : List ℕ) (is : line ≡ front is_line_byte t) (left : after ≡ behind is_line_byte t) where
  whole : line ++ after ≡ t
  whole = (λ i. is i ++ left i) ∙ both_parts is_line_byte t

  pub line_cut : IsUtf8 after → IsCharBoundary t (length line + end_length after)
  line_cut utf8 =
      subst (λ x. IsCharBoundary x (length line + end_length after)) whole
      (IsCharBoundary-from_rest (line ++ after) (length line) (end_length after) (omega (arith, length-append line after))
      (subst (λ x. IsCharBoundary x (end_length after)) (sym (drop-append_seam line after))
      (end_cut after utf8 (λ b s e. behind_stops is_line_byte t b s (sym left ∙ e)))))

  pub line_kept : take (length line + end_length after) t ≡ line ++ take (end_length after) after
  line_kept = ap (take (length line + end_length after)) (sym whole) ∙ take-append-add line after (end_length after)

  pub line_behind : drop (length line + end_length after) t ≡ drop (end_length after) after
  line_behind = ap (drop (length line + end_length after)) (sym whole) ∙ drop-append-add line after (end_length after)

-- at least one byte goes, if there is one
end_goes : (after : List ℕ) (n : ℕ) → length after ≤ n → 0 < n → length (drop (end_length after) after) < n
end_goes [] n h some = some
end_goes (b ∷ []) n h some = some
end_goes (b ∷ c ∷ s) n h some = by (b == 13 && c == 10) refl where
  by : (v : Bool) → (b == 13 && c == 10) ≡ v → length (drop (end_length (b ∷ c ∷ s)) (b ∷ c ∷ s)) < n
  by true e = rw e (omega arith)
  by false e = rw e (omega arith)

behind_length : (f : ℕ → Bool) (t : List ℕ) → length (behind f t) ≤ length t
behind_length f t = omega (arith, length-append (front f t) (behind f t), ap length (both_parts f t))

pub line_shorter : (r next : List ℕ) → (length r ≡ 0 → ⊥) → next ≡ drop (end_length (behind is_line_byte r)) (behind is_line_byte r) → length next < length r
line_shorter r next some is =
    let less = end_goes (behind is_line_byte r) (length r) (behind_length is_line_byte r) (omega arith) in
    omega (arith, ap length is)

-- ---- one after another

pub record LinesSoFar (keep : Bool) (ls : List (Bor (List ℕ))) (text rest : List ℕ) : Type 0 where
  pub count : ℕ
  pub enough : length rest ≤ count
  pub same : texts_of ls ++ lines keep count rest ≡ lines keep (length text) text

line_next : (keep : Bool) (ls : List (Bor (List ℕ))) (n : ℕ) (r next : List ℕ) (l : Bor (List ℕ)) → (length r ≡ 0 → ⊥) → l.now ≡ line_with keep (front is_line_byte r) (behind is_line_byte r)
    → next ≡ drop (end_length (behind is_line_byte r)) (behind is_line_byte r) → texts_of (ls ++ l ∷ []) ++ lines keep n next ≡ texts_of ls ++ lines keep (suc n) r
line_next keep ls n [] next l some is left = absurd (some refl)
line_next keep ls n (b ∷ r) next l some is left =
    ap (λ ts. ts ++ lines keep n next) (texts_of-push ls l) ∙ append_assoc (texts_of ls) (l.now ∷ []) (lines keep n next)
    ∙ ap (λ ts. texts_of ls ++ ts) (λ i. is i ∷ lines keep n (left i))

pub lines_next : (keep : Bool) (ls : List (Bor (List ℕ))) (t r next : List ℕ) (l : Bor (List ℕ)) → LinesSoFar keep ls t r → (length r ≡ 0 → ⊥) → l.now ≡ line_with keep (front is_line_byte r) (behind is_line_byte r)
    → next ≡ drop (end_length (behind is_line_byte r)) (behind is_line_byte r) → LinesSoFar keep (ls ++ l ∷ []) t next
lines_next keep ls t r next l so some is left = by so.count so.enough so.same where
  by : (n : ℕ) → length r ≤ n → texts_of ls ++ lines keep n r ≡ lines keep (length t) t → LinesSoFar keep (ls ++ l ∷ []) t next
  by zero enough same = absurd (omega arith)
  by (suc n) enough same = record { count = n; enough = omega (arith, line_shorter r next some left); same = line_next keep ls n r next l some is left ∙ same }
