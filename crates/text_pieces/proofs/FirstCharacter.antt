-- The first character of a text, which ends before the next byte that isn't inside one.
use Rattle.std.proofs.Common.{◌≡◌, ℕ, suc, ◌+◌, ◌-◌, ◌<◌, ◌≤◌, Bool, true, false, ◌==◌, List, [], ◌∷◌, length, take, drop, refl, ap, ◌∙◌, arith}
use Rattle.std.proofs.lemmas.Bool.Decides.{nat_tests}
use Rattle.std.proofs.lemmas.List.{take_rest}
use Rattle.std.proofs.lemmas.List.Sums.{prefix_len-le-length, prefix_len_stops}
use Rattle.std.specs.List.{prefix_len}
use Rattle.std.specs.Str.{IsCharBoundary}
use Rattle.index_spec.specs.Index.{is_inner}
use Rattle.text_spec.specs.Classes.{characters, to_front}
use Rattle.text_spec.specs.Cutting.{joined}

first_character : (b : ℕ) (t : List ℕ) → characters (b ∷ t) ≡ (b ∷ take (prefix_len is_inner t) t) ∷ characters (drop (prefix_len is_inner t) t)
first_character b [] = refl
first_character b (c ∷ t) = by (is_inner c) refl (first_character c t) where
  by : (v : Bool) → is_inner c ≡ v → characters (c ∷ t) ≡ (c ∷ take (prefix_len is_inner t) t) ∷ characters (drop (prefix_len is_inner t) t) →
      characters (b ∷ c ∷ t) ≡ (b ∷ take (prefix_len is_inner (c ∷ t)) (c ∷ t)) ∷ characters (drop (prefix_len is_inner (c ∷ t)) (c ∷ t))
  by true e h = let one : 1 + prefix_len is_inner t ≡ suc (prefix_len is_inner t) = omega arith in ap (to_front b) h ∙ rw (e, one) refl
  by false e h = ap (to_front b) h ∙ rw (e, ← h) refl

not_inner : (b : ℕ) → is_inner b ≡ false → 128 ≤ b → 192 ≤ b
not_inner b h low = grind (arith, nat_tests)

first_cut : (t : List ℕ) (k : ℕ) → 0 < length t → k ≡ prefix_len is_inner (drop 1 t) → IsCharBoundary t (1 + k) × (characters t ≡ take (1 + k) t ∷ characters (drop (1 + k) t))
first_cut [] k some e = absurd (omega arith)
first_cut (b ∷ t) k some e =
    let one : 1 + k ≡ suc (prefix_len is_inner t) = omega arith in
    let within = prefix_len-le-length is_inner t in
    rw one ((omega arith, λ h. not_inner _ (prefix_len_stops is_inner t 0 (omega arith))), first_character b t)

-- by the bytes behind the first
pub cut : (t bs : List ℕ) (k : ℕ) → (length t == 0) ≡ false → bs ≡ t → k ≡ prefix_len is_inner (take (length bs - 1) (drop 1 bs)) →
    IsCharBoundary t (1 + k) × (characters t ≡ take (1 + k) t ∷ characters (drop (1 + k) t))
cut t bs k some same e =
    let h : 0 < length t = grind (arith, nat_tests) in
    first_cut t k h (rw (take_rest, same) at e)

joined-front : (b : ℕ) (cs : List (List ℕ)) → joined (to_front b cs) ≡ b ∷ joined cs
joined-front b [] = refl
joined-front b ([] ∷ cs) = refl
joined-front b ((x ∷ c) ∷ cs) = by (is_inner x) refl where
  by : (v : Bool) → is_inner x ≡ v → joined (to_front b ((x ∷ c) ∷ cs)) ≡ b ∷ joined ((x ∷ c) ∷ cs)
  by true e = rw e refl
  by false e = rw e refl

-- the characters of a text are the text
pub joined-characters : (t : List ℕ) → joined (characters t) ≡ t
joined-characters [] = refl
joined-characters (b ∷ t) = joined-front b (characters t) ∙ ap (λ l. b ∷ l) (joined-characters t)
