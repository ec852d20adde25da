-- The words of a text, one after another.
use Rattle.std.proofs.Common.{◌≡◌, ℕ, suc, List, [], ◌∷◌, ◌++◌, length, reverse, refl, sym, ap, ◌∙◌, append_assoc, append-nil}
use Rattle.std.proofs.lemmas.List.{length-reverse, map-append, reverse-append, reverse-reverse}
use Rattle.std.specs.Borrow.{Bor}
use Rattle.text_spec.specs.Classes.{behind, front, is_space}
use Rattle.text_spec.specs.Cutting.{each_reversed, is_word, words_at}
use Rattle.text_words.specs.declared.runs.End.{End}
use Rattle.text_words.specs.declared.runs.End.TheVariants.{Front, Back}
use Rattle.text_spec.specs.Texts.{texts_of}
use Rattle.text_words.specs.Ends.{all_turned, turned}

pub texts_of-push : (ws : List (Bor (List ℕ))) (w : Bor (List ℕ)) → texts_of (ws ++ w ∷ []) ≡ texts_of ws ++ w.now ∷ []
texts_of-push ws w = map-append (λ t. t.now) ws (w ∷ [])

turned-push : (end : End) (ws : List (List ℕ)) (w : List ℕ) → all_turned end (ws ++ w ∷ []) ≡ all_turned end ws ++ turned end w ∷ []
turned-push Front ws w = refl
turned-push Back [] w = refl
turned-push Back (t ∷ ws) w = ap (λ l. reverse t ∷ l) (turned-push Back ws w)

turned-length : (end : End) (t : List ℕ) → length (turned end t) ≡ length t
turned-length Front t = refl
turned-length Back t = length-reverse t

-- what is made so far, and then what the definition gives for the rest
abbrev pub words_so : End → List (Bor (List ℕ)) → (count : ℕ) → (rest : List ℕ) → List (List ℕ)
words_so end ws n r = all_turned end (texts_of ws) ++ words_at n (turned end r)

made : (end : End) (ws : List (Bor (List ℕ))) (w : Bor (List ℕ)) (more : List (List ℕ)) → all_turned end (texts_of (ws ++ w ∷ [])) ++ more ≡ all_turned end (texts_of ws) ++ (turned end w.now ∷ more)
made end ws w more =
    ap (λ l. all_turned end l ++ more) (texts_of-push ws w) ∙ ap (λ l. l ++ more) (turned-push end (texts_of ws) w.now)
    ∙ append_assoc (all_turned end (texts_of ws)) (turned end w.now ∷ []) more

one_word : (n : ℕ) (r : List ℕ) → (length r ≡ 0 → ⊥) → words_at (suc n) r ≡ front is_word r ∷ words_at n (behind is_space (behind is_word r))
one_word n [] h = absurd (h refl)
one_word n (b ∷ r) h = refl

-- one more word
pub words_next : (end : End) (ws : List (Bor (List ℕ))) (n : ℕ) (r more next : List ℕ) (w : Bor (List ℕ)) → (length r ≡ 0 → ⊥) → turned end w.now ≡ front is_word (turned end r)
    → turned end more ≡ behind is_word (turned end r) → turned end next ≡ behind is_space (turned end more) → words_so end (ws ++ w ∷ []) n next ≡ words_so end ws (suc n) r
words_next end ws n r more next w some is left after =
    made end ws w (words_at n (turned end next))
    ∙ ap (λ l. all_turned end (texts_of ws) ++ l)
    (ap (λ l. turned end w.now ∷ words_at n l) (after ∙ ap (behind is_space) left) ∙ ap (λ l. l ∷ words_at n (behind is_space (behind is_word (turned end r)))) is
    ∙ sym (one_word n (turned end r) (λ e. some (sym (turned-length end r) ∙ e))))

-- what is left at the limit
last_word : (r : List ℕ) → (length r ≡ 0 → ⊥) → words_at 0 r ≡ r ∷ []
last_word [] h = absurd (h refl)
last_word (b ∷ r) h = refl

pub words_left : (end : End) (ws : List (Bor (List ℕ))) (r : Bor (List ℕ)) → (length r.now ≡ 0 → ⊥) → all_turned end (texts_of (ws ++ r ∷ [])) ≡ words_so end ws 0 r.now
words_left end ws r some =
    sym (append-nil (all_turned end (texts_of (ws ++ r ∷ [])))) ∙ made end ws r []
    ∙ ap (λ l. all_turned end (texts_of ws) ++ l) (sym (last_word (turned end r.now) (λ e. some (sym (turned-length end r.now) ∙ e))))

-- ---- in the order of the text

reversed_twice : (ts : List (List ℕ)) → each_reversed (each_reversed ts) ≡ ts
reversed_twice [] = refl
reversed_twice (t ∷ ts) = λ i. reverse-reverse t i ∷ reversed_twice ts i

texts_of-reverse : (ws : List (Bor (List ℕ))) → texts_of (reverse ws) ≡ reverse (texts_of ws)
texts_of-reverse [] = refl
texts_of-reverse (w ∷ ws) =
    ap texts_of (reverse-append (w ∷ []) ws) ∙ texts_of-push (reverse ws) w ∙ ap (λ l. l ++ w.now ∷ []) (texts_of-reverse ws)
    ∙ sym (reverse-append (w.now ∷ []) (texts_of ws))

pub words_forward : (ws : List (Bor (List ℕ))) (found : List (List ℕ)) → each_reversed (texts_of ws) ≡ found → texts_of (reverse ws) ≡ reverse (each_reversed found)
words_forward ws found e = texts_of-reverse ws ∙ ap reverse (sym (reversed_twice (texts_of ws)) ∙ ap each_reversed e)
