-- What is stripped off an end, one after another.
use Rattle.std.proofs.Common.{◌≡◌, ℕ, zero, suc, ◌-◌, ◌<◌, ◌≤◌, Bool, true, false, List, [], ◌∷◌, length, take, drop, Option, Some, None, option_map, MatchOption, if◌then◌else◌, refl, sym, ap, ◌∙◌, arith}
use Rattle.std.specs.Borrow.{Bor}
use Rattle.std.specs.Str.Pattern.{FindsTextPrefix, FindsTextSuffix, StripsPrefix, StripsSuffix}
use Rattle.index_spec.specs.Index.{is_inner}
use Rattle.operator_spec.specs.Operators.{begins_with}
use Rattle.operator_spec.proofs.Fronts.{begins, begins_is}
use Rattle.text_spec.specs.Classes.{characters, to_front}
use Rattle.text_spec.specs.Cutting.{cut_back, cut_front, first_in, last_in, strip_back, strip_front}
use Rattle.text_spec.specs.Places.{ends_with}
use Rattle.text_spec.proofs.Ends.{ends, ends_is}
use Rattle.text_words.specs.declared.runs.End.{End}
use Rattle.text_words.specs.declared.runs.End.TheVariants.{Front, Back}
use Rattle.text_words.specs.Strips.{AreCharacters, cut_at, cut_one, strip_at}

-- ---- one text at an end

-- what std's calls answer
none_cut : (v : Bool) (r : List ℕ) → (v ≡ true → ⊥) → None ≡ (if v then Some r else None)
none_cut true r h = absurd (h refl)
none_cut false r h = refl

pub cut_prefix : (x t : List ℕ) (r : Option (Bor (List ℕ))) → MatchOption r (FindsTextPrefix x t None) (λ s. StripsPrefix (FindsTextPrefix x) t s.now) → option_map (λ s. s.now) r ≡ cut_one Front x t
cut_prefix x t None h = none_cut (begins_with x t) (drop (length x) t) (λ e. h (drop (length x) t) (begins_is x t e))
cut_prefix x t (Some s) h =
    let there : begins_with x t ≡ true = ap (begins_with x) h.1.1 ∙ begins x (drop h.0 t) in
    rw there (ap Some (h.2 ∙ ap (λ k. drop k t) h.1.0))

pub cut_suffix : (x t : List ℕ) (r : Option (Bor (List ℕ))) → MatchOption r (FindsTextSuffix x t None) (λ s. StripsSuffix (FindsTextSuffix x) t s.now) → option_map (λ s. s.now) r ≡ cut_one Back x t
cut_suffix x t None h = none_cut (ends_with x t) (take (length t - length x) t) (λ e. h (take (length t - length x) t) (ends_is x t e))
cut_suffix x t (Some s) h =
    let there : ends_with x t ≡ true = ap (ends_with x) h.1.1 ∙ ends x (take (length t - h.0) t) in
    rw there (ap Some (h.2 ∙ ap (λ k. take (length t - k) t) h.1.0))

-- ---- one after another

-- what comes of a text once one was cut off, or none
abbrev after_cut : List ℕ → Option (List ℕ) → (List ℕ → List ℕ) → List ℕ
after_cut r None rest = r
after_cut r (Some next) rest = rest next

front_step : (r : List ℕ) (o : Option ℕ) (rest : List ℕ → List ℕ) → cut_front r o rest ≡ after_cut r (option_map (λ k. drop k r) o) rest
front_step r None rest = refl
front_step r (Some k) rest = refl

back_step : (r : List ℕ) (o : Option ℕ) (rest : List ℕ → List ℕ) → cut_back r o rest ≡ after_cut r (option_map (λ k. take (length r - k) r) o) rest
back_step r None rest = refl
back_step r (Some k) rest = refl

no_steps : (end : End) (cs : List (List ℕ)) (r : List ℕ) → strip_at end zero cs r ≡ r
no_steps Front cs r = refl
no_steps Back cs r = refl

strip_step : (end : End) (n : ℕ) (cs : List (List ℕ)) (r : List ℕ) (o : Option (List ℕ)) → o ≡ cut_at end cs r → strip_at end (suc n) cs r ≡ after_cut r o (strip_at end n cs)
strip_step Front n cs r o h = front_step r (first_in cs r) (strip_front n cs) ∙ ap (λ o. after_cut r o (strip_front n cs)) (sym h)
strip_step Back n cs r o h = back_step r (last_in cs r) (strip_back n cs) ∙ ap (λ o. after_cut r o (strip_back n cs)) (sym h)

pub record StripsSoFar (end : End) (cs : List (List ℕ)) (text rest : List ℕ) : Type 0 where
  pub count : ℕ
  pub enough : length rest ≤ count
  pub same : strip_at end count cs rest ≡ strip_at end (length text) cs text

pub strips_next : (end : End) (cs : List (List ℕ)) (t r next : List ℕ) → StripsSoFar end cs t r → Some next ≡ cut_at end cs r → length next < length r → StripsSoFar end cs t next
strips_next end cs t r next so h less = by so.count so.enough so.same where
  by : (n : ℕ) → length r ≤ n → strip_at end n cs r ≡ strip_at end (length t) cs t → StripsSoFar end cs t next
  by zero enough same = absurd (omega arith)
  by (suc n) enough same = record { count = n; enough = omega arith; same = sym (strip_step end n cs r (Some next) h) ∙ same }

pub strips_done : (end : End) (cs : List (List ℕ)) (t r : List ℕ) → StripsSoFar end cs t r → None ≡ cut_at end cs r → r ≡ strip_at end (length t) cs t
strips_done end cs t r so h = by so.count so.same where
  by : (n : ℕ) → strip_at end n cs r ≡ strip_at end (length t) cs t → r ≡ strip_at end (length t) cs t
  by zero same = sym (no_steps end cs r) ∙ same
  by (suc n) same = sym (strip_step end n cs r None h) ∙ same

-- ---- characters

to_front_character : (b : ℕ) (cs : List (List ℕ)) → AreCharacters cs → AreCharacters (to_front b cs)
to_front_character b [] h = ((omega arith, tt), tt)
to_front_character b ([] ∷ cs) h = ((omega arith, tt), h.1)
to_front_character b ((x ∷ c) ∷ cs) h = by (is_inner x) refl where
  by : (v : Bool) → is_inner x ≡ v → AreCharacters (to_front b ((x ∷ c) ∷ cs))
  by true e = rw e ((omega arith, (e, h.0.1)), h.1)
  by false e = rw e ((omega arith, tt), h)

-- what a text is taken apart into are characters
pub are_characters : (t : List ℕ) → AreCharacters (characters t)
are_characters [] = tt
are_characters (b ∷ t) = to_front_character b (characters t) (are_characters t)
