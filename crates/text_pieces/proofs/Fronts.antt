-- What a text begins and ends with, as std's calls say it.
use Rattle.std.proofs.Common.{◌≡◌, ℕ, true, false, List, ◌-◌, length, take, drop, Option, Some, None, MatchOption, sym, ap, subst, ◌∙◌, Bor}
use Rattle.std.proofs.lemmas.Bool.{false_from_ne_true}
use Rattle.std.specs.Str.Pattern.{FindsTextPrefix, FindsTextSuffix, LacksTextAt, StripsPrefix, StripsSuffix}
use Rattle.operator_spec.specs.Operators.{begins_with}
use Rattle.operator_spec.proofs.Fronts.{begins, begins_is}
use Rattle.text_spec.specs.Places.{ends_with}
use Rattle.text_spec.proofs.Ends.{ends, ends_is}
use Rattle.text_pieces.specs.Texts.{IsLeft}

pub lacks : (x t : List ℕ) (i : ℕ) → LacksTextAt x t i → begins_with x (drop i t) ≡ false
lacks x t i h = false_from_ne_true (begins_with x (drop i t)) (λ e. h (drop (length x) (drop i t)) (begins_is x (drop i t) e))

pub strips_prefix : (x t : List ℕ) (r : Option (Bor (List ℕ))) → MatchOption r (FindsTextPrefix x t None) (λ y. StripsPrefix (FindsTextPrefix x) t y.now) →
    IsLeft (begins_with x t) (drop (length x) t) r
strips_prefix x t None h = lacks x t 0 h
strips_prefix x t (Some y) h = (subst (λ l. begins_with x l ≡ true) (sym h.1.1) (begins x (drop h.0 t)), h.2 ∙ ap (λ n. drop n t) h.1.0)

-- ---- the end

pub strips_suffix : (x t : List ℕ) (r : Option (Bor (List ℕ))) → MatchOption r (FindsTextSuffix x t None) (λ y. StripsSuffix (FindsTextSuffix x) t y.now) →
    IsLeft (ends_with x t) (take (length t - length x) t) r
strips_suffix x t None h = false_from_ne_true (ends_with x t) (λ e. h (take (length t - length x) t) (ends_is x t e))
strips_suffix x t (Some y) h = (subst (λ l. ends_with x l ≡ true) (sym h.1.1) (ends x (take (length t - h.0) t)), h.2 ∙ ap (λ n. take (length t - n) t) h.1.0)

pub ruleset edges = (strips_prefix, strips_suffix)
