-- What std's calls say of the fronts of texts.
use Rattle.std.proofs.Common.{◌≡◌, ℕ, List, drop, Option, Some, None, MatchOption, Bool, true, false, sym, ap, subst, ◌∙◌, Bor}
use Rattle.std.specs.Bool.{MatchBool}
use Rattle.std.specs.Str.{IsCharBoundary}
use Rattle.std.specs.Str.Pattern.{FindsTextPrefix, HasPrefixMatch, StripsPrefix}
use Rattle.std.proofs.lemmas.Str.Pattern.{starts_text}
use Rattle.template_spec.specs.Comments.{begins}
use Rattle.notes_read.specs.Texts.{IsBehind}

pub begins_so : (r : Bool) (s front : List ℕ) → MatchBool r (HasPrefixMatch (FindsTextPrefix front) s) (FindsTextPrefix front s None) → r ≡ begins s front
begins_so r s front h = starts_text r front s h

pub strips : (s front : List ℕ) (r : Option (Bor (List ℕ))) → MatchOption r (FindsTextPrefix front s None) (λ x. StripsPrefix (FindsTextPrefix front) s x.now) → IsBehind s front r
strips s front None h = sym (starts_text false front s h)
strips s front (Some x) h =
    let boundary = subst (λ (n : ℕ). IsCharBoundary s n) (sym h.1.0) h.1.2 in
    (sym (starts_text true front s (h.0, h.1, boundary)), h.2 ∙ ap (λ (n : ℕ). drop n s) h.1.0)

pub ruleset texts = (begins_so, strips)
