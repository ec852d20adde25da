-- Tokens are refused for one reason.
use Rattle.std.proofs.Common.{◌≡◌, List, [], ◌∷◌, ◌++◌, refl, sym, ap, ◌∙◌, subst, inl, inr, ⊎_elim, append_assoc}
use Rattle.std.specs.Prelude.{true, false, Bool, ◌⊎◌}
use Rattle.ll.specs.Grammar.{Front}
use Rattle.star_grammar.specs.declared.start.Start.{Start}
use Rattle.star_grammar.specs.declared.token.Token.{Token}
use Rattle.star_grammar.specs.Language.{language}
use Rattle.star_grammar.specs.Reading.{max_height, entry_of, IsFormAt, IsDeepAt, Refusal, code_form, too_deep, Refuses, opens_more, outer_line}
use Rattle.star_read.specs.Answers.{OneRefusal}
use Rattle.star_read.proofs.Answering.{same_head}

-- what is refused is the least token with which nothing low enough begins
record Least (s : Start) (ts before : List Token) (k : Token) : Type 0 where
  after : List Token
  spelled : ts ≡ before ++ k ∷ after
  front : Front language (entry_of s) max_height before
  none : Front language (entry_of s) max_height (before ++ k ∷ []) → ⊥

abbrev Apart : (b : List Token) (k : Token) (c : List Token) → Type 0
Apart b k c = (more : List Token) × (c ≡ b ++ k ∷ more)

meet : (b c : List Token) (k j : Token) (xs ys : List Token) → b ++ k ∷ xs ≡ c ++ j ∷ ys → ((b ≡ c) × (k ≡ j)) ⊎ (Apart b k c ⊎ Apart c j b)
meet [] [] k j xs ys e = inl (refl, (same_head k j xs ys e).0)
meet [] (t ∷ c) k j xs ys e = inr (inl (c, ap (λ x. x ∷ c) (sym (same_head k t xs (c ++ j ∷ ys) e).0)))
meet (t ∷ b) [] k j xs ys e = inr (inr (b, ap (λ x. x ∷ b) (same_head t j (b ++ k ∷ xs) ys e).0))
meet (t ∷ b) (u ∷ c) k j xs ys e =
    let q = same_head t u (b ++ k ∷ xs) (c ++ j ∷ ys) e in
    ⊎_elim
    (λ h. inl (ap (λ l. t ∷ l) h.0 ∙ ap (λ x. x ∷ c) q.0, h.1))
    (λ h. inr (⊎_elim
    (λ d. inl (d.0, ap (λ l. u ∷ l) d.1 ∙ ap (λ x. x ∷ (b ++ k ∷ d.0)) (sym q.0)))
    (λ d. inr (d.0, ap (λ l. t ∷ l) d.1 ∙ ap (λ x. x ∷ (c ++ j ∷ d.0)) q.0)) h))
    (meet b c k j xs ys q.1)

shorter : (s : Start) (b : List Token) (k : Token) (c : List Token) → Apart b k c → Front language (entry_of s) max_height c → Front language (entry_of s) max_height (b ++ k ∷ [])
shorter s b k c d f = record {
  rest = d.0 ++ f.rest;
  value = f.value;
  text = rw append_assoc (rw (d.1, append_assoc) at f.text);
}

same_place : (s : Start) (ts b c : List Token) (k j : Token) → Least s ts b k → Least s ts c j → (b ≡ c) × (k ≡ j)
same_place s ts b c k j p q = ⊎_elim (λ h. h) (λ h. absurd (⊎_elim (λ d. p.none (shorter s b k c d q.front)) (λ d. q.none (shorter s c j b d p.front)) h)) (meet b c k j p.after q.after (sym p.spelled ∙ q.spelled))

least_form : (s : Start) (ts b : List Token) (k : Token) (after : List Token) → ts ≡ b ++ k ∷ after → IsFormAt s b k → Least s ts b k
least_form s ts b k after e f = record { after = after; spelled = e; front = f.front; none = f.none max_height }

least_deep : (s : Start) (ts b : List Token) (k : Token) (after : List Token) → ts ≡ b ++ k ∷ after → IsDeepAt s b k → Least s ts b k
least_deep s ts b k after e d = record { after = after; spelled = e; front = d.front; none = d.not_low }

never : (s : Start) (b : List Token) (k : Token) → IsFormAt s b k → IsDeepAt s b k → ⊥
never s b k f d = f.none d.tall.0 d.tall.1

not_both : (b : Bool) → b ≡ true → b ≡ false → ⊥
not_both b e f = cc

-- why a token is refused, told of its place
abbrev Why : Start → List Token → Token → Refusal → Type 0
Why s b k (code_form l) = (l ≡ k.line) × (opens_more s b k ≡ false) × IsFormAt s b k
Why s b k (too_deep l) = ((l ≡ k.line) × (opens_more s b k ≡ true) × IsFormAt s b k) ⊎ ((l ≡ outer_line s (b ++ k ∷ [])) × IsDeepAt s b k)

one_reason : (s : Start) (b : List Token) (k : Token) (r q : Refusal) → Why s b k r → Why s b k q → r ≡ q
one_reason s b k (code_form l) (code_form m) h g = ap code_form (h.0 ∙ sym g.0)
one_reason s b k (code_form l) (too_deep m) h g = absurd (⊎_elim (λ d. not_both (opens_more s b k) d.1 h.1) (λ d. never s b k h.2 d.1) g)
one_reason s b k (too_deep l) (code_form m) h g = absurd (⊎_elim (λ d. not_both (opens_more s b k) d.1 g.1) (λ d. never s b k g.2 d.1) h)
one_reason s b k (too_deep l) (too_deep m) h g = ap too_deep (⊎_elim
    (λ d. ⊎_elim (λ e. d.0 ∙ sym e.0) (λ e. absurd (never s b k d.2 e.1)) g)
    (λ d. ⊎_elim (λ e. absurd (never s b k e.2 d.1)) (λ e. d.0 ∙ sym e.0) g) h)

record Refused (s : Start) (ts : List Token) (r : Refusal) : Type 0 where
  before : List Token
  token : Token
  least : Least s ts before token
  why : Why s before token r

refused : (s : Start) (ts : List Token) (r : Refusal) → Refuses s ts r → Refused s ts r
refused s ts (code_form l) h = record { before = h.0; token = h.1; least = least_form s ts h.0 h.1 h.2 h.3 h.4.2; why = h.4 }
refused s ts (too_deep l) h = record {
  before = h.0;
  token = h.1;
  least = ⊎_elim (λ d. least_form s ts h.0 h.1 h.2 h.3 d.2) (λ d. least_deep s ts h.0 h.1 h.2 h.3 d.1) h.4;
  why = h.4;
}

pub one_refusal : OneRefusal
one_refusal s ts r q h g =
    let x = refused s ts r h in
    let y = refused s ts q g in
    let same = same_place s ts x.before y.before x.token y.token x.least y.least in
    one_reason s y.before y.token r q (subst (λ k. Why s y.before k r) same.1 (subst (λ b. Why s b x.token r) same.0 x.why)) y.why
