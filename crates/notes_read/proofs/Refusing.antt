-- Tokens are refused for one reason.
use Rattle.std.proofs.Common.{◌≡◌, List, [], ◌∷◌, ◌++◌, refl, sym, ap, ◌∙◌, subst, ⊎_elim, append_assoc}
use Rattle.std.specs.Prelude.{ℕ, Bool, true, false, if◌then◌else◌}
use Rattle.ll.specs.Grammar.{Front, Parses}
use Rattle.star_grammar.specs.declared.start.Start.{Start}
use Rattle.star_grammar.specs.declared.token.Token.{Token}
use Rattle.star_grammar.specs.Language.{language}
use Rattle.star_grammar.specs.Reading.{max_height, entry_of, IsFormAt, IsDeepAt, Refusal, code_form, too_deep, RefusedAt, Refuses, opens_more, outer_line}

-- ---- two cuts of one list

-- the lists are cut at one place, or one of them is cut further on
data Cuts (b c : List Token) (k j : Token) : Type 0 where
  together : b ≡ c → k ≡ j → Cuts b c k j
  later : (more : List Token) → c ≡ (b ++ k ∷ []) ++ more → Cuts b c k j
  sooner : (more : List Token) → b ≡ (c ++ j ∷ []) ++ more → Cuts b c k j

same_head : (a b : Token) (xs ys : List Token) → a ∷ xs ≡ b ∷ ys → (a ≡ b) × (xs ≡ ys)
same_head a b xs ys e = (cc, cc)

one_more : (x : Token) (b c : List Token) (k j : Token) → Cuts b c k j → Cuts (x ∷ b) (x ∷ c) k j
one_more x b c k j (together e f) = together (ap (λ l. x ∷ l) e) f
one_more x b c k j (later more e) = later more (ap (λ l. x ∷ l) e)
one_more x b c k j (sooner more e) = sooner more (ap (λ l. x ∷ l) e)

cuts : (b c : List Token) (k j : Token) (us vs : List Token) → b ++ k ∷ us ≡ c ++ j ∷ vs → Cuts b c k j
cuts [] [] k j us vs e = together refl (same_head k j us vs e).0
cuts [] (y ∷ c) k j us vs e = later c (ap (λ x. x ∷ c) (sym (same_head k y us (c ++ j ∷ vs) e).0))
cuts (x ∷ b) [] k j us vs e = sooner b (ap (λ y. y ∷ b) (same_head x j (b ++ k ∷ us) vs e).0)
cuts (x ∷ b) (y ∷ c) k j us vs e =
    let h = same_head x y (b ++ k ∷ us) (c ++ j ∷ vs) e in
    subst (λ z. Cuts (x ∷ b) (z ∷ c) k j) h.0 (one_more x b c k j (cuts b c k j us vs h.1))

-- ---- one reason

-- what begins some text, begins it with each of its own fronts
shorter : (s : Start) (b more : List Token) → Front language (entry_of s) max_height (b ++ more) → Front language (entry_of s) max_height b
shorter s b more f = record {
  rest = more ++ f.rest;
  value = f.value;
  text = subst (λ l. Parses language (entry_of s) max_height l f.value) (append_assoc b more f.rest) f.text;
}

-- the token is refused behind a front
record Stops (s : Start) (b : List Token) (k : Token) : Type 0 where
  front : Front language (entry_of s) max_height b
  none : Front language (entry_of s) max_height (b ++ k ∷ []) → ⊥

of_form : (s : Start) (b : List Token) (k : Token) → IsFormAt s b k → Stops s b k
of_form s b k f = record { front = f.front; none = f.none max_height }

of_deep : (s : Start) (b : List Token) (k : Token) → IsDeepAt s b k → Stops s b k
of_deep s b k d = record { front = d.front; none = d.not_low }

not_later : (s : Start) (b c : List Token) (k j : Token) → Stops s b k → Stops s c j → (more : List Token) → c ≡ (b ++ k ∷ []) ++ more → ⊥
not_later s b c k j p q more e = p.none (shorter s (b ++ k ∷ []) more (subst (λ l. Front language (entry_of s) max_height l) e q.front))

one_place : (s : Start) (b c : List Token) (k j : Token) → Stops s b k → Stops s c j → Cuts b c k j → (b ≡ c) × (k ≡ j)
one_place s b c k j p q (together e f) = (e, f)
one_place s b c k j p q (later more e) = absurd (not_later s b c k j p q more e)
one_place s b c k j p q (sooner more e) = absurd (not_later s c b j k q p more e)

-- why a token is refused, and what that tells
data Reason (s : Start) (b : List Token) (k : Token) (r : Refusal) : Type 0 where
  form : IsFormAt s b k → r ≡ (if opens_more s b k then too_deep k.line else code_form k.line) → Reason s b k r
  deep : IsDeepAt s b k → r ≡ too_deep (outer_line s (b ++ k ∷ [])) → Reason s b k r

told_form : (o : Bool) (l m : ℕ) → o ≡ false → l ≡ m → code_form l ≡ (if o then too_deep m else code_form m)
told_form false l m e f = ap code_form f
told_form true l m e f = cc

told_deep : (o : Bool) (l m : ℕ) → o ≡ true → l ≡ m → too_deep l ≡ (if o then too_deep m else code_form m)
told_deep true l m e f = ap too_deep f
told_deep false l m e f = cc

abbrev Reasons : Start → List Token → Refusal → Type 0
Reasons s ts r = RefusedAt ts (λ b k. Reason s b k r)

reasons_of : (s : Start) (ts : List Token) (r : Refusal) → Refuses s ts r → Reasons s ts r
reasons_of s ts (code_form l) h = (h.0, h.1, h.2, h.3, form h.4.2 (told_form (opens_more s h.0 h.1) l h.1.line h.4.1 h.4.0))
reasons_of s ts (too_deep l) h =
    (h.0, h.1, h.2, h.3, ⊎_elim (λ f. form f.2 (told_deep (opens_more s h.0 h.1) l h.1.line f.1 f.0)) (λ d. deep d.1 (ap too_deep d.0)) h.4)

stops_of : (s : Start) (b : List Token) (k : Token) (r : Refusal) → Reason s b k r → Stops s b k
stops_of s b k r (form f e) = of_form s b k f
stops_of s b k r (deep d e) = of_deep s b k d

one_reason : (s : Start) (b : List Token) (k : Token) (r q : Refusal) → Reason s b k r → Reason s b k q → r ≡ q
one_reason s b k r q (form f e) (form g h) = e ∙ sym h
one_reason s b k r q (deep f e) (deep g h) = e ∙ sym h
one_reason s b k r q (form f e) (deep g h) = absurd (f.none g.tall.0 g.tall.1)
one_reason s b k r q (deep g h) (form f e) = absurd (f.none g.tall.0 g.tall.1)

same_reason : (s : Start) (ts : List Token) (r q : Refusal) → Reasons s ts r → Reasons s ts q → r ≡ q
same_reason s ts r q x y =
    let at = one_place s x.0 y.0 x.1 y.1 (stops_of s x.0 x.1 r x.4) (stops_of s y.0 y.1 q y.4) (cuts x.0 y.0 x.1 y.1 x.2 y.2 (sym x.3 ∙ y.3)) in
    one_reason s x.0 x.1 r q x.4 (subst (λ b. Reason s b x.1 q) (sym at.0) (subst (λ k. Reason s y.0 k q) (sym at.1) y.4))

pub one_refusal : (s : Start) (ts : List Token) (r q : Refusal) → Refuses s ts r → Refuses s ts q → r ≡ q
one_refusal s ts r q x y = same_reason s ts r q (reasons_of s ts r x) (reasons_of s ts q y)
