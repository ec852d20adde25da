-- Texts that are cut at their first mark, by the definition.
use Rattle.std.proofs.Common.{◌≡◌, ℕ, zero, suc, ◌+◌, ◌<◌, ◌≤◌, Bool, true, false, ◌||◌, ◌==◌, List, [], ◌∷◌, ◌++◌, length, drop, Option, Some, None, MatchOption, Ok, refl, sym, ap, subst, ◌∙◌, append_assoc, append-nil, arith, Bor, codes}
use Rattle.std.proofs.lemmas.List.{length-append}
use Rattle.std.specs.Bool.{MatchBool}
use Rattle.std.specs.Str.Pattern.{FindsText, HasMatch, LacksTextAt, SplitsAroundMatch}
use Rattle.std.proofs.lemmas.Str.Pattern.{split_text_parts, starts_text}
use Rattle.ytt_base.specs.declared.fault.FaultKind.TheVariants as kind
use Rattle.ytt_base.specs.declared.fault.Place.{Place}
use Rattle.ytt_base.specs.Outcomes.{Outcome, ◌>>=◌}
use Rattle.yaml_spec.specs.Bytes.{dash}
use Rattle.yaml_spec.specs.Refusals.{refused}
use Rattle.yaml_spec.specs.Text.{last}
use Rattle.code_spec.specs.Code.{Pieces, no_pieces, expr_piece}
use Rattle.code_spec.specs.CodeReading.{CodeReader}
use Rattle.template_spec.specs.Comments.{begins}
use Rattle.text_template_spec.specs.TextPieces.{code_from, is_templated, text_from, with_text}
use Rattle.text_template.specs.Cuts.{code_then, from_mark}

-- ---- where a text first occurs

-- it occurs nowhere
abbrev pub Nowhere : (part text : List ℕ) → Type 0
Nowhere x s = (i : ℕ) → i ≤ length s → LacksTextAt x s i

-- it occurs behind `front` first, before `back`
pub record First (x s front back : List ℕ) : Type 0 where
  pub whole : s ≡ front ++ (x ++ back)
  pub lacks : (i : ℕ) → i < length front → LacksTextAt x (front ++ (x ++ back)) i

pub splits : (x s : List ℕ) (r : Option (Bor (List ℕ) × Bor (List ℕ))) → MatchOption r (FindsText x s None) (λ p. SplitsAroundMatch (FindsText x) s p.0.now p.1.now)
    → MatchOption r (Nowhere x s) (λ p. First x s p.0.now p.1.now)
splits x s None h = h
splits x s (Some p) (i, j, f, front, back, le, n, m) =
    let e = split_text_parts x s (Some p) (i, j, f, front, back, le, n, m) in
    record { whole = e; lacks = λ k l. subst (λ t. LacksTextAt x t k) e (f.0 k (omega arith)) }

pub shorter : (x s front back : List ℕ) → First x s front back → length back + length x ≤ length s
shorter x s front back f = let e = ap length f.whole in omega (arith, e, length-append front (x ++ back), length-append x back)

begins_not : (x s : List ℕ) → LacksTextAt x s 0 → begins s x ≡ false
begins_not x s h = sym (starts_text false x s h)

-- ---- one of two

if_not : {A : Type 0} (b : Bool) (x y z : A) → b ≡ false → x ≡ z → (elim b [ false ↦ x | true ↦ y ]) ≡ z
if_not false x y z e h = h
if_not true x y z e h = cc

then_behind : {A B : Type 0} (b : Bool) (o p : Outcome A) (f : A → Outcome B) (q : Outcome B) → (o >>= f) ≡ q → (elim b [ false ↦ q | true ↦ p >>= f ]) ≡ ((elim b [ false ↦ o | true ↦ p ]) >>= f)
then_behind false o p f q e = sym e
then_behind true o p f q e = refl

-- ---- outside of code

module _ (r : CodeReader) (p : Place) where
  pub text_plain : (held s : List ℕ) → Nowhere (codes "(@") s → text_from r p zero held s ≡ Ok (with_text (held ++ s) no_pieces)
  text_plain held [] h = ap (λ t. Ok (with_text t no_pieces)) (sym (append-nil held))
  text_plain held (b ∷ t) h =
      if_not (begins (b ∷ t) (codes "(@")) (text_from r p zero (held ++ b ∷ []) t) _ _ (begins_not (codes "(@") (b ∷ t) (h 0 (omega arith)))
      (text_plain (held ++ b ∷ []) t (λ i l. h (suc i) (omega arith)) ∙ ap (λ u. Ok (with_text u no_pieces)) (append_assoc held (b ∷ []) t))

  pub text_marked : (held a t : List ℕ) → ((i : ℕ) → i < length a → LacksTextAt (codes "(@") (a ++ 40 ∷ 64 ∷ t) i) → text_from r p zero held (a ++ 40 ∷ 64 ∷ t) ≡ (from_mark r p t >>= (λ ps. Ok (with_text (held ++ a) ps)))
  text_marked held [] t h =
      then_behind (begins (40 ∷ 64 ∷ t) (codes "(@=")) (refused kind.TextForm p) (code_from r p 2 [] (64 ∷ t)) (λ ps. Ok (with_text held ps)) (refused kind.TextForm p) refl
      ∙ ap (λ u. from_mark r p t >>= (λ ps. Ok (with_text u ps))) (sym (append-nil held))
  text_marked held (b ∷ a) t h =
      if_not (begins (b ∷ (a ++ 40 ∷ 64 ∷ t)) (codes "(@")) (text_from r p zero (held ++ b ∷ []) (a ++ 40 ∷ 64 ∷ t)) _ _ (begins_not (codes "(@") (b ∷ (a ++ 40 ∷ 64 ∷ t)) (h 0 (omega arith)))
      (text_marked (held ++ b ∷ []) a t (λ i l. h (suc i) (omega arith)) ∙ ap (λ u. from_mark r p t >>= (λ ps. Ok (with_text u ps))) (append_assoc held (b ∷ []) a))

  -- ---- in code

  pub code_open : (held s : List ℕ) → Nowhere (codes "@)") s → code_from r p zero held s ≡ refused kind.TextForm p
  code_open held [] h = refl
  code_open held (b ∷ t) h =
      if_not (begins (b ∷ t) (codes "@)")) (code_from r p zero (held ++ b ∷ []) t) _ _ (begins_not (codes "@)") (b ∷ t) (h 0 (omega arith)))
      (code_open (held ++ b ∷ []) t (λ i l. h (suc i) (omega arith)))

  -- what is read where code ends
  abbrev pub at_end : (code more : List ℕ) → Outcome Pieces
  at_end code more = elim (last code == dash) [ true ↦ refused kind.TextForm p | false ↦ r.expr p code >>= (λ e. text_from r p zero [] more >>= (λ ps. Ok (expr_piece e ps))) ]

  pub code_closed : (held a t : List ℕ) → ((i : ℕ) → i < length a → LacksTextAt (codes "@)") (a ++ 64 ∷ 41 ∷ t) i) → code_from r p zero held (a ++ 64 ∷ 41 ∷ t) ≡ at_end (held ++ a) t
  code_closed held [] t h = ap (λ u. at_end u t) (sym (append-nil held))
  code_closed held (b ∷ a) t h =
      if_not (begins (b ∷ (a ++ 64 ∷ 41 ∷ t)) (codes "@)")) (code_from r p zero (held ++ b ∷ []) (a ++ 64 ∷ 41 ∷ t)) _ _ (begins_not (codes "@)") (b ∷ (a ++ 64 ∷ 41 ∷ t)) (h 0 (omega arith)))
      (code_closed (held ++ b ∷ []) a t (λ i l. h (suc i) (omega arith)) ∙ ap (λ u. at_end u t) (append_assoc held (b ∷ []) a))

  -- ---- what a search gives

  pub mark_at : (s a t : List ℕ) → First (codes "(@") s a t → text_from r p zero [] s ≡ (from_mark r p t >>= (λ ps. Ok (with_text a ps)))
  mark_at s a t f = ap (text_from r p zero []) f.whole ∙ text_marked [] a t f.lacks

  pub dash_at : (s a t : List ℕ) → First (codes "@)") s a t → (last a == dash) ≡ true → code_from r p zero [] s ≡ refused kind.TextForm p
  dash_at s a t f e = ap (code_from r p zero []) f.whole ∙ code_closed [] a t f.lacks ∙ rw (e, at_end)

  pub end_at : (s a t : List ℕ) → First (codes "@)") s a t → (last a == dash) ≡ false → code_from r p zero [] s ≡ code_then r p a t
  end_at s a t f e = ap (code_from r p zero []) f.whole ∙ code_closed [] a t f.lacks ∙ rw (e, at_end)

-- ---- the last byte

pub last-snoc : (bs : List ℕ) (b : ℕ) → last (bs ++ b ∷ []) ≡ b
last-snoc [] b = refl
last-snoc (c ∷ []) b = refl
last-snoc (c ∷ d ∷ bs) b = last-snoc (d ∷ bs) b

pub last-nothing : (bs : List ℕ) → length bs ≡ 0 → last bs ≡ 0
last-nothing [] h = refl
last-nothing (b ∷ bs) h = absurd (omega arith)

pub ruleset lasts = (last-snoc, last-nothing)

-- ---- whether there is a mark

plain_text : (s : List ℕ) → Nowhere (codes "(@") s → is_templated s ≡ false
plain_text [] h = refl
plain_text (b ∷ t) h = rw (begins_not (codes "(@") (b ∷ t) (h 0 (omega arith))) (plain_text t (λ i l. h (suc i) (omega arith)))

or_true : (b c : Bool) → c ≡ true → (b || c) ≡ true
or_true true c e = refl
or_true false c e = e

marked_text : (s rest : List ℕ) (i : ℕ) → drop i s ≡ 40 ∷ 64 ∷ rest → is_templated s ≡ true
marked_text s rest zero e = subst (λ t. is_templated t ≡ true) (sym e) refl
marked_text [] rest (suc i) e = cc
marked_text (b ∷ t) rest (suc i) e = or_true (begins (b ∷ t) (codes "(@")) (is_templated t) (marked_text t rest i e)

pub finds_mark : (b : Bool) (s : List ℕ) → MatchBool b (HasMatch (FindsText (codes "(@")) s) (FindsText (codes "(@") s None) → b ≡ is_templated s
finds_mark false s h = sym (plain_text s h)
finds_mark true s h = sym (marked_text s (drop h.1 s) h.0 h.2.1.split)
