-- Each text is read as one thing.
use Rattle.std.proofs.Common.{◌≡◌, ℕ, List, [], ◌∷◌, Result, Ok, Err, refl, sym, ap, ◌∙◌, subst, inl, inr, ⊎_elim}
use Rattle.std.specs.Prelude.{◌⊎◌}
use Rattle.ytt_base.specs.declared.fault.Fault.{Fault}
use Rattle.ytt_base.specs.declared.fault.Place.{Place}
use Rattle.ytt_base.specs.declared.fault.Stop.{Stop}
use Rattle.ytt_base.specs.declared.fault.Stop.TheVariants as stop
use Rattle.ytt_base.specs.Outcomes.{Outcome, Gives, fault_at, place_at}
use Rattle.star_grammar.specs.declared.part.Part.{Part}
use Rattle.star_grammar.specs.declared.start.Start.{Start}
use Rattle.star_grammar.specs.declared.token.Origin.{Origin}
use Rattle.star_grammar.specs.declared.token.Origin.TheVariants as origin
use Rattle.star_grammar.specs.declared.token.Token.{Token}
use Rattle.star_grammar.specs.CodeReaders.{IsTree, IsNoToken, IsRefused, ReadsFrom, ReadsAs, refusal_fault}
use Rattle.star_grammar.specs.Parts.{top}
use Rattle.star_grammar.specs.Reading.{IsRead, Refusal, code_form, too_deep, Refuses}
use Rattle.star_grammar.specs.Tokens.{Refused, Tokens}
use Rattle.star_token.specs.declared.found.Tokens as held
use Rattle.star_token.specs.Outcome.{HasTokens}
use Rattle.star_read.specs.Answers.{HasRead, told}
use Rattle.star_read.proofs.Deciding.{one_tree, never_both}
use Rattle.notes_read.proofs.Refusing.{one_refusal}

ok_inj : {A : Type 0} (x y : List A) → ◌≡◌ {A = Result (List A) Refused} (Ok x) (Ok y) → x ≡ y
ok_inj x y e = cc

err_inj : (x y : Refused) → ◌≡◌ {A = Tokens} (Err x) (Err y) → x ≡ y
err_inj x y e = cc

not_ok : (x : List Token) (y : Refused) → ◌≡◌ {A = Tokens} (Ok x) (Err y) → ⊥
not_ok x y e = cc

pub told_is : (file : ℕ) (r : Refusal) → told file r ≡ stop.Fault (refusal_fault file r)
told_is file (code_form l) = refl
told_is file (too_deep l) = refl

stop_inj : (f g : Fault) → stop.Fault f ≡ stop.Fault g → f ≡ g
stop_inj f g e = cc

module _ {A : Type 0} (k : Origin) (s : Start) (view : Part → A) (place : Place) (text : List ℕ) where
  abbrev Same : Outcome A → Outcome A → Type 0
  Same o p = o ≡ p

  tree_tree : (x y : A) → IsTree k s view place text x → IsTree k s view place text y → x ≡ y
  tree_tree x y p q =
      let same : q.0 ≡ p.0 = ok_inj q.0 p.0 (sym q.2 ∙ p.2) in
      let parts : p.1 ≡ q.1 = one_tree s p.0 p.1 q.1 p.3 (subst (λ ts. IsRead s ts q.1) same q.3) in
      p.4 ∙ ap (λ ps. view (top ps)) parts ∙ sym q.4

  tree_fault : (x : A) (f : Fault) → IsTree k s view place text x → (IsNoToken k place text f ⊎ IsRefused k s place text f) → ⊥
  tree_fault x f p q = ⊎_elim
      (λ (n : IsNoToken k place text f). not_ok p.0 n.0 (sym p.2 ∙ n.1))
      (λ (n : IsRefused k s place text f). never_both s p.0 p.1 n.1 p.3 (subst (λ ts. Refuses s ts n.1) (ok_inj n.0 p.0 (sym n.2 ∙ p.2)) n.3))
      q

  token_token : (f g : Fault) → IsNoToken k place text f → IsNoToken k place text g → f ≡ g
  token_token f g p q = p.2 ∙ ap (λ (r : Refused). fault_at r.fault (place_at place.file r.line)) (err_inj p.0 q.0 (sym p.1 ∙ q.1)) ∙ sym q.2

  token_refused : (f g : Fault) → IsNoToken k place text f → IsRefused k s place text g → ⊥
  token_refused f g p q = not_ok q.0 p.0 (sym q.2 ∙ p.1)

  refused_refused : (f g : Fault) → IsRefused k s place text f → IsRefused k s place text g → f ≡ g
  refused_refused f g p q =
      let same : q.0 ≡ p.0 = ok_inj q.0 p.0 (sym q.2 ∙ p.2) in
      p.4 ∙ ap (refusal_fault place.file) (one_refusal s p.0 p.1 q.1 p.3 (subst (λ ts. Refuses s ts q.1) same q.3)) ∙ sym q.4

  fault_fault : (f g : Fault) → (IsNoToken k place text f ⊎ IsRefused k s place text f) → (IsNoToken k place text g ⊎ IsRefused k s place text g) → f ≡ g
  fault_fault f g p q = ⊎_elim
      (λ (a : IsNoToken k place text f). ⊎_elim (λ b. token_token f g a b) (λ b. absurd (token_refused f g a b)) q)
      (λ (a : IsRefused k s place text f). ⊎_elim (λ b. absurd (token_refused g f b a)) (λ b. refused_refused f g a b) q)
      p

  -- a text is read as one thing
  pub one_reading : (o p : Outcome A) → ReadsFrom k s view place text o → ReadsFrom k s view place text p → o ≡ p
  one_reading (Ok x) (Ok y) p q = ap Ok (tree_tree x y p q)
  one_reading (Ok x) (Err g) p q = absurd (tree_fault x g p q)
  one_reading (Err f) (Ok y) p q = absurd (tree_fault y f q p)
  one_reading (Err f) (Err g) p q = ap Err (fault_fault f g p q)

-- ---- what the calls give

module _ {X A : Type 0} (s : Start) (inner : Part → X) (view : X → A) (place : Place) (text : List ℕ) where
  -- that the text has no tokens
  pub gives_cut : (f : Fault) (o : Outcome A) → HasTokens origin.Comment place.file place.line text (Err (stop.Fault f)) → ReadsAs s (λ p. view (inner p)) place text o → o ≡ Err f
  gives_cut f o h r = one_reading origin.Comment s (λ p. view (inner p)) place text o (Err f) r (inl h)

  -- what its tokens are read as
  pub gives_read : (found : held.Tokens) (res : Result X Stop) (o : Outcome A) → HasTokens origin.Comment place.file place.line text (Ok found) → HasRead s inner found res → ReadsAs s (λ p. view (inner p)) place text o
      → Gives view res o
  gives_read found (Ok x) o h p r = one_reading origin.Comment s (λ p. view (inner p)) place text o (Ok (view x)) r (found.tokens, p.0 ∷ [], h.0, p.2, ap view p.1)
  gives_read found (Err (stop.Fault f)) o h p r =
      let same : f ≡ refusal_fault place.file p.0 = stop_inj f (refusal_fault place.file p.0) (p.1 ∙ told_is found.file p.0 ∙ ap (λ file. stop.Fault (refusal_fault file p.0)) h.1) in
      one_reading origin.Comment s (λ p. view (inner p)) place text o (Err f) r (inr (found.tokens, p.0, h.0, p.2, same))
  gives_read found (Err stop.Memory) o h p r = tt
