-- A text after the cost of it and of another.
use Rattle.std.proofs.Common.{◌≡◌, ℕ, List, [], ◌∷◌, length, Result, Ok, Err, true, Global, String, string_bytes, refl, subst, ◌∙◌}
use Rattle.std.specs.Str.{is_utf8}
use Rattle.base64.specs.Engines.{standard}
use Rattle.base64.specs.GeneralPurpose.{decode_of}
use Rattle.ytt_base.specs.declared.fault.FaultKind.TheVariants as kind
use Rattle.ytt_base.specs.declared.fault.Place.{Place}
use Rattle.ytt_base.specs.declared.fault.Stop.{Stop}
use Rattle.mod_json.proofs.Giving.{made, text_known}
use Rattle.mod_json.proofs.InTurn.{done_then}
use Rattle.module_spec.specs.Codecs.{decode, text_for, text_in}
use Rattle.module_spec.specs.Rows.{give_text}
use Rattle.object_arena.specs.Made.{Makes}
use Rattle.star_steps.proofs.Meeting.{gives_same, gives_stop}
use Rattle.star_steps.specs.Meets.{Gives, Meets, as_is, state_in}
use Rattle.star_values.specs.View.{View}
use Rattle.star_values.specs.declared.value.Value.{Value}
use Rattle.text_spec.specs.Answers.{paid_operation}
use Rattle.value_spec.specs.Outcomes.{Computation, Ending, asks, bad, done, give, or_fail, then_do}
use Rattle.value_spec.specs.Values.{text_value}

-- what follows once more
alone : {A : Type 0} (o : Ending (Unit {0}) (Unit {0})) (m : Computation (Unit {0}) A) → then_do o (λ u. m) ≡ then_do (then_do o (λ u. give (tt {0}))) (λ u. m)
alone (done u s) m = refl
alone (bad f s) m = refl
alone (asks q s k) m = λ i. asks q s (λ got t. alone (k got t) m i)

module _ (p : Place) (t u : List ℕ) (a : View) (n k : ℕ) where
  abbrev cost : Ending (Unit {0}) (Unit {0})
  cost = paid_operation p (text_value t ∷ []) (length u) 0 (give (tt {0})) (state_in a n)

  split : text_for p t u (state_in a n) ≡ then_do cost (λ v. give_text p u)
  split = alone _ (give_text p u)

  pub unpaid_text : (x : Stop) (r : Result Value Stop) → Meets {A = Unit {0}} as_is (Err x) (state_in a k) cost → r ≡ Err x → Gives (text_for p t u (state_in a n)) r a a k
  unpaid_text x r m e = gives_stop {A = Unit {0}} as_is x a k cost (λ v. give_text p u) r _ split m e

  pub paid_text : (v : Value) (b : View) → cost ≡ done tt (state_in a k) → is_utf8 u ≡ true → Makes (text_value u) (Ok v) a b → Gives (text_for p t u (state_in a n)) (Ok v) a b k
  paid_text v b e utf8 h = made _ (text_value u) v a b k (split ∙ done_then cost tt (state_in a k) (λ v. give_text p u) _ e (text_known p u (state_in a k) utf8)) h

-- ---- what a text in Base64 stands for

abbrev bytes_of : String Global → List ℕ
bytes_of y = string_bytes {Z = Global} y

module _ (p : Place) (t : List ℕ) (a : View) (n : ℕ) (w : List ℕ) (same : w ≡ t) where
  pub undecoded : (x : Stop) (r : Result Value Stop) → Meets bytes_of (Err x) (state_in a n) (or_fail kind.CodecForm p (text_in (decode_of standard w)) (state_in a n)) → r ≡ Err x → Gives (decode p t (state_in a n)) r a a n
  undecoded x r m e = gives_stop bytes_of x a n (or_fail kind.CodecForm p (text_in (decode_of standard t)) (state_in a n)) (text_for p t) r _ refl
      (subst (λ w. Meets bytes_of (Err x) (state_in a n) (or_fail kind.CodecForm p (text_in (decode_of standard w)) (state_in a n))) same m) e

  pub decoded_as : (u : List ℕ) (r : Result Value Stop) (b : View) (k : ℕ) → or_fail kind.CodecForm p (text_in (decode_of standard w)) (state_in a n) ≡ done u (state_in a n) → Gives (text_for p t u (state_in a n)) r a b k → Gives (decode p t (state_in a n)) r a b k
  decoded_as u r b k e g = gives_same _ _ r a b k
      (done_then _ u (state_in a n) (text_for p t) _ (subst (λ w. or_fail kind.CodecForm p (text_in (decode_of standard w)) (state_in a n) ≡ done u (state_in a n)) same e) refl) g
