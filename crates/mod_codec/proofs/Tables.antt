-- The native of a name in a table, and the text that Base64 stands for.
use Rattle.std.proofs.Common.{◌≡◌, ◌+◌, ◌<◌, ℕ, List, Bool, true, false, Ok, Some, None, bytes_eq, drop, get_or, if◌then◌else◌, length, refl, sym, ap, ◌∙◌}
use Rattle.std.proofs.lemmas.List.{drop_more}
use Rattle.std.proofs.lemmas.Str.{IsUtf8-from_is_utf8}
use Rattle.std.specs.Borrow.{Bor}
use Rattle.std.specs.Str.{IsUtf8, is_utf8}
use Rattle.base64.specs.Engines.{standard}
use Rattle.base64.specs.GeneralPurpose.{decode_of}
use Rattle.code_spec.specs.Code.{Name}
use Rattle.module_spec.specs.Answering.{row_in}
use Rattle.module_spec.specs.Codecs.{text_in}
use Rattle.value_spec.specs.Outcomes.{Ending, State, bad, done, or_fail}
use Rattle.ytt_base.specs.Outcomes.{fault_at}
use Rattle.ytt_base.specs.declared.fault.FaultKind.TheVariants as kind
use Rattle.ytt_base.specs.declared.fault.Place.{Place}
use Rattle.mod_codec.specs.View.{named_rows, row_of}
use Rattle.mod_codec.specs.declared.table.Codec.{Codec}

pub found : (x : Name) (cs : List (Bor (List ℕ) × Codec)) (i : ℕ) (d : Bor (List ℕ) × Codec) → i < length cs → bytes_eq x (get_or cs i d).0.now ≡ true → row_in x (named_rows cs) ≡ row_in x (named_rows (drop i cs)) →
    Some (row_of (get_or cs i d).1) ≡ row_in x (named_rows cs)
found x cs i d lt e h =
    sym (h ∙ ap (λ l. row_in x (named_rows l)) (drop_more cs i d lt)
    ∙ ap (λ (b : Bool). if b then Some (row_of (get_or cs i d).1) else row_in x (named_rows (drop (i + 1) cs))) e)

module _ (p : Place) (t bytes : List ℕ) (s : State (Unit {0})) (is : decode_of standard t ≡ Ok bytes) where
  abbrev by : Bool → Ending (Unit {0}) (List ℕ)
  by b = or_fail kind.CodecForm p (if b then Some bytes else None) s

  pub is_text : (u : List ℕ) → u ≡ bytes → is_utf8 u ≡ true → or_fail kind.CodecForm p (text_in (decode_of standard t)) s ≡ done u s
  is_text u e utf8 = ap (λ r. or_fail kind.CodecForm p (text_in r) s) is ∙ ap by (ap is_utf8 (sym e) ∙ utf8) ∙ ap (λ b. done b s) (sym e)

  not_utf8 : (b : Bool) → is_utf8 bytes ≡ b → (IsUtf8 bytes → ⊥) → b ≡ false
  not_utf8 true e h = absurd (h (IsUtf8-from_is_utf8 bytes e))
  not_utf8 false e h = refl

  pub is_no_text : (IsUtf8 bytes → ⊥) → or_fail kind.CodecForm p (text_in (decode_of standard t)) s ≡ bad (fault_at kind.CodecForm p) s
  is_no_text h = ap (λ r. or_fail kind.CodecForm p (text_in r) s) is ∙ ap by (not_utf8 (is_utf8 bytes) refl h)
