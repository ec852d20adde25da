-- A scalar that is read is one that the program holds: its integer has 128 bits, its string is UTF-8.
use Rattle.std.proofs.Common.{◌≡◌, ℕ, zero, suc, ◌^◌, ◌<◌, ◌≤◌, pos, Bool, true, false, List, ◌∷◌, Result, Ok, Err, FitsSigned, refl, arith, if◌then◌else◌}
use Rattle.std.specs.Prelude.{IsUtf8, nat_le, nat_lt, codes, bytes_eq}
use Rattle.std.specs.Int.{w128}
use Rattle.std.proofs.lemmas.Bool.{leb-true, ltb-true}
use Rattle.ytt_base.specs.declared.fault.FaultKind.{FaultKind}
use Rattle.ytt_base.specs.declared.fault.FaultKind.TheVariants as kind
use Rattle.ytt_base.specs.declared.fault.Place.{Place}
use Rattle.ytt_base.specs.Trees.{Scalar, integer, IsScalar}
use Rattle.yaml_spec.specs.Bytes.{is_blank}
use Rattle.yaml_spec.specs.Scalars.{Form, null_form, bool_form, octal_form, bad_octal_form, integer_form, prefixed_form, float_form, word_form, string_form, form, digits_value, unsigned, with_sign, integer_of, is_negative, value_of, plain}
use Rattle.yaml_spec.specs.Folding.{Fold}
use Rattle.yaml_spec.specs.Quotes.{Cursor}
use Rattle.yaml_spec.specs.Plain.{start_fault, part, behind, hangs, further, typed, plain_lines, plain_key}
use Rattle.std.specs.Result.{IfOk}
use Rattle.ytt_laws.proofs.Yielded.{yielded_either, yielded_if, yielded_option, yielded_then}
use Rattle.yaml_held.proofs.TextParts.{part_utf8}
use Rattle.yaml_held.proofs.GoodParts.{AreTexts, IsGoodCursor, GoodFurther, good_further, utf8_Fold}

-- ---- by form

fits_positive : (n : ℕ) → n < 2 ^ 127 → FitsSigned w128 (pos n)
fits_positive n l = record { sfits = l }

fits_sign : (n : ℕ) → n ≤ 2 ^ 127 → FitsSigned w128 (with_sign true n)
fits_sign zero l = record { sfits = omega arith }
fits_sign (suc n) l = record { sfits = omega arith }

good_integer : (negative : Bool) (n : ℕ) → IfOk (integer_of negative n) IsScalar
good_integer true n = go (nat_le n (2 ^ 127)) refl
  where
    go : (b : Bool) → nat_le n (2 ^ 127) ≡ b → IfOk {E = FaultKind} (if b then Ok (integer (with_sign true n)) else Err kind.IntWide) IsScalar
    go true e = (fits_sign n (leb-true n (2 ^ 127) e))
    go false e = tt
good_integer false n = go (nat_lt n (2 ^ 127)) refl
  where
    go : (b : Bool) → nat_lt n (2 ^ 127) ≡ b → IfOk {E = FaultKind} (if b then Ok (integer (with_sign false n)) else Err kind.IntWide) IsScalar
    go true e = (fits_positive n (ltb-true n (2 ^ 127) e))
    go false e = tt

good_value : (f : Form) (t : List ℕ) → IsUtf8 t → IfOk (value_of f t) IsScalar
good_value null_form t u = tt
good_value (bool_form b) t u = tt
good_value octal_form t u = good_integer (is_negative t) (digits_value 8 0 (unsigned t))
good_value bad_octal_form t u = tt
good_value integer_form t u = good_integer (is_negative t) (digits_value 10 0 (unsigned t))
good_value (prefixed_form base) t u = good_integer false _
good_value float_form t u = tt
good_value word_form t u = u
good_value string_form t u = u

pub good_plain : (t : List ℕ) → IsUtf8 t → IfOk (plain t) IsScalar
unfolding plain
good_plain t u = good_value (form t) t u

pub good_typed : (p : Place) (r : Result Scalar FaultKind) → IfOk r IsScalar → IfOk (typed p r) IsScalar
good_typed p (Ok s) h = h
good_typed p (Err k) h = tt

-- ---- on lines

pub good_key : (in_flow : Bool) (t : List ℕ) → IsUtf8 t → IfOk (plain_key in_flow t) IsScalar
good_key in_flow t u =
    yielded_if IsScalar (hangs in_flow t) _ _ (λ _. tt)
    (λ _. yielded_if IsScalar (bytes_eq (part in_flow t) (codes "<<")) _ _ (λ _. tt) (λ _. good_plain (part in_flow t) (part_utf8 in_flow t u).front))

abbrev pub GoodScalar : Scalar × Cursor → Type 0
GoodScalar s = IsScalar s.0 × IsGoodCursor s.1

pub good_plain_lines : (in_flow : Bool) (least : ℕ) (c : Cursor) → IsGoodCursor c → IfOk (plain_lines in_flow least c) GoodScalar
unfolding plain_lines AreTexts
good_plain_lines in_flow least c g =
    let u = part_utf8 in_flow c.text g.text in
    let here : Cursor = record c { text = behind in_flow c.text } in
    let h : IsGoodCursor here = record { text = u.back; below = g.below } in
    yielded_option _ (start_fault in_flow c.text) _ _
    (yielded_either _ (hangs in_flow c.text) _ _ tt
    (yielded_either _ (is_blank here.text) _ _
    (yielded_then GoodFurther _ (further in_flow least 0 here c.below) _ (good_further in_flow least 0 here c.below h g.below) (λ r p.
    yielded_then IsScalar _ (typed c.place (plain (Fold (part in_flow c.text ∷ r.0)))) _ (good_typed c.place _ (good_plain _ (utf8_Fold (part in_flow c.text ∷ r.0) (u.front, p.0)))) (λ s q.
    (q, p.1))))
    (yielded_then IsScalar _ (typed c.place (plain (part in_flow c.text))) _ (good_typed c.place _ (good_plain (part in_flow c.text) u.front)) (λ s q. (q, h)))))
    (λ k. tt)
