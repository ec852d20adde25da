-- The arguments of a method by their places, and what is read of them.
use Rattle.std.proofs.Common.{◌≡◌, ◌<◌, ℕ, zero, suc, List, [], ◌∷◌, length, slice_get, Option, Some, None, ap, sym, subst, refl, arith, rules, ◌∙◌}
use Rattle.std.specs.Prelude.{unwrap_or}
use Rattle.star_values.specs.Owns.{Owns, OwnsAll}
use Rattle.star_values.specs.View.{View, value_of, values_of}
use Rattle.star_values.specs.declared.value.Value.{Value}
use Rattle.star_values.specs.declared.value.Value.TheVariants as value
use Rattle.text_spec.specs.Signatures.{Operand, of_text, Operands, read_as, read_operands, separator, text_in, three_read, value_at}
use Rattle.value_spec.specs.Values as plain
use Rattle.value_spec.specs.Values.{Store, none_value}
use Rattle.star_text.specs.View.{IsSeparated, method_of}
use Rattle.star_text.specs.declared.table.TextMethod.{TextMethod}
use Rattle.star_text.specs.declared.table.TextMethod.TheVariants as text_method

found_value : (a : View) (vs : List Value) (n : ℕ) → value_of a (unwrap_or (slice_get vs n) value.None) ≡ value_at n (values_of a vs)
found_value a [] n = refl
found_value a (v ∷ vs) zero = refl
found_value a (v ∷ vs) (suc n) = found_value a vs n

found_owned : (a : View) (vs : List Value) (n : ℕ) → OwnsAll a vs → Owns a (unwrap_or (slice_get vs n) value.None)
found_owned a [] n h = tt
found_owned a (v ∷ vs) zero h = h.0
found_owned a (v ∷ vs) (suc n) h = found_owned a vs n h.1

pub argument_value : (a : View) (vs : List Value) (n : ℕ) (o : Option Value) (v : Value) → o ≡ slice_get vs n → v ≡ unwrap_or o value.None → value_of a v ≡ value_at n (values_of a vs)
argument_value a vs n o v e f = ap (value_of a) (f ∙ ap (λ x. unwrap_or x value.None) e) ∙ found_value a vs n

pub argument_owned : (a : View) (vs : List Value) (n : ℕ) (o : Option Value) (v : Value) → o ≡ slice_get vs n → v ≡ unwrap_or o value.None → OwnsAll a vs → Owns a v
argument_owned a vs n o v e f h = subst (Owns a) (sym (f ∙ ap (λ x. unwrap_or x value.None) e)) (found_owned a vs n h)

-- ---- separators

not_empty : (v : plain.Value) (o : Operand) (store : Store) → read_as store separator v ≡ Some o → 0 < length (text_in o)
not_empty (plain.text_value (b ∷ t)) o store e =
    let same : of_text (b ∷ t) ≡ o = cc in
    subst (λ x. 0 < length (text_in x)) same (search (rules, arith))
not_empty _ o store e = cc

first_read : (x y z : Option Operand) (os : Operands) → three_read x y z ≡ Some os → x ≡ Some os.first
first_read (Some a) (Some b) (Some c) os e = cc
first_read None y z os e = cc
first_read (Some a) None z os e = cc
first_read (Some a) (Some b) None os e = cc

pub separated : (m : TextMethod) (store : Store) (vs : List plain.Value) (os : Operands) → read_operands store (method_of m).kinds vs ≡ Some os → IsSeparated m os
separated text_method.Partition store vs os e = not_empty (value_at 0 vs) os.first store (first_read _ _ _ os e)
separated text_method.PartitionBack store vs os e = not_empty (value_at 0 vs) os.first store (first_read _ _ _ os e)
separated (text_method.Search w b) store vs os e = tt
separated text_method.AtFront store vs os e = tt
separated text_method.AtBack store vs os e = tt
separated text_method.WithoutPrefix store vs os e = tt
separated text_method.WithoutSuffix store vs os e = tt
separated text_method.Replace store vs os e = tt
separated text_method.Join store vs os e = tt
separated text_method.Split store vs os e = tt
separated text_method.SplitBack store vs os e = tt
separated text_method.Lines store vs os e = tt
separated (text_method.Strip x) store vs os e = tt
separated (text_method.Change l) store vs os e = tt
separated (text_method.Ask t) store vs os e = tt
