-- Checks are what the program holds, and so is what they say of a value.
use Rattle.std.proofs.Common.{ℕ, Bool, not, List, [], ◌∷◌, IsUtf8, refl, bytes_eq, codes}
use Rattle.std.specs.Prelude.{is_some}
use Rattle.ytt_base.specs.declared.fault.FaultKind.TheVariants as kind
use Rattle.ytt_base.specs.declared.fault.Place.{Place}
use Rattle.builtin_spec.specs.Binding.{taking}
use Rattle.code_spec.specs.Code.{Name}
use Rattle.operator_spec.specs.Order.{are_comparable, comparison, is_above, is_below, order}
use Rattle.star_spec.proofs.BindingsKeep.{taking_keeps}
use Rattle.star_spec.proofs.FillingKeeps.{paid_keeps}
use Rattle.star_spec.proofs.Keeping.{Anything, Keeps, keeps_fail, keeps_give, keeps_if, keeps_need, keeps_or_fail, keeps_reads, keeps_then}
use Rattle.star_spec.proofs.MembersHeld.{from_values}
use Rattle.star_spec.proofs.RowsHeld.{measured_keeps}
use Rattle.star_spec.proofs.TextsKeep.{low_utf8}
use Rattle.star_spec.specs.Held.{HeldList, HeldValue}
use Rattle.text_spec.specs.Signatures.{value_at}
use Rattle.value_spec.specs.Members.{as_int, as_text}
use Rattle.value_spec.specs.Outcomes.{give}
use Rattle.value_spec.specs.Values.{Value}
use Rattle.module_spec.proofs.RowsKeep.{RowKeeps, answering_keeps, own_keeps, unless_keeps}
use Rattle.module_spec.specs.Asserting.{at_least, at_most, check_row, checked, checking, is_none, length_checked, length_in, rule_checked, rule_of_number, rule_of_value, rule_parts}
use Rattle.module_spec.specs.Rows.{of_own}

-- ---- checks that are made

checking_held : (x : Name) (vs : List Value) → IsUtf8 x → HeldList vs → HeldValue (checking x vs)
checking_held x vs u h = ((low_utf8 (codes "check") refl, (low_utf8 (codes "assert.check") refl, ((u, from_values vs h), tt)), tt), refl)

pub value_rule_keeps : {H : Type 0} (x : Name) → IsUtf8 x → (p : Place) (v : Value) → HeldValue v → Keeps {H = H} HeldValue (rule_of_value x p v)
value_rule_keeps x u p v h = paid_keeps p (v ∷ []) 0 0 (keeps_give (checking x (v ∷ [])) (checking_held x (v ∷ []) u (h, tt)))

pub number_rule_keeps : {H : Type 0} (x : Name) → IsUtf8 x → (p : Place) (v : Value) → HeldValue v → Keeps {H = H} HeldValue (rule_of_number x p v)
number_rule_keeps x u p v h = keeps_then (keeps_need kind.ValueKind p (is_some (as_int v))) (λ w g. value_rule_keeps x u p v h)

pub not_null_keeps : {H : Type 0} → RowKeeps {H = H} (of_own (taking [] [] (λ p vs. give (checking (codes "not_null") []))))
not_null_keeps = own_keeps (taking_keeps [] [] (λ p vs k. keeps_give (checking (codes "not_null") []) (checking_held (codes "not_null") [] (low_utf8 (codes "not_null") refl) tt)))

-- ---- what they say

compared_keeps : {H : Type 0} (p : Place) (a b : Value) → Keeps {H = H} Anything (comparison p a b)
compared_keeps p a b =
    keeps_then {P = Anything} (keeps_need kind.ValueKind p (are_comparable a b)) (λ u w.
    keeps_then {P = Anything} (measured_keeps 6 p a) (λ u w.
    keeps_then {P = Anything} (measured_keeps 6 p b) (λ u w. keeps_reads (λ store. order store a b) (λ store g. tt))))

length_keeps : {H : Type 0} (test : ℕ → Bool) (x : Name) (p : Place) (v : Value) → Keeps {H = H} HeldValue (length_checked test x p v)
length_keeps test x p v =
    keeps_then {P = Anything}
    (keeps_then {P = Anything} (keeps_reads (λ store. length_in store v) (λ store h. tt)) (λ o u. keeps_or_fail kind.ValueKind p o (λ n e. tt)))
    (λ n u. paid_keeps p (v ∷ []) 0 0 (unless_keeps p x (test n)))

checked_keeps : {H : Type 0} (x : Name) (p : Place) (n v : Value) → Keeps {H = H} HeldValue (checked x p n v)
checked_keeps x p n v =
    keeps_if (bytes_eq x (codes "min")) (λ e. keeps_then (compared_keeps p v n) (λ c u. unless_keeps p x (not (is_below c)))) (λ e.
    keeps_if (bytes_eq x (codes "max")) (λ e. keeps_then (compared_keeps p v n) (λ c u. unless_keeps p x (not (is_above c)))) (λ e.
    keeps_if (bytes_eq x (codes "min_len")) (λ e. length_keeps (at_least n) x p v) (λ e.
    keeps_if (bytes_eq x (codes "max_len")) (λ e. length_keeps (at_most n) x p v) (λ e.
    keeps_if (bytes_eq x (codes "not_null")) (λ e. paid_keeps p (v ∷ []) 0 0 (unless_keeps p x (not (is_none v)))) (λ e. keeps_fail kind.ValueKind p [])))))

rule_keeps : {H : Type 0} (rule : List Value) (p : Place) (v : Value) → Keeps {H = H} HeldValue (rule_checked rule p v)
rule_keeps rule p v = keeps_then {P = Anything} (keeps_or_fail kind.ValueKind p (as_text (value_at 0 rule)) (λ x e. tt)) (λ x u. checked_keeps x p (value_at 1 rule) v)

pub check_keeps : {H : Type 0} → RowKeeps {H = H} check_row
check_keeps = record {
  by = λ p held args k g.
      answering_keeps ((taking_keeps (codes "v" ∷ []) [] {f = λ p vs. rule_checked (rule_parts (value_at 0 held)) p (value_at 0 vs)} (λ q vs h. rule_keeps (rule_parts (value_at 0 held)) q (value_at 0 vs))).by p args g);
}
