-- The first values of names.
use Rattle.std.proofs.Common.{◌≡◌, ℕ, Bool, true, false, List, [], ◌∷◌, ◌++◌, Some, append_assoc, bytes_eq, cond, if◌then◌else◌, refl, sym, ap, ◌∙◌}
use Rattle.std.proofs.lemmas.Map.Text.{hash_map_updates_str}
use Rattle.std.proofs.lemmas.List.{append-nil}
use Rattle.std.specs.Borrow.{Bor}
use Rattle.std.specs.Cmp.Lexicographic.{nat_list_eq_equiv}
use Rattle.std.specs.HashMap.{HashMap, IsEmpty, Updates, get_by}
use Rattle.std.specs.Map.{lookup}
use Rattle.code_spec.specs.Code.{Name}
use Rattle.value_spec.specs.Binding.{field_of}
use Rattle.star_values.specs.Owns.{OwnsFields, OwnsOption}
use Rattle.star_values.specs.View.{View, fields_in, option_in, value_in}
use Rattle.star_values.specs.declared.value.NamedValue.{NamedValue}
use Rattle.star_values.specs.declared.value.Value.{Value}
use Rattle.star_text.specs.ByName.{HasFirst, first_named}

-- what the definition says of a name
pub first_is : (a : View) (x : Name) (fs : List NamedValue) → option_in a.held (first_named x fs) ≡ field_of x (fields_in a.held fs)
first_is a x [] = refl
first_is a x (f ∷ fs) = by (bytes_eq x f.name) (first_is a x fs) where
  by : (b : Bool) → option_in a.held (first_named x fs) ≡ field_of x (fields_in a.held fs) → option_in a.held (if b then Some f.value else first_named x fs) ≡ (if b then Some (value_in a.held f.value) else field_of x (fields_in a.held fs))
  by true e = refl
  by false e = e

pub first_owned : (a : View) (x : Name) (fs : List NamedValue) → OwnsFields a fs → OwnsOption a (first_named x fs)
first_owned a x [] h = tt
first_owned a x (f ∷ fs) h = by (bytes_eq x f.name) (first_owned a x fs h.1) where
  by : (b : Bool) → OwnsOption a (first_named x fs) → OwnsOption a (if b then Some f.value else first_named x fs)
  by true o = h.0
  by false o = o

-- the map of those behind the ones that are left
pub record Behind {S : Type 0} (m : HashMap (Bor (List ℕ)) Value S) (left all : List NamedValue) : Type 0 where
  pub passed : List NamedValue
  pub first : HasFirst m passed
  pub same : all ≡ left ++ passed

pub none_behind : {S : Type 0} (m : HashMap (Bor (List ℕ)) Value S) (all : List NamedValue) → IsEmpty m → Behind m all all
none_behind m all e = record { passed = []; first = λ x. ap (λ es. lookup (λ k. bytes_eq x k.now) es) e; same = sym (append-nil all) }

pub one_behind : {S : Type 0} (m n : HashMap (Bor (List ℕ)) Value S) (y : Bor (List ℕ)) (f : NamedValue) (left more all : List NamedValue) → Behind m left all → left ≡ more ++ f ∷ [] → y.now ≡ f.name → Updates (λ x y. bytes_eq x.now y.now) m n y (Some f.value) → Behind n more all
one_behind m n y f left more all b e h u = record { passed = f ∷ b.passed; first = λ x. first_put x; same = b.same ∙ ap (λ l. l ++ b.passed) e ∙ append_assoc more (f ∷ []) b.passed } where
  first_put : (x : Name) → get_by (λ k. bytes_eq x k.now) n ≡ first_named x (f ∷ b.passed)
  first_put x =
      hash_map_updates_str y.now m n (Some f.value) u x
      ∙ ap (λ c. cond c (Some f.value) (get_by (λ k. bytes_eq x k.now) m)) (nat_list_eq_equiv.symm y.now x ∙ ap (bytes_eq x) h)
      ∙ ap (cond (bytes_eq x f.name) (Some f.value)) (b.first x)

pub all_behind : {S : Type 0} (m : HashMap (Bor (List ℕ)) Value S) (left all : List NamedValue) → Behind m left all → left ≡ [] → HasFirst m all
all_behind m left all b e x = b.first x ∙ ap (first_named x) (sym (b.same ∙ ap (λ l. l ++ b.passed) e))
