-- Names that were passed, as a set, and the arguments that are left.
use Rattle.std.proofs.Common.{◌≡◌, ℕ, Bool, true, false, not, ◌||◌, cond, List, ◌∷◌, bytes_eq, refl, sym, ap, ◌∙◌}
use Rattle.std.specs.Borrow.{Bor}
use Rattle.std.specs.HashSet.{HashSet, IsEmpty, Updates, contains_by}
use Rattle.std.specs.List.{list_any}
use Rattle.code_spec.specs.Code.{Name}
use Rattle.value_spec.specs.Binding.{has_field, has_twice}
use Rattle.value_spec.specs.Values as plain
use Rattle.value_spec.specs.Values.{Fields, no_fields, a_field}
use Rattle.star_values.specs.View.{fields_in}
use Rattle.star_values.specs.declared.value.NamedValue.{NamedValue}

-- a name was passed
abbrev pub is_passed : {S : Type 0} → HashSet (Bor (List ℕ)) S → Name → Bool
is_passed s x = contains_by (λ k. bytes_eq x k.now) s

-- the name of one of these passes
abbrev pub some_named : (Name → Bool) → Fields → Bool
some_named test no_fields = false
some_named test (a_field x v fs) = test x || some_named test fs

-- two of these have one name, or one has a name that was passed
abbrev pub twice_or_passed : (Name → Bool) → Fields → Bool
twice_or_passed test fs = has_twice fs || some_named test fs

none_named_so : (test : Name → Bool) → ((x : Name) → test x ≡ false) → (fs : Fields) → some_named test fs ≡ false
none_named_so test h no_fields = refl
none_named_so test h (a_field x v fs) = ap (λ b. b || some_named test fs) (h x) ∙ none_named_so test h fs

or_false : (b : Bool) → b ≡ (b || false)
or_false true = refl
or_false false = refl

-- none was passed
pub none_passed : {S : Type 0} (s : HashSet (Bor (List ℕ)) S) (fs : Fields) → IsEmpty s → has_twice fs ≡ twice_or_passed (is_passed s) fs
none_passed s fs e = or_false (has_twice fs) ∙ ap (λ b. has_twice fs || b) (sym (none_named_so (is_passed s) (λ x. ap (list_any (λ k. bytes_eq x k.now)) e) fs))

-- one more was passed
together : (a b c d : Bool) → (cond a true b || (c || d)) ≡ ((a || c) || (b || d))
together true b c d = refl
together false true true d = refl
together false true false d = refl
together false false c d = refl

one_more_passed : (old new : Name → Bool) (y : Name) → ((x : Name) → new x ≡ cond (bytes_eq y x) true (old x)) → (fs : Fields) → some_named new fs ≡ (has_field y fs || some_named old fs)
one_more_passed old new y h no_fields = refl
one_more_passed old new y h (a_field x v fs) =
    ap (λ b. b || some_named new fs) (h x)
    ∙ ap (λ b. cond (bytes_eq y x) true (old x) || b) (one_more_passed old new y h fs)
    ∙ together (bytes_eq y x) (old x) (has_field y fs) (some_named old fs)

moved : (a b d : Bool) → ((a || b) || d) ≡ (b || (a || d))
moved true true d = refl
moved true false d = refl
moved false b d = refl

-- the names of the set, and one that is put in
put_in : {S : Type 0} (old new : HashSet (Bor (List ℕ)) S) (y : Bor (List ℕ)) → Updates (λ x y. bytes_eq x.now y.now) old new y true → (x : Name) → is_passed new x ≡ cond (bytes_eq y.now x) true (is_passed old x)
put_in old new y h x = h.0 (record { ref_ptr = (0, 0); now = x })

module _ {S : Type 0} (held : List plain.Value) (old : HashSet (Bor (List ℕ)) S) (y : Bor (List ℕ)) (f : NamedValue) (fs rest : List NamedValue) (e : rest ≡ f ∷ fs) (n : y.now ≡ f.name) where
  first_left : (b : Bool) → is_passed old y.now ≡ b → twice_or_passed (is_passed old) (fields_in held rest) ≡ ((has_field y.now (fields_in held fs) || has_twice (fields_in held fs)) || (b || some_named (is_passed old) (fields_in held fs)))
  first_left b h =
      ap (λ r. twice_or_passed (is_passed old) (fields_in held r)) e
      ∙ ap (λ x. (has_field x (fields_in held fs) || has_twice (fields_in held fs)) || (is_passed old x || some_named (is_passed old) (fields_in held fs))) (sym n)
      ∙ ap (λ b. (has_field y.now (fields_in held fs) || has_twice (fields_in held fs)) || (b || some_named (is_passed old) (fields_in held fs))) h

  -- it has none, and is passed
  pub passed_now : (new : HashSet (Bor (List ℕ)) S) → is_passed old y.now ≡ false → Updates (λ x y. bytes_eq x.now y.now) old new y true → twice_or_passed (is_passed old) (fields_in held rest) ≡ twice_or_passed (is_passed new) (fields_in held fs)
  passed_now new h u =
      first_left false h
      ∙ moved (has_field y.now (fields_in held fs)) (has_twice (fields_in held fs)) (some_named (is_passed old) (fields_in held fs))
      ∙ ap (λ b. has_twice (fields_in held fs) || b) (sym (one_more_passed (is_passed old) (is_passed new) y.now (put_in old new y u) (fields_in held fs)))

-- a name that was put in is new
pub is_new : (added was : Bool) → added ≡ not was → added ≡ true → was ≡ false
is_new added true e h = sym h ∙ e
is_new added false e h = refl
