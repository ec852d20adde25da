-- A set of the characters that were passed.
use Rattle.std.proofs.Common.{◌≡◌, ℕ, Bool, true, false, ◌||◌, cond, List, [], ◌∷◌, IsUtf8, bytes_eq, refl, sym, ap, subst, ◌∙◌}
use Rattle.std.specs.Borrow.{Bor}
use Rattle.std.specs.Cmp.Lexicographic.{nat_list_eq_equiv}
use Rattle.std.specs.HashSet.{HashSet, IsEmpty, Updates}
use Rattle.std.specs.List.{AllByRecursion, list_any}
use Rattle.text_words.specs.Strips.{HasAll, HasMore, has, is_among}

-- with those that are left it has all
pub record HasPassed {S : Type 0} (set : HashSet (Bor (List ℕ)) S) (left all : List (List ℕ)) : Type 0 where
  pub utf8 : AllByRecursion IsUtf8 left → AllByRecursion IsUtf8 all
  pub among : (x : List ℕ) → (has set x || is_among left x) ≡ is_among all x

pub none_passed : {S : Type 0} (set : HashSet (Bor (List ℕ)) S) (all : List (List ℕ)) → IsEmpty set → HasPassed set all all
none_passed set all e = record { utf8 = λ h. h; among = λ x. ap (λ ks. list_any (λ k. bytes_eq x k.now) ks || is_among all x) e }

first_or : (b : Bool) → (c : Bool) → cond b true c ≡ (b || c)
first_or true c = refl
first_or false c = refl

-- what a call of `insert` puts in
pub more : {S : Type 0} (old new : HashSet (Bor (List ℕ)) S) (y : Bor (List ℕ)) → Updates (λ x y. bytes_eq x.now y.now) old new y true → HasMore old y.now new
more old new y update x = update.0 (record { ref_ptr = (0, 0); now = x }) ∙ first_or (bytes_eq y.now x) (has old x) ∙ ap (λ v. v || has old x) (nat_list_eq_equiv.symm y.now x)

moved : (a b c : Bool) → ((a || b) || c) ≡ (b || (a || c))
moved true true c = refl
moved true false c = refl
moved false b c = refl

pub one_passed : {S : Type 0} (old new : HashSet (Bor (List ℕ)) S) (y : List ℕ) (left more all : List (List ℕ)) → HasPassed old left all → left ≡ y ∷ more → IsUtf8 y → HasMore old y new → HasPassed new more all
one_passed old new y left more all h e u put = record {
  utf8 = λ rest. h.utf8 (subst (AllByRecursion IsUtf8) (sym e) (u, rest));
  among = λ x.
      ap (λ v. v || is_among more x) (put x)
      ∙ moved (bytes_eq x y) (has old x) (is_among more x)
      ∙ ap (λ l. has old x || is_among l x) (sym e)
      ∙ h.among x;
}

or_false : (b : Bool) → b ≡ (b || false)
or_false true = refl
or_false false = refl

pub all_passed : {S : Type 0} (set : HashSet (Bor (List ℕ)) S) (left all : List (List ℕ)) → HasPassed set left all → left ≡ [] → HasAll set all
all_passed set left all h e = (
  h.utf8 (subst (AllByRecursion IsUtf8) (sym e) tt),
  λ x. or_false (has set x) ∙ ap (λ l. has set x || is_among l x) (sym e) ∙ h.among x,
)
