-- The earliest fault of two lists in a row.
use Rattle.std.proofs.Common.{◌≡◌, ℕ, Bool, true, false, if◌then◌else◌, List, [], ◌∷◌, ◌++◌, Some, refl, ap, ◌∙◌, arith}
use Rattle.std.specs.Prelude.{nat_lt, ◌==◌}
use Rattle.std.specs.List.{list_any}
use Rattle.std.proofs.lemmas.Bool.Decides.{nat_tests}
use Rattle.ytt_base.specs.declared.fault.Fault.{Fault}
use Rattle.template_spec.specs.Misplaced.{earliest, least, line_of, Returned, return_faults}
use Rattle.template_checks.specs.Walk.{earlier, flag, flagged_faults}

abbrev lesser : Fault → Fault → Fault
lesser f g = if nat_lt (line_of g) (line_of f) then g else f

before_both : (a b c : ℕ) → nat_lt b a ≡ true → nat_lt c b ≡ true → nat_lt c a ≡ false → ⊥
before_both a b c p q r = grind (arith, nat_tests)

behind_both : (a b c : ℕ) → nat_lt b a ≡ false → nat_lt c b ≡ false → nat_lt c a ≡ true → ⊥
behind_both a b c p q r = grind (arith, nat_tests)

lesser_cases : (f y m : Fault) (p q r : Bool) → nat_lt (line_of y) (line_of f) ≡ p → nat_lt (line_of m) (line_of y) ≡ q → nat_lt (line_of m) (line_of f) ≡ r
    → (if nat_lt (line_of y) (line_of f) then lesser y m else lesser f m) ≡ lesser f (lesser y m)
lesser_cases f y m true true true d e h = rw (e, d, h) refl
lesser_cases f y m true true false d e h = absurd (before_both (line_of f) (line_of y) (line_of m) d e h)
lesser_cases f y m true false r d e h = rw (e, d) refl
lesser_cases f y m false true r d e h = rw (e, d) refl
lesser_cases f y m false false true d e h = absurd (behind_both (line_of f) (line_of y) (line_of m) d e h)
lesser_cases f y m false false false d e h = rw (e, d, h) refl

-- the lesser of two is the lesser of the first and the lesser of the others
lesser_lines : (f y m : Fault) → (if nat_lt (line_of y) (line_of f) then lesser y m else lesser f m) ≡ lesser f (lesser y m)
lesser_lines f y m = lesser_cases f y m (nat_lt (line_of y) (line_of f)) (nat_lt (line_of m) (line_of y)) (nat_lt (line_of m) (line_of f)) refl refl refl

least_more : (f y : Fault) (ys : List Fault) → least f (y ∷ ys) ≡ lesser f (least y ys)
least_more f y [] = refl
least_more f y (z ∷ zs) = rw (least_more y z zs, least_more f z zs) (lesser_lines f y (least z zs))

one_of : (t : Bool) (f g : Fault) → Some (if t then g else f) ≡ (if t then Some g else Some f)
one_of true f g = refl
one_of false f g = refl

least_step : (t : Bool) (f x : Fault) (xs ys : List Fault) → earliest (x ∷ (xs ++ ys)) ≡ earlier (earliest (x ∷ xs)) (earliest ys) → earliest (f ∷ (xs ++ ys)) ≡ earlier (earliest (f ∷ xs)) (earliest ys)
    → Some (if t then least x (xs ++ ys) else least f (xs ++ ys)) ≡ earlier (Some (if t then least x xs else least f xs)) (earliest ys)
least_step true f x xs ys e h = e
least_step false f x xs ys e h = h

least_append : (f : Fault) (xs ys : List Fault) → earliest (f ∷ (xs ++ ys)) ≡ earlier (earliest (f ∷ xs)) (earliest ys)
least_append f [] [] = refl
least_append f [] (y ∷ ys) = ap (λ (g : Fault). Some g) (least_more f y ys) ∙ one_of (nat_lt (line_of (least y ys)) (line_of f)) f (least y ys)
least_append f (x ∷ xs) ys = least_step (nat_lt (line_of x) (line_of f)) f x xs ys (least_append x xs ys) (least_append f xs ys)

-- the earliest of two lists is the earlier of the earliest of each
pub earliest_append : (xs ys : List Fault) → earliest (xs ++ ys) ≡ earlier (earliest xs) (earliest ys)
earliest_append [] ys = refl
earliest_append (x ∷ xs) ys = least_append x xs ys

-- ---- returns

-- the flags are those of the numbers
pub returns_flagged : (flags : List Bool) (hs : List ℕ) (rs : List Returned) → ((k : ℕ) → flag flags k ≡ list_any (λ h. h == k) hs) → return_faults hs rs ≡ flagged_faults flags rs
returns_flagged flags hs [] e = refl
returns_flagged flags hs (r ∷ rs) e = rw (e r.within, returns_flagged flags hs rs e) refl
