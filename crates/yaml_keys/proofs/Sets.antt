-- A key that is added to a set of keys.
use Rattle.std.proofs.Common.{◌≡◌, ℤ, pos, negsuc, ℕ, Bool, true, false, ◌||◌, cond, List, Global, String, refl, sym, ◌∙◌, ap}
use Rattle.std.specs.HashSet.{HashSet, contains, contains_text}
use Rattle.std.specs.Ordering.{int_eq}
use Rattle.std.specs.Prelude.{bytes_eq}
use Rattle.std.specs.Bool.{Decides}
use Rattle.std.proofs.lemmas.Bool.Decides.{Decides-like, Decides-eqb, Decides-int_eq, same_from_decides}
use Rattle.ytt_base.specs.Trees.{Scalar, null, boolean, integer, string, same_key, same_integer}
use Rattle.ytt_laws.proofs.Lists.{bytes_eq-sym}
use Rattle.yaml_keys.specs.declared.seen.Kinds.{Kinds}
use Rattle.yaml_keys.specs.Seen.{is_among}

abbrev magnitude : ℤ → ℕ
magnitude (pos n) = n
magnitude (negsuc n) = n

decides_integer : (x y : ℤ) → Decides (same_integer x y) (x ≡ y)
decides_integer (pos m) (pos n) = Decides-like (same_integer (pos m) (pos n)) (λ e. ap (λ k. pos k) e) (λ e. ap magnitude e) (Decides-eqb m n)
decides_integer (negsuc m) (negsuc n) = Decides-like (same_integer (negsuc m) (negsuc n)) (λ e. ap (λ k. negsuc k) e) (λ e. ap magnitude e) (Decides-eqb m n)
decides_integer (pos m) (negsuc n) = (λ e. cc, λ e. cc)
decides_integer (negsuc m) (pos n) = (λ e. cc, λ e. cc)

same_number : (x y : ℤ) → int_eq x y ≡ same_integer y x
same_number x y = same_from_decides (int_eq x y) (same_integer y x) (Decides-int_eq x y) (Decides-like (same_integer y x) sym sym (decides_integer y x))

either : (b c x : Bool) → b ≡ c → cond b true x ≡ (c || x)
either true c x e = rw (← e) refl
either false c x e = rw (← e) refl

-- by what the set of texts is then, and by what that of integers is
pub text_added : (s : Kinds) (t : List ℕ) (n : HashSet (String Global) _) → ((u : List ℕ) → contains_text n u ≡ cond (bytes_eq t u) true (contains_text s.texts u))
    → (other : Scalar) → is_among other (record s { texts = n }) ≡ (same_key other (string t) || is_among other s)
text_added s t n h null = refl
text_added s t n h (boolean b) = refl
text_added s t n h (integer z) = refl
text_added s t n h (string u) = h u ∙ either (bytes_eq t u) (bytes_eq u t) (contains_text s.texts u) (bytes_eq-sym t u)

pub integer_added : (s : Kinds) (z : ℤ) (n : HashSet ℤ _) → ((y : ℤ) → contains int_eq n y ≡ cond (int_eq z y) true (contains int_eq s.integers y))
    → (other : Scalar) → is_among other (record s { integers = n }) ≡ (same_key other (integer z) || is_among other s)
integer_added s z n h null = refl
integer_added s z n h (boolean b) = refl
integer_added s z n h (string u) = refl
integer_added s z n h (integer y) = h y ∙ either (int_eq z y) (same_integer y z) (contains int_eq s.integers y) (same_number z y)
