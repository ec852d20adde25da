-- Keys that are the same.
use Rattle.std.proofs.Common.{◌≡◌, ◌==◌, ℕ, pos, negsuc, true, false, refl, sym}
use Rattle.std.proofs.lemmas.Bool.Decides.{Decides-eqb, Decides-like, same_from_decides}
use Rattle.ytt_base.specs.Trees.{Scalar, null, boolean, integer, string, same_key}
use Rattle.ytt_laws.proofs.Lists.{bytes_eq-sym}

same_number : (a b : ℕ) → (a == b) ≡ (b == a)
same_number a b = same_from_decides (a == b) (b == a) (Decides-eqb a b) (Decides-like (b == a) sym sym (Decides-eqb b a))

-- whichever of two keys is asked of the other
pub same_key-sym : (a b : Scalar) → same_key a b ≡ same_key b a
same_key-sym null null = refl
same_key-sym (boolean true) (boolean true) = refl
same_key-sym (boolean true) (boolean false) = refl
same_key-sym (boolean false) (boolean true) = refl
same_key-sym (boolean false) (boolean false) = refl
same_key-sym (integer (pos m)) (integer (pos n)) = same_number m n
same_key-sym (integer (negsuc m)) (integer (negsuc n)) = same_number m n
same_key-sym (integer (pos m)) (integer (negsuc n)) = refl
same_key-sym (integer (negsuc m)) (integer (pos n)) = refl
same_key-sym (string a) (string b) = bytes_eq-sym a b
same_key-sym null (boolean b) = refl
same_key-sym null (integer b) = refl
same_key-sym null (string b) = refl
same_key-sym (boolean b) null = refl
same_key-sym (boolean a) (integer b) = refl
same_key-sym (boolean a) (string b) = refl
same_key-sym (integer b) null = refl
same_key-sym (integer a) (boolean b) = refl
same_key-sym (integer a) (string b) = refl
same_key-sym (string b) null = refl
same_key-sym (string a) (boolean b) = refl
same_key-sym (string a) (integer b) = refl
