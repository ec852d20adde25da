-- Paths and collections: what lies in what, and that the collections that one item is in are known by their lengths.
use Rattle.std.proofs.Common.{◌≡◌, ℕ, suc, ◌+◌, ◌-◌, ◌≤◌, Bool, true, false, not, ◌==◌, nat_lt, [], ◌∷◌, ◌++◌, length, drop, take, bytes_eq, refl, sym, ◌∙◌, ap, arith, Decides}
use Rattle.std.specs.Bool.{IsTrue}
use Rattle.std.proofs.Math.Seq.{drop-append_seam}
use Rattle.std.proofs.lemmas.Bool.{le-ltb, ltb-false}
use Rattle.std.proofs.lemmas.Bool.Decides.{Decides-like, Decides-eqb, same_from_decides}
use Rattle.std.proofs.lemmas.List.{take-append-drop, length-append, append_assoc}
use Rattle.std.proofs.lemmas.Slice.Eq.{bytes_eq-Decides}
use Rattle.template_spec.specs.Events.{Path}
use Rattle.template_spec.specs.OpenBlocks.{collection_of, lies_in}
use Rattle.template_pass.specs.Levels.{at_most}

-- a path is the other one, or lies below it
abbrev pub In : (inner outer : Path) → Type 0
In p c = (e : Path) × (p ≡ e ++ c)

pub in_itself : (p : Path) → In p p
in_itself p = ([], refl)

pub in_through : (p q c : Path) → In p q → In q c → In p c
in_through p q c h k = (h.0 ++ k.0, h.1 ∙ ap (λ x. h.0 ++ x) k.1 ∙ sym (append_assoc h.0 k.0 c))

pub in_below : (n : ℕ) (p c : Path) → In p (n ∷ c) → In p c
in_below n p c h = in_through p (n ∷ c) c h (n ∷ [], refl)

pub in_collection : (p : Path) → In p (collection_of p)
in_collection [] = ([], refl)
in_collection (n ∷ c) = (n ∷ [], refl)

pub in_length : (p c : Path) → In p c → length c ≤ length p
in_length p c h =
    let e : length p ≡ length h.0 + length c = ap length h.1 ∙ length-append h.0 c in
    omega (arith, e)

-- ---- the test

lies_below : (e c : Path) → IsTrue (lies_in (e ++ c) c)
lies_below e c =
    let n : length (e ++ c) - length c ≡ length e = let l : length (e ++ c) ≡ length e + length c = length-append e c in omega (arith, l) in
    (bytes_eq-Decides c (drop (length (e ++ c) - length c) (e ++ c))).1 (rw n (sym (drop-append_seam e c)))

pub lies : (p c : Path) → In p c → IsTrue (lies_in p c)
lies p c h = rw h.1 (lies_below h.0 c)

pub lain : (p c : Path) → IsTrue (lies_in p c) → In p c
lain p c h =
    let e : c ≡ drop (length p - length c) p = (bytes_eq-Decides c (drop (length p - length c) p)).0 h in
    (take (length p - length c) p, sym (take-append-drop (length p - length c) p) ∙ ap (λ x. take (length p - length c) p ++ x) (sym e))

pub lies_in-Decides : (p c : Path) → Decides (lies_in p c) (In p c)
lies_in-Decides p c = (lain p c, lies p c)

-- ---- collections that one item is in

tail_same : (n m : ℕ) (p q : Path) → n ∷ p ≡ m ∷ q → p ≡ q
tail_same n m p q e = ap (drop 1) e

too_long : (n : ℕ) (e c d : Path) → length d ≤ length c → d ≡ n ∷ e ++ c → ⊥
too_long n e c d le h =
    let l : length d ≡ suc (length e + length c) = ap length h ∙ ap suc (length-append e c) in
    omega (arith, l, le)

in_by_length_at : (q c d e f : Path) → q ≡ e ++ c → q ≡ f ++ d → length d ≤ length c → In c d
in_by_length_at q c d [] f h k le = (f, sym h ∙ k)
in_by_length_at q c d (n ∷ e) [] h k le = absurd (too_long n e c d le (sym k ∙ h))
in_by_length_at q c d (n ∷ e) (m ∷ f) h k le = in_by_length_at (e ++ c) c d e f refl (tail_same n m (e ++ c) (f ++ d) (sym h ∙ k)) le

pub in_by_length : (q c d : Path) → In q c → In q d → length d ≤ length c → In c d
in_by_length q c d h k le = in_by_length_at q c d h.0 k.0 h.1 k.1 le

same_at : (c d e : Path) → c ≡ e ++ d → length c ≡ length d → c ≡ d
same_at c d [] h l = h
same_at c d (n ∷ e) h l = absurd (too_long n e d c (omega (arith, l)) h)

pub same_by_length : (q c d : Path) → In q c → In q d → length c ≡ length d → c ≡ d
same_by_length q c d h k l = let i : In c d = in_by_length q c d h k (omega (arith, l)) in same_at c d i.0 i.1 l

at_most-Decides : (m n : ℕ) → Decides (at_most m n) (m ≤ n)
at_most-Decides m n = by_test (nat_lt n m) refl
  where
    by_test : (b : Bool) → nat_lt n m ≡ b → Decides (not b) (m ≤ n)
    by_test true e = (λ h. cc, λ h. let l : nat_lt n m ≡ false = le-ltb n m h in cc)
    by_test false e = (λ h. ltb-false n m e, λ h. refl)

pub lies_by_length : (q c d : Path) → In q c → In q d → lies_in c d ≡ at_most (length d) (length c)
lies_by_length q c d h k =
    same_from_decides (lies_in c d) (at_most (length d) (length c)) (lies_in-Decides c d)
    (Decides-like (at_most (length d) (length c)) (in_by_length q c d h k) (in_length c d) (at_most-Decides (length d) (length c)))

pub equal_by_length : (q c d : Path) → In q c → In q d → bytes_eq c d ≡ (length c == length d)
equal_by_length q c d h k =
    same_from_decides (bytes_eq c d) (length c == length d) (bytes_eq-Decides c d)
    (Decides-like (length c == length d) (same_by_length q c d h k) (ap length) (Decides-eqb (length c) (length d)))
