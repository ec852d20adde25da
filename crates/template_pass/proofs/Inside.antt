-- More on collections that an item is in, and tests on paths.
use Rattle.std.proofs.Common.{◌≡◌, ℕ, ◌<◌, Bool, true, false, [], ◌∷◌, ◌++◌, length, bytes_eq, ◌⊎◌, inl, inr, refl, sym, ◌∙◌, ap, arith}
use Rattle.std.proofs.lemmas.Slice.Eq.{bytes_eq-Decides}
use Rattle.template_spec.specs.Events.{Path}
use Rattle.template_pass.proofs.Paths.{In}

pub inside_more : (n : ℕ) (p c : Path) → In p c → In (n ∷ p) c
inside_more n p c i = (n ∷ i.0, ap (λ (x : Path). n ∷ x) i.1)

inside_by : (n : ℕ) (p c e : Path) → n ∷ p ≡ e ++ c → (c ≡ n ∷ p) ⊎ In p c
inside_by n p c [] h = inl (sym h)
inside_by n p c (m ∷ e) h = inr (e, cc h)

pub inside_split : (n : ℕ) (p c : Path) → In (n ∷ p) c → (c ≡ n ∷ p) ⊎ In p c
inside_split n p c i = inside_by n p c i.0 i.1

pub inside_at : (p c d : Path) → d ≡ c → In p c → In p d
inside_at p c d e i = rw e i

-- one further in lies in an item of the outer one
pub inside_item : (c d : Path) → In c d → length d < length c → (m : ℕ) × In c (m ∷ d)
inside_item c d i l = by i.0 i.1
  where
    within : (m : ℕ) (e : Path) → (n : ℕ) × (f : Path) × (m ∷ e ++ d ≡ f ++ n ∷ d)
    within m [] = (m, [], refl)
    within m (k ∷ e) = let r = within k e in (r.0, m ∷ r.1, ap (λ (x : Path). m ∷ x) r.2)

    by : (e : Path) → c ≡ e ++ d → (m : ℕ) × In c (m ∷ d)
    by [] h = let s : length c ≡ length d = ap length h in absurd (omega (arith, s, l))
    by (m ∷ e) h = let r = within m e in (r.0, (r.1, h ∙ r.2))

-- ---- tests on paths

pub same_path : (p q : Path) → bytes_eq p q ≡ true → p ≡ q
same_path p q = (bytes_eq-Decides p q).0

pub path_same : (p q : Path) → p ≡ q → bytes_eq p q ≡ true
path_same p q = (bytes_eq-Decides p q).1

pub path_cases : (p q : Path) → (p ≡ q) ⊎ (p ≡ q → ⊥)
path_cases p q = by (bytes_eq p q) refl
  where
    by : (b : Bool) → bytes_eq p q ≡ b → (p ≡ q) ⊎ (p ≡ q → ⊥)
    by true e = inl (same_path p q e)
    by false e = inr (λ s. let t : bytes_eq p q ≡ true = path_same p q s in cc (e, t))

pub path_other : (p q : Path) → (p ≡ q → ⊥) → bytes_eq p q ≡ false
path_other p q h = by (bytes_eq p q) refl
  where
    by : (b : Bool) → bytes_eq p q ≡ b → bytes_eq p q ≡ false
    by true e = absurd (h (same_path p q e))
    by false e = e

pub same_either_way : (p q : Path) → bytes_eq p q ≡ bytes_eq q p
same_either_way p q = by (path_cases p q)
  where
    by : (p ≡ q) ⊎ (p ≡ q → ⊥) → bytes_eq p q ≡ bytes_eq q p
    by (inl e) = path_same p q e ∙ sym (path_same q p (sym e))
    by (inr h) = path_other p q h ∙ sym (path_other q p (λ e. h (sym e)))
