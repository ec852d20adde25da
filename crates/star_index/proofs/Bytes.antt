-- The bytes that are picked at the places of a slice.
use Rattle.star_steps.proofs.Names.{◌≡◌, ℕ, suc, ◌+◌, ◌-◌, ◌<◌, true, false, ℤ, pos, ◌+ℤ◌, ◌*ℤ◌, List, [], ◌++◌, drop, take, if◌then◌else◌, refl, sym, ap, ◌∙◌, add-one, arith, append_assoc, append-nil, Place, fault_at, at_least_zero, State, Ending, done, bad, asks, fail, give, then_do, then_give, ◌>>=◌, cut_text, is_whole, same_integer, Places, bytes_cut, picked_bytes, place_count}
use Rattle.ytt_base.specs.declared.fault.FaultKind.TheVariants as kind
use Rattle.star_index.specs.Cuts.{place_at}
use Rattle.star_integers.proofs.Progressions.{first_number, further_on}

-- what is picked at so many places is these bytes, and what is picked at those that are left
abbrev pub BytesSoFar : List ℕ → (count : ℕ) → (first step : ℤ) → (bytes : List ℕ) → (number : ℕ) → Type 0
BytesSoFar t n z step bytes i = (p : Place) (s : State (Unit {0})) → picked_bytes p t n z step s ≡ then_do (picked_bytes p t (n - i) (z +ℤ (pos i *ℤ step)) step s) (λ more. give (bytes ++ more))

regroup : (front c : List ℕ) (o : Ending (Unit {0}) (List ℕ)) → then_do (then_do o (λ more. give (c ++ more))) (λ more. give (front ++ more)) ≡ then_do o (λ more. give ((front ++ c) ++ more))
regroup front c (done more s) = ap (λ l. done l s) (sym (append_assoc front c more))
regroup front c (bad e s) = refl
regroup front c (asks q s k) = λ i. asks q s (λ got t. regroup front c (k got t) i)

none_less : (n : ℕ) → n ≡ n - 0
none_less n = omega arith

-- nothing is picked yet
pub bytes_begin : (t bytes : List ℕ) (n : ℕ) (z step : ℤ) → bytes ≡ [] → BytesSoFar t n z step bytes 0
bytes_begin t bytes n z step e p s =
    then_give (picked_bytes p t n z step s) ∙ (λ i. then_do (picked_bytes p t (none_less n i) (first_number z step i) step s) (λ more. give (sym e i ++ more)))

more_left : (n i : ℕ) → i < n → n - i ≡ suc (n - (i + 1))
more_left n i h = omega arith

-- a byte that is a whole character, and those behind it
one_more : (p : Place) (t : List ℕ) (m a : ℕ) (z step : ℤ) (s : State (Unit {0})) → a ≡ at_least_zero z → is_whole t a (suc a) ≡ true →
    picked_bytes p t (suc m) z step s ≡ then_do (picked_bytes p t m (z +ℤ step) step s) (λ more. give (drop a (take (suc a) t) ++ more))
one_more p t m a z step s e h =
    ap (λ a. then_do (cut_text p t a (suc a) s) (λ c. picked_bytes p t m (z +ℤ step) step >>= λ more. give (c ++ more))) (sym e)
    ∙ ap (λ b. then_do ((if b then give (drop a (take (suc a) t)) else fail kind.CutsCharacter p) s) (λ c. picked_bytes p t m (z +ℤ step) step >>= λ more. give (c ++ more))) h

none_more : (p : Place) (t : List ℕ) (m a : ℕ) (z step : ℤ) (s : State (Unit {0})) → a ≡ at_least_zero z → is_whole t a (suc a) ≡ false → picked_bytes p t (suc m) z step s ≡ bad (fault_at kind.CutsCharacter p) s
none_more p t m a z step s e h =
    ap (λ a. then_do (cut_text p t a (suc a) s) (λ c. picked_bytes p t m (z +ℤ step) step >>= λ more. give (c ++ more))) (sym e)
    ∙ ap (λ b. then_do ((if b then give (drop a (take (suc a) t)) else fail kind.CutsCharacter p) s) (λ c. picked_bytes p t m (z +ℤ step) step >>= λ more. give (c ++ more))) h

pub bytes_next : (t bytes : List ℕ) (n : ℕ) (z step : ℤ) (i a : ℕ) → i < n → BytesSoFar t n z step bytes i → a ≡ at_least_zero (z +ℤ (pos i *ℤ step)) → is_whole t a (a + 1) ≡ true → BytesSoFar t n z step (bytes ++ drop a (take (a + 1) t)) (i + 1)
bytes_next t bytes n z step i a below so_far e h p s =
    let one : suc a ≡ a + 1 = sym (add-one a) in
    let whole : is_whole t a (suc a) ≡ true = ap (is_whole t a) one ∙ h in
    so_far p s
    ∙ ap (λ m. then_do (picked_bytes p t m (z +ℤ (pos i *ℤ step)) step s) (λ more. give (bytes ++ more))) (more_left n i below)
    ∙ ap (λ o. then_do o (λ more. give (bytes ++ more))) (one_more p t (n - (i + 1)) a (z +ℤ (pos i *ℤ step)) step s e whole)
    ∙ regroup bytes (drop a (take (suc a) t)) (picked_bytes p t (n - (i + 1)) ((z +ℤ (pos i *ℤ step)) +ℤ step) step s)
    ∙ ap (λ y. then_do (picked_bytes p t (n - (i + 1)) y step s) (λ more. give ((bytes ++ drop a (take (suc a) t)) ++ more))) (further_on z step i)
    ∙ ap (λ b. then_do (picked_bytes p t (n - (i + 1)) (z +ℤ (pos (i + 1) *ℤ step)) step s) (λ more. give ((bytes ++ drop a (take b t)) ++ more))) one

pub bytes_refused : (t bytes : List ℕ) (n : ℕ) (z step : ℤ) (i a : ℕ) → i < n → BytesSoFar t n z step bytes i → a ≡ at_least_zero (z +ℤ (pos i *ℤ step)) → is_whole t a (a + 1) ≡ false → (p : Place) (s : State (Unit {0})) → picked_bytes p t n z step s ≡ bad (fault_at kind.CutsCharacter p) s
bytes_refused t bytes n z step i a below so_far e h p s =
    so_far p s
    ∙ ap (λ m. then_do (picked_bytes p t m (z +ℤ (pos i *ℤ step)) step s) (λ more. give (bytes ++ more))) (more_left n i below)
    ∙ ap (λ o. then_do o (λ more. give (bytes ++ more))) (none_more p t (n - (i + 1)) a (z +ℤ (pos i *ℤ step)) step s e (ap (is_whole t a) (sym (add-one a)) ∙ h))

pub bytes_done : (t bytes : List ℕ) (n : ℕ) (z step : ℤ) → BytesSoFar t n z step bytes n → (p : Place) (s : State (Unit {0})) → picked_bytes p t n z step s ≡ done bytes s
bytes_done t bytes n z step h p s = h p s ∙ ap (λ m. then_do (picked_bytes p t m (z +ℤ (pos n *ℤ step)) step s) (λ more. give (bytes ++ more))) (none n) ∙ ap (λ l. done l s) (append-nil bytes) where
  none : (n : ℕ) → n - n ≡ 0
  none n = omega arith

-- one after another they are cut as a whole
pub cut_at_once : (p : Place) (t : List ℕ) (q : Places) (a n : ℕ) (s : State (Unit {0})) → q.step ≡ pos 1 → a ≡ at_least_zero (place_at q 0) → n ≡ place_count q → bytes_cut p t q s ≡ cut_text p t a (a + n) s
cut_at_once p t q a n s one e f =
    let first : at_least_zero q.first ≡ a = ap at_least_zero (first_number q.first q.step) ∙ sym e in
    ap (λ z. (if same_integer z (pos 1) then cut_text p t (at_least_zero q.first) (at_least_zero q.first + place_count q) else picked_bytes p t (place_count q) q.first q.step) s) one
    ∙ ap (λ a. cut_text p t a (a + place_count q) s) first
    ∙ ap (λ n. cut_text p t a (a + n) s) (sym f)
