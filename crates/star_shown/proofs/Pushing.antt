-- What is put behind what is shown, piece by piece, is the whole text behind it.
use Rattle.star_steps.proofs.Names.{◌≡◌, ℕ, List, [], ◌∷◌, ◌++◌, map as each, codes, refl, sym, ap, ◌∙◌, append-nil, append_assoc, length, Place, State, Ending, done, bad, asks, give, paid, paid_by, take_steps, text_cost, then_do, then_assoc, then_ext, then_give, ◌>>=◌}
use Rattle.code_spec.specs.Code.{Name}
use Rattle.value_spec.specs.Values as plain
use Rattle.text_spec.specs.Shown.{all_shown, field_shown, more_shown, pair_shown, within}
use Rattle.star_shown.specs.Pushes.{Push, Texts, all_pushed, behind, field_pushed, more_pushed, pair_pushed, pushed_within, showing, value_pushed}

abbrev S : Type 0
S = State (Unit {0})

abbrev T : Type 0
T = List ℕ

-- a text behind nothing
pub shown_alone : (m : Texts) (s : S) (front : T) → front ≡ [] → m s ≡ behind front m s
shown_alone m s front e = then_give (m s) ∙ (λ i. behind (sym e i) m s)

-- one text behind pieces
pub one_behind : (front first : T) (whole : T → T) (m : Texts) (s : S) → ((t : T) → first ++ t ≡ front ++ whole t) → behind first m s ≡ behind front (m >>= λ t. give (whole t)) s
one_behind front first whole m s same = by (m s) where
  by : (o : Ending (Unit {0}) T) → then_do o (λ t. give (first ++ t)) ≡ then_do (then_do o (λ t. give (whole t))) (λ x. give (front ++ x))
  by (done t r) = ap (λ x. done x r) (same t)
  by (bad f r) = refl
  by (asks q r k) = λ i. asks q r (λ got u. by (k got u) i)

-- two texts, with pieces before them and between them
two_behind : (front first : T) (after : T → T) (whole : T → T → T) (m k : Texts) (s : S) → ((t u : T) → after (first ++ t) ++ u ≡ front ++ whole t u) →
    (behind first m >>= λ l. behind (after l) k) s ≡ behind front (m >>= λ t. k >>= λ u. give (whole t u)) s
two_behind front first after whole m k s same = by (m s) where
  last : (t : T) (o : Ending (Unit {0}) T) → then_do o (λ u. give (after (first ++ t) ++ u)) ≡ then_do (then_do o (λ u. give (whole t u))) (λ x. give (front ++ x))
  last t (done u r) = ap (λ x. done x r) (same t u)
  last t (bad f r) = refl
  last t (asks q r n) = λ i. asks q r (λ got u. last t (n got u) i)

  by : (o : Ending (Unit {0}) T) → then_do (then_do o (λ t. give (first ++ t))) (λ l. behind (after l) k) ≡ then_do (then_do o (λ t. k >>= λ u. give (whole t u))) (λ x. give (front ++ x))
  by (done t r) = last t (k r)
  by (bad f r) = refl
  by (asks q r n) = λ i. asks q r (λ got u. by (n got u) i)

-- after steps
paid_behind : (n : ℕ) (p : Place) (front : T) (m k : Texts) (s : S) → ((t : S) → k t ≡ behind front m t) → paid_by n p k s ≡ behind front (paid_by n p m) s
paid_behind n p front m k s same = then_ext (take_steps n p s) (λ u. k) (λ u. behind front m) (λ u t. same t) ∙ sym (then_assoc (take_steps n p s) (λ u. m) (λ t. give (front ++ t)))

-- ---- members

pub value_same : (n : ℕ) (p : Place) (v : plain.Value) (front : T) (s : S) → value_pushed n p v front s ≡ behind front (paid p (showing n p v)) s
value_same n p v front s = paid_behind 1 p front (showing n p v) (behind front (showing n p v)) s (λ t. refl)

pub pair_same : (n : ℕ) (p : Place) (q : plain.Value × plain.Value) (front : T) (s : S) → pair_pushed n p q front s ≡ behind front (pair_shown (showing n p) p q) s
pair_same n p q front s =
    let whole = λ (k : T) (v : T). k ++ (codes ": " ++ v) in
    paid_behind 1 p front (showing n p q.0 >>= λ k. showing n p q.1 >>= λ v. give (whole k v)) (behind front (showing n p q.0) >>= λ l. behind (l ++ codes ": ") (showing n p q.1)) s
    (λ t. two_behind front front (λ l. l ++ codes ": ") whole (showing n p q.0) (showing n p q.1) t (λ k v. append_assoc (front ++ k) (codes ": ") v ∙ append_assoc front k (codes ": " ++ v)))

pub field_same : (n : ℕ) (p : Place) (q : Name × plain.Value) (front : T) (s : S) → field_pushed n p q front s ≡ behind front (field_shown (showing n p) p q) s
field_same n p q front s =
    let first : T = (front ++ q.0) ++ codes " = " in
    let m : Texts = showing n p q.1 >>= λ v. give (q.0 ++ (codes " = " ++ v)) in
    let cost : ℕ = text_cost (length q.0) in
    paid_behind 1 p front (paid_by cost p m) (paid_by cost p (behind first (showing n p q.1))) s
    (λ t. paid_behind cost p front m (behind first (showing n p q.1)) t
    (λ r. one_behind front first (λ v. q.0 ++ (codes " = " ++ v)) (showing n p q.1) r (λ v. append_assoc (front ++ q.0) (codes " = ") v ∙ append_assoc front q.0 (codes " = " ++ v))))

-- one more of them
pub more_next : (ms more : List Push) (m : Push) (front mid new : T) (s t : S) → ms ≡ m ∷ more → mid ≡ front ++ codes ", " → m mid s ≡ done new t → more_pushed ms front s ≡ more_pushed more new t
more_next ms more m front mid new s t e between pushed =
    ap (λ l. more_pushed l front s) e ∙ ap (λ l. then_do (m l s) (more_pushed more)) (sym between) ∙ ap (λ o. then_do o (more_pushed more)) pushed

-- ---- collections

module _ {A : Type 0} (push : A → Push) (text : A → Texts) (same : (x : A) (front : T) (s : S) → push x front s ≡ behind front (text x) s) where
  more_same : (xs : List A) (front : T) (s : S) → more_pushed (each push xs) front s ≡ behind front (more_shown (each text xs)) s
  more_same [] front s = ap (λ l. done l s) (sym (append-nil front))
  more_same (x ∷ xs) front s =
      let first : T = front ++ codes ", " in
      ap (λ o. then_do o (more_pushed (each push xs))) (same x first s)
      ∙ then_ext (behind first (text x) s) (more_pushed (each push xs)) (λ l. behind l (more_shown (each text xs))) (λ l t. more_same xs l t)
      ∙ two_behind front first (λ l. l) (λ t u. codes ", " ++ (t ++ u)) (text x) (more_shown (each text xs)) s (λ t u. append_assoc first t u ∙ append_assoc front (codes ", ") (t ++ u))

  all_same : (xs : List A) (front : T) (s : S) → all_pushed (each push xs) front s ≡ behind front (all_shown (each text xs)) s
  all_same [] front s = ap (λ l. done l s) (sym (append-nil front))
  all_same (x ∷ xs) front s =
      ap (λ o. then_do o (more_pushed (each push xs))) (same x front s)
      ∙ then_ext (behind front (text x) s) (more_pushed (each push xs)) (λ l. behind l (more_shown (each text xs))) (λ l t. more_same xs l t)
      ∙ two_behind front front (λ l. l) (λ t u. t ++ u) (text x) (more_shown (each text xs)) s (λ t u. append_assoc front t u)

  pub within_same : (xs : List A) (opening closing front : T) (s : S) → pushed_within opening (each push xs) closing front s ≡ behind front (within opening closing (all_shown (each text xs))) s
  within_same xs opening closing front s = ap (λ o. then_do o (λ l. give (l ++ closing))) (all_same xs (front ++ opening) s) ∙ by (all_shown (each text xs) s) where
    by : (o : Ending (Unit {0}) T) → then_do (then_do o (λ t. give ((front ++ opening) ++ t))) (λ l. give (l ++ closing)) ≡ then_do (then_do o (λ t. give (opening ++ (t ++ closing)))) (λ x. give (front ++ x))
    by (done t r) = ap (λ x. done x r) (append_assoc (front ++ opening) t closing ∙ append_assoc front opening (t ++ closing))
    by (bad f r) = refl
    by (asks q r k) = λ i. asks q r (λ got u. by (k got u) i)
