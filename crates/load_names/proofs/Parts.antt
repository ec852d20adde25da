-- The parts of a path, found from slash to slash, and the folder of a name, found by its last slash.
use Rattle.std.proofs.Common.{◌≡◌, ◌≢◌, ℕ, zero, suc, ◌+◌, ◌<◌, ◌==◌, Bool, true, false, true≢false, ◌||◌, cond, eqb, List, [], ◌∷◌, length, take, get_or, refl, ap, sym, ◌∙◌, arith, ⊎_elim}
use Rattle.std.proofs.lemmas.Bool.Decides.{eqb_tells}
use Rattle.std.proofs.lemmas.List.Folds.{list_any_at}
use Rattle.std.specs.List.{list_any, position_or_len, before_first, after_first}
use Rattle.file_spec.specs.Names.{is_slash, folder_part, named_below}
use Rattle.world_spec.specs.Paths.{have_dots, is_dots, name_for, parts_of, put_byte}

-- ---- parts

-- a path without a slash is one part
one_part : (s : List ℕ) → position_or_len is_slash s ≡ length s → parts_of s ≡ s ∷ []
one_part [] h = refl
one_part (b ∷ bs) h = ⊎_elim
    (λ (e : (eqb b 47 ≡ true) × (b ≡ 47)). let k = rw e.0 at h in absurd (omega (arith, k)))
    (λ (e : (eqb b 47 ≡ false) × (b ≢ 47)). let k = rw e.0 at h in rw e.0 (ap (put_byte b) (one_part bs (omega (arith, k)))))
    (eqb_tells b 47)

-- else its first part stands before the first slash, and the others behind it
first_part : (s : List ℕ) → position_or_len is_slash s < length s → parts_of s ≡ before_first is_slash s ∷ parts_of (after_first is_slash s)
first_part [] h = absurd (omega arith)
first_part (b ∷ bs) h = ⊎_elim
    (λ (e : (eqb b 47 ≡ true) × (b ≡ 47)). rw e.0 refl)
    (λ (e : (eqb b 47 ≡ false) × (b ≢ 47)).
    let k = rw e.0 at h in
    let m : 1 + position_or_len is_slash bs ≡ suc (position_or_len is_slash bs) = omega arith in
    let n : 1 + position_or_len is_slash bs + 1 ≡ suc (position_or_len is_slash bs + 1) = omega arith in
    rw (e.0, n, m) (ap (put_byte b) (first_part bs (omega (arith, k)))))
    (eqb_tells b 47)

or_none : (b : Bool) → (b || false) ≡ b
or_none true = refl
or_none false = refl

-- ---- parts that are dots

pub dots_first : (s part : List ℕ) → position_or_len is_slash s < length s → part ≡ before_first is_slash s → is_dots part ≡ true → have_dots (parts_of s) ≡ true
dots_first s part h e d = ap have_dots (first_part s h) ∙ ap (λ v. v || have_dots (parts_of (after_first is_slash s))) (ap is_dots (sym e) ∙ d)

pub dots_behind : (s part behind : List ℕ) → position_or_len is_slash s < length s → part ≡ before_first is_slash s → behind ≡ after_first is_slash s → is_dots part ≡ false → have_dots (parts_of s) ≡ have_dots (parts_of behind)
dots_behind s part behind h e f d =
    ap have_dots (first_part s h)
    ∙ ap (λ v. v || have_dots (parts_of (after_first is_slash s))) (ap is_dots (sym e) ∙ d)
    ∙ ap (λ s. have_dots (parts_of s)) (sym f)

pub dots_last : (s : List ℕ) → position_or_len is_slash s ≡ length s → have_dots (parts_of s) ≡ is_dots s
dots_last s h = ap have_dots (one_part s h) ∙ or_none (is_dots s)

-- ---- folders

no_slash : (s : List ℕ) → ((i : ℕ) → i < length s → get_or s i 0 ≢ 47) → list_any is_slash s ≡ false
no_slash [] none = refl
no_slash (b ∷ bs) none = ⊎_elim
    (λ (e : (eqb b 47 ≡ true) × (b ≡ 47)). absurd (none 0 (omega arith) e.1))
    (λ (e : (eqb b 47 ≡ false) × (b ≢ 47)). rw e.0 (no_slash bs (λ i lt. none (suc i) (omega (arith, lt)))))
    (eqb_tells b 47)

pub no_folder : (s : List ℕ) → ((i : ℕ) → i < length s → get_or s i 0 ≢ 47) → folder_part s ≡ []
no_folder [] none = refl
no_folder (b ∷ bs) none = ap (λ v. cond v (b ∷ folder_part bs) []) (no_slash bs (λ i lt. none (suc i) (omega (arith, lt))))

-- what stands before the last slash
pub folder_before : (s : List ℕ) (k : ℕ) → k < length s → get_or s k 0 ≡ 47 → ((i : ℕ) → k < i → i < length s → get_or s i 0 ≢ 47) → folder_part s ≡ take k s
folder_before [] k lt here none = absurd (omega (arith, lt))
folder_before (b ∷ bs) zero lt here none = ap (λ v. cond v (b ∷ folder_part bs) []) (no_slash bs (λ i lt. none (suc i) (omega arith) (omega (arith, lt))))
folder_before (b ∷ bs) (suc k) lt here none =
    let within : k < length bs = omega (arith, lt) in
    ap (λ v. cond v (b ∷ folder_part bs) []) (list_any_at is_slash bs k 0 within (ap is_slash here))
    ∙ ap (λ l. b ∷ l) (folder_before bs k within here (λ i above lt. none (suc i) (omega (arith, above)) (omega (arith, lt))))

-- ---- names

-- a path that doesn't begin with a slash stands for a name below the folder
pub named_from : (from path : List ℕ) → (length path == 0) ≡ false → ((rest : List ℕ) → path ≢ 47 ∷ rest) → named_below (folder_part from) path ≡ name_for from path
named_from from [] some other = absurd (true≢false some)
named_from from (b ∷ bs) some other = ⊎_elim
    (λ (e : (eqb b 47 ≡ true) × (b ≡ 47)). absurd (other bs (ap (λ b. b ∷ bs) e.1)))
    (λ (e : (eqb b 47 ≡ false) × (b ≢ 47)). rw e.0 refl)
    (eqb_tells b 47)
