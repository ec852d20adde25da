-- What is added to the files of a walk.
use Rattle.std.proofs.Common.{◌≡◌, ◌≤◌, ◌+◌, ℕ, Bool, true, false, List, [], ◌∷◌, ◌++◌, length, nat_lt, if◌then◌else◌, Ok, Err, OnOk, Result, refl, sym, ap, subst, ◌∙◌, ◌⊎◌, inl, inr, ⊎_elim, suc, arith, map as each}
use Rattle.std.proofs.lemmas.List.{length-append}
use Rattle.std.proofs.lemmas.Bool.Decides.{nat_tests}
use Rattle.std.specs.Prelude.{bytes_eq}
use Rattle.ytt_base.specs.Outcomes.{Outcome}
use Rattle.ytt_base.specs.declared.fault.FaultKind.TheVariants as kind
use Rattle.file_spec.specs.Asked.{found, refused}
use Rattle.file_spec.specs.Finding as plain
use Rattle.file_spec.specs.Finding.{at_start, counted, has_name, if_used, in_its_place, path_fault, with_file, with_files}
use Rattle.file_spec.specs.Limits.{longest_path, most_files, most_names}
use Rattle.file_spec.specs.Names.{is_used}
use Rattle.file_find.specs.Comes.{Adds, HasPath}
use Rattle.file_find.specs.Finds.{file_of}
use Rattle.file_find.specs.declared.found.FoundFile.{FoundFile}
use Rattle.file_find.proofs.Runs.{Within}

pub adds_none : (Near : List ℕ → Type 0) (w : plain.Walk) → Adds Near w w
adds_none Near w = record { few = λ h. h; near = λ path h. inl h }

-- one thing after another
pub adds_then : (Wide First Later : List ℕ → Type 0) (a b c : plain.Walk) → Within Wide First → Within Wide Later → Adds First a b → Adds Later b c → Adds Wide a c
adds_then Wide First Later a b c first later f g = record {
  few = λ h. g.few (f.few h);
  near = λ path h. ⊎_elim
      (λ (k : HasPath path b.files). ⊎_elim (λ (m : HasPath path a.files). inl m) (λ (n : First path). inr (first path n)) (f.near path k))
      (λ (n : Later path). inr (later path n))
      (g.near path h);
}

-- what follows, if it comes to an end
pub adds_later : {A E : Type 0} (Near : List ℕ → Type 0) (a b c : plain.Walk) (r : Result A E) → Adds Near a b → OnOk r (Adds Near b c) → OnOk r (Adds Near a c)
adds_later Near a b c (Ok x) f g = adds_then Near Near Near a b c (λ p h. h) (λ p h. h) f g
adds_later Near a b c (Err e) f g = tt

ok_same : {A : Type 0} (a b : A) (o : Outcome A) → o ≡ Ok a → o ≡ Ok b → a ≡ b
ok_same a b o e f = cc

-- no file more
pub adds_same : (Near : List ℕ → Type 0) (a b : plain.Walk) → b.files ≡ a.files → Adds Near a b
adds_same Near a b e = record {
  few = λ h. subst (λ (fs : List plain.FoundFile). length fs ≤ most_files) (sym e) h;
  near = λ path h. inl (subst (HasPath path) e h);
}

few_more : (k m : ℕ) → nat_lt k most_files ≡ true → m ≡ k + 1 → m ≤ most_files
few_more k m h e = grind (arith, nat_tests)

-- a name that is listed is no file yet
pub adds_counted : (Near : List ℕ → Type 0) (path : List ℕ) (a b : plain.Walk) → (counted path a).outcome ≡ Ok b → Adds Near a b
adds_counted Near path a b e = by (nat_lt a.listed most_names) (nat_lt longest_path (length path)) e
  where
    by : (p q : Bool) → (if p then (if q then refused (path_fault kind.TooManyFiles path) else found (record a { listed = a.listed + 1 })) else refused (path_fault kind.TooManyFiles path)).outcome ≡ Ok b → Adds Near a b
    by true false e = adds_same Near a b (ap (λ (w : plain.Walk). w.files) (sym (ok_same (record a { listed = a.listed + 1 }) b _ refl e)))
    by true true e = cc
    by false q e = cc

module _ (Near : List ℕ → Type 0) (f : plain.FoundFile) (near : Near f.path) where
  placed_near : (path : List ℕ) (fs : List plain.FoundFile) → HasPath path (in_its_place f fs) → HasPath path fs ⊎ Near path
  placed_near path [] h = absurd h
  placed_near path (g ∷ fs) h = by (bytes_eq g.name f.name) (placed_near path fs) h
    where
      by : (b : Bool) → (HasPath path (in_its_place f fs) → HasPath path fs ⊎ Near path) → HasPath path (if b then f ∷ fs else g ∷ in_its_place f fs) → HasPath path (g ∷ fs) ⊎ Near path
      by true rest h = ⊎_elim (λ (e : f.path ≡ path). inr (subst Near e near)) (λ (k : HasPath path fs). inl (inr k)) h
      by false rest h = ⊎_elim
          (λ (e : g.path ≡ path). inl (inl e))
          (λ (k : HasPath path (in_its_place f fs)). ⊎_elim (λ (m : HasPath path fs). inl (inr m)) (λ (n : Near path). inr n) (rest k))
          h

  placed_length : (fs : List plain.FoundFile) → length (in_its_place f fs) ≡ length fs
  placed_length [] = refl
  placed_length (g ∷ fs) = by (bytes_eq g.name f.name) (placed_length fs)
    where
      by : (b : Bool) → length (in_its_place f fs) ≡ length fs → length (if b then f ∷ fs else g ∷ in_its_place f fs) ≡ length (g ∷ fs)
      by true e = refl
      by false e = ap suc e

  behind_near : (path : List ℕ) (fs : List plain.FoundFile) → HasPath path (fs ++ f ∷ []) → HasPath path fs ⊎ Near path
  behind_near path [] h = ⊎_elim (λ (e : f.path ≡ path). inr (subst Near e near)) (λ (k : ⊥). absurd k) h
  behind_near path (g ∷ fs) h = ⊎_elim
      (λ (e : g.path ≡ path). inl (inl e))
      (λ (k : HasPath path (fs ++ f ∷ [])). ⊎_elim (λ (m : HasPath path fs). inl (inr m)) (λ (n : Near path). inr n) (behind_near path fs k))
      h

  module _ (a b : plain.Walk) where
    adds_put : (with_file f a).outcome ≡ Ok b → Adds Near a b
    adds_put e = by (has_name f.name a.files) (nat_lt (length a.files) most_files) refl e
      where
        by : (p q : Bool) → nat_lt (length a.files) most_files ≡ q
            → (if p then found (with_files a (in_its_place f a.files)) else if q then found (with_files a (a.files ++ f ∷ [])) else refused (path_fault kind.TooManyFiles f.path)).outcome ≡ Ok b → Adds Near a b
        by true q h e = subst (Adds Near a) (ok_same _ b _ refl e) (record {
          few = λ k. subst (λ n. n ≤ most_files) (sym (placed_length a.files)) k;
          near = λ path. placed_near path a.files;
        })
        by false true h e = subst (Adds Near a) (ok_same _ b _ refl e) (record {
          few = λ k. few_more (length a.files) _ h (length-append a.files (f ∷ []));
          near = λ path. behind_near path a.files;
        })
        by false false h e = cc

    -- a file, if files of its name are used
    pub adds_used : (if_used f a).outcome ≡ Ok b → Adds Near a b
    adds_used e = by (is_used f.name) e
      where
        by : (u : Bool) → (if u then with_file f a else found a).outcome ≡ Ok b → Adds Near a b
        by true e = adds_put e
        by false e = subst (Adds Near a) (ok_same a b _ refl e) (adds_none Near a)

-- ---- at the end

module _ (Near : List ℕ → Type 0) (a b : plain.Walk) (fs : List FoundFile) (start : a ≡ at_start) (adds : Adds Near a b) (same : each file_of fs ≡ b.files) where
  same_length : (gs : List FoundFile) → length (each file_of gs) ≡ length gs
  same_length [] = refl
  same_length (g ∷ gs) = ap suc (same_length gs)

  pub found_few : length fs ≤ most_files
  found_few =
      let none : length a.files ≤ most_files = subst (λ (w : plain.Walk). length w.files ≤ most_files) (sym start) (omega arith) in
      subst (λ n. n ≤ most_files) (ap length (sym same) ∙ same_length fs) (adds.few none)

  pub found_near : (path : List ℕ) → HasPath path (each file_of fs) → Near path
  found_near path h = ⊎_elim
      (λ (k : HasPath path a.files). absurd (subst (λ (w : plain.Walk). HasPath path w.files) start k))
      (λ (n : Near path). n)
      (adds.near path (subst (HasPath path) same h))
