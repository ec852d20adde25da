-- The first function with each number, of functions that are gone through one after another.
use Rattle.std.proofs.Common.{◌≡◌, ℕ, ◌+◌, ◌<◌, ◌≤◌, Bool, true, false, cond, nat_eq, List, ◌∷◌, Option, Some, None, is_some, length, drop, get_or, refl, sym, ap, arith, ◌∙◌}
use Rattle.std.proofs.lemmas.Bool.Decides.{nat_tests}
use Rattle.std.proofs.lemmas.List.{drop_all, drop_more}
use Rattle.std.specs.Option.{option_map}
use Rattle.code_spec.specs.Blocks.{Ops}
use Rattle.code_spec.specs.Options.{or_else}
use Rattle.star_spec.specs.Calls.{Code}
use Rattle.star_spec.specs.Lambdas.{only_if}
use Rattle.star_functions.proofs.Looking.{or_assoc}
use Rattle.star_functions.specs.Numbered.{first_with}
use Rattle.star_functions.specs.Table.{code_in}
use Rattle.star_functions.specs.View.{all_of, code_of}
use Rattle.star_functions.specs.declared.function.Function.{Function}
use Rattle.star_functions.specs.declared.function.FunctionCode.{FunctionCode}
use Rattle.star_functions.specs.declared.function.Numbered.{Numbered}

or_none : {A : Type 0} (o : Option A) → or_else o None ≡ o
or_none None = refl
or_none (Some a) = refl

-- at the end, what was put by its number is what the functions have
pub indexed_all : (file k : ℕ) (xs : List Numbered) (j : ℕ) (o : Option FunctionCode) (all : Option (Code Ops)) → length xs ≤ j →
    or_else (option_map (code_of file) o) (first_with k (all_of file (drop j xs))) ≡ all → option_map (code_of file) o ≡ all
indexed_all file k xs j o all le h =
    sym (or_none (option_map (code_of file) o)) ∙ ap (λ l. or_else (option_map (code_of file) o) (first_with k (all_of file l))) (sym (drop_all j xs le)) ∙ h

-- ---- one more function

none_there : (o : Option Function) → is_some o ≡ false → o ≡ None
none_there None h = refl
none_there (Some f) h = ap (λ b. cond b (Some f) None) h

some_there : (file : ℕ) (o : Option Function) (more : Option (Code Ops)) → is_some o ≡ true → code_in file o ≡ or_else (code_in file o) more
some_there file (Some f) more h = refl
some_there file None more h = ap (λ b. cond b more None) h

pub same_number : (a b : ℕ) → nat_eq a b ≡ true → b ≡ a
same_number a b h = grind (arith, nat_tests, h)

turned_round : (a b : ℕ) (c : Bool) → nat_eq a b ≡ c → nat_eq b a ≡ c
turned_round a b true h = grind (arith, nat_tests)
turned_round a b false h = grind (arith, nat_tests)

module _ (file k : ℕ) (x : Numbered) (old : ℕ → Option Function) where
  abbrev pub WithOne : Option Function → Type 0
  WithOne new = code_in file new ≡ or_else (code_in file (old k)) (only_if (nat_eq k x.number) (code_of file x.code))

  inserted_if : (f : Function) (b : Bool) → nat_eq x.number k ≡ b → is_some (old x.number) ≡ false → f.code ≡ x.code → WithOne (cond b (Some f) (old k))
  inserted_if f true e h same =
      let nothing : old k ≡ None = ap old (same_number x.number k e) ∙ none_there (old x.number) h in
      ap (λ d. Some (code_of file d)) same ∙ sym (λ i. or_else (code_in file (nothing i)) (only_if (turned_round x.number k true e i) (code_of file x.code)))
  inserted_if f false e h same =
      sym (or_none (code_in file (old k))) ∙ sym (ap (λ b. or_else (code_in file (old k)) (only_if b (code_of file x.code))) (turned_round x.number k false e))

  -- where no function had its number
  pub inserted : (f : Function) (new : Option Function) → is_some (old x.number) ≡ false → f.code ≡ x.code → new ≡ cond (nat_eq x.number k) (Some f) (old k) → WithOne new
  inserted f new h same e = ap (code_in file) e ∙ inserted_if f (nat_eq x.number k) refl h same

  kept_if : (b : Bool) → nat_eq k x.number ≡ b → is_some (old x.number) ≡ true → WithOne (old k)
  kept_if true e h = some_there file (old k) _ (ap (λ n. is_some (old n)) (sym (same_number k x.number e)) ∙ h)
  kept_if false e h = sym (or_none (code_in file (old k))) ∙ sym (ap (λ b. or_else (code_in file (old k)) (only_if b (code_of file x.code))) e)

  -- where one had it
  pub kept : is_some (old x.number) ≡ true → WithOne (old k)
  kept = kept_if (nat_eq k x.number) refl

  -- one more turn of the loop
  pub indexed_turn : (xs : List Numbered) (j : ℕ) (new : Option Function) (all : Option (Code Ops)) → j < length xs → x ≡ get_or xs j x → WithOne new →
      or_else (code_in file (old k)) (first_with k (all_of file (drop j xs))) ≡ all → or_else (code_in file new) (first_with k (all_of file (drop (j + 1) xs))) ≡ all
  indexed_turn xs j new all lt e one h =
      let rest = drop (j + 1) xs in
      ap (λ o. or_else o (first_with k (all_of file rest))) one
      ∙ or_assoc (code_in file (old k)) (only_if (nat_eq k x.number) (code_of file x.code)) (first_with k (all_of file rest))
      ∙ ap (λ ys. or_else (code_in file (old k)) (first_with k (all_of file ys))) (ap (λ y. y ∷ rest) e ∙ sym (drop_more xs j x lt))
      ∙ h
