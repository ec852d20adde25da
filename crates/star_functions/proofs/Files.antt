-- The functions of files that are gone through one after another.
use Rattle.std.proofs.Common.{◌≡◌, ℕ, Bool, true, false, cond, if◌then◌else◌, nat_eq, List, Option, Some, None, is_some, option_and_then, refl, sym, ap, ◌∙◌}
use Rattle.code_spec.specs.Blocks.{Ops}
use Rattle.indexmap.specs.IndexMap.{IndexMap, get}
use Rattle.star_blocks.specs.Nested.{ops_of}
use Rattle.star_spec.specs.Calls.{Code}
use Rattle.template_meaning.specs.Calls.{ops_function}
use Rattle.star_blocks.specs.declared.block.Op.{Op}
use Rattle.star_functions.proofs.Indexing.{same_number}
use Rattle.star_functions.specs.Table.{code_in, code_or}
use Rattle.star_functions.specs.declared.function.Function.{Function}

-- at the end, what is found in them
pub all_found : {S : Type 0} (f k : ℕ) (functions : Option (IndexMap ℕ Function S)) → code_or f k functions None ≡ code_in f (option_and_then (λ m. get nat_eq m k) functions)
all_found f k None = refl
all_found f k (Some m) = refl

-- ---- one file more

there : {S : Type 0} (f k : ℕ) (functions : Option (IndexMap ℕ Function S)) (o p : Option (Code Ops)) → is_some functions ≡ true → code_or f k functions o ≡ code_or f k functions p
there f k (Some m) o p h = refl
there f k None o p h = ap (λ b. cond b p o) h

module _ {S : Type 0} (f k n : ℕ) (block : List Op) (more : Option (Code Ops)) (old : ℕ → Option (IndexMap ℕ Function S)) where
  -- what is known with it in front
  abbrev with_one : Bool → Option (Code Ops)
  with_one b = if b then ops_function k (ops_of f block) else more

  passed_if : (b : Bool) → nat_eq n f ≡ b → is_some (old n) ≡ true → code_or f k (old f) more ≡ code_or f k (old f) (with_one b)
  passed_if true e h = there f k (old f) more (with_one true) (ap (λ m. is_some (old m)) (same_number n f e) ∙ h)
  passed_if false e h = refl

  -- where one of its number stands already
  pub passed_over : is_some (old n) ≡ true → code_or f k (old f) more ≡ code_or f k (old f) (with_one (nat_eq n f))
  passed_over = passed_if (nat_eq n f) refl

  nothing_there : (o : Option (IndexMap ℕ Function S)) → is_some o ≡ false → (p : Option (Code Ops)) → p ≡ code_or f k o p
  nothing_there None h p = refl
  nothing_there (Some m) h p = ap (λ b. cond b (code_in f (get nat_eq m k)) p) (sym h)

  put_if : (functions : IndexMap ℕ Function S) (b : Bool) → nat_eq n f ≡ b → is_some (old n) ≡ false → code_in f (get nat_eq functions k) ≡ ops_function k (ops_of f block) →
      code_or f k (cond b (Some functions) (old f)) more ≡ code_or f k (old f) (with_one b)
  put_if functions true e h same = same ∙ nothing_there (old f) (ap (λ m. is_some (old m)) (same_number n f e) ∙ h) (with_one true)
  put_if functions false e h same = refl

  -- and where none does
  pub put_there : (functions : IndexMap ℕ Function S) (new : Option (IndexMap ℕ Function S)) → new ≡ cond (nat_eq n f) (Some functions) (old f) → is_some (old n) ≡ false →
      code_in f (get nat_eq functions k) ≡ ops_function k (ops_of f block) → code_or f k new more ≡ code_or f k (old f) (with_one (nat_eq n f))
  put_there functions new e h same = ap (λ o. code_or f k o more) e ∙ put_if functions (nat_eq n f) refl h same
