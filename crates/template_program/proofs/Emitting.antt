-- Instructions that are put behind others.
use Rattle.std.proofs.Common.{◌≡◌, ℕ, ◌+◌, ◌<◌, ◌≤◌, List, [], ◌∷◌, ◌++◌, length, drop, get_or, refl, sym, ap, subst, ◌∙◌, append_assoc, append-nil, Result, Ok, Err, OnOk}
use Rattle.std.proofs.lemmas.List.{drop_all}
use Rattle.ytt_base.specs.declared.text.Memory.{Memory}
use Rattle.ytt_laws.proofs.Lists.{dropped}
use Rattle.code_spec.specs.Numbering.{Passed}
use Rattle.code_spec.specs.Program.{Instruction, part, statement, begin_if, begin_elif, begin_else, begin_for, begin_def, close}
use Rattle.star_tree.specs.declared.code.Stmt.{Stmt}
use Rattle.star_tree.specs.Whole.{instruction_of, instructions_of}
use Rattle.star_number.specs.Statements.{simple_of}
use Rattle.template_spec.specs.Compiled.{compiled, item_code, items_code}
use Rattle.template_spec.specs.Numbered.{number_program, numbered}
use Rattle.template_spec.specs.Template.{Items}
use Rattle.template_spec.proofs.Numbers.{numbered_compiled}
use Rattle.template_tree.specs.View.{code_of}
use Rattle.template_program.specs.Emits.{Emits, Numbered, followed}

instructions_append : (file : ℕ) (a b : List Stmt) → instructions_of file (a ++ b) ≡ instructions_of file a ++ instructions_of file b
instructions_append file [] b = refl
instructions_append file (i ∷ a) b = ap (λ is. instruction_of file i ∷ is) (instructions_append file a b)

-- one instruction
pub emits_one : {file n m : ℕ} {old new : List Stmt} {i : Instruction} (s : Stmt) → new ≡ old ++ s ∷ [] → Numbered file s n m i → Emits file old new n m (λ is. i ∷ is)
emits_one {file} {n} {m} {old} {new} {i} s e h = record {
  emitted = λ is.
      ap (λ all. followed file all m is) e
      ∙ ap (λ all. all ++ (number_program is m).result) (instructions_append file old (s ∷ []))
      ∙ append_assoc (instructions_of file old) (instruction_of file s ∷ []) (number_program is m).result
      ∙ ap (λ (p : Passed Instruction). instructions_of file old ++ p.result ∷ (number_program is p.next).result) h;
}

-- one part, and then another
pub emits_then : {file n m k : ℕ} {a b c : List Stmt} {f g : List Instruction → List Instruction} → Emits file a b n m f → Emits file b c m k g → Emits file a c n k (λ is. f (g is))
emits_then {g = g} h l = record { emitted = λ is. l.emitted is ∙ h.emitted (g is) }

-- the same instructions
pub emits_same : {file n m : ℕ} {a b : List Stmt} {f g : List Instruction → List Instruction} → Emits file a b n m f → g ≡ f → Emits file a b n m g
emits_same {file} {n} {m} {a} {b} h e = subst (Emits file a b n m) (sym e) h

-- one more member of a loop, whose instructions in front of the rest are those of all that are left
pub emits_next : {T : Type 0} (file n m k : ℕ) (a b c : List Stmt) (xs : List T) (j : ℕ) (x : T) (rest : List T → List Instruction → List Instruction) (one : List Instruction → List Instruction) →
    j < length xs → x ≡ get_or xs j x → ((ys : List T) (is : List Instruction) → rest (x ∷ ys) is ≡ one (rest ys is)) →
    ((is : List Instruction) → followed file b m (rest (drop j xs) is) ≡ followed file a n (rest xs is)) → Emits file b c m k one →
    (is : List Instruction) → followed file c k (rest (drop (j + 1) xs) is) ≡ followed file a n (rest xs is)
emits_next file n m k a b c xs j x rest one lt e first h l is =
    l.emitted (rest (drop (j + 1) xs) is)
    ∙ ap (followed file b m) (sym (ap (λ l. rest l is) (dropped xs j x lt e) ∙ first (drop (j + 1) xs) is))
    ∙ h is

-- at the end of a loop
pub emits_done : {T : Type 0} (file n m : ℕ) (a b : List Stmt) (xs : List T) (j : ℕ) (rest : List T → List Instruction → List Instruction) →
    length xs ≤ j → ((is : List Instruction) → rest [] is ≡ is) → ((is : List Instruction) → followed file b m (rest (drop j xs) is) ≡ followed file a n (rest xs is)) → Emits file a b n m (rest xs)
emits_done file n m a b xs j rest le none h = record { emitted = λ is. ap (followed file b m) (sym (none is) ∙ ap (λ l. rest l is) (sym (drop_all j xs le))) ∙ h is }

-- what follows, where there was room
pub where_room : (r : Result (Unit {0}) Memory) (P Q : Type 0) → OnOk r P → (P → Q) → OnOk r Q
where_room (Ok u) P Q h f = f h
where_room (Err x) P Q h f = tt

-- a template that was put behind no instruction is its program, with its numbers
pub emits_all : (file n : ℕ) (old new : List Stmt) (t : Items) → old ≡ [] → Emits file old new 0 n (items_code t) → instructions_of file new ≡ compiled (numbered t)
emits_all file n old new t e h =
    sym (append-nil (instructions_of file new)) ∙ h.emitted [] ∙ ap (λ l. followed file l 0 (compiled t)) e ∙ numbered_compiled t

-- a simple statement; what is none does nothing
pub simple_code : (file : ℕ) (i : Instruction) → item_code (code_of file i) ≡ (λ is. statement (simple_of file i) ∷ is)
simple_code file (statement s) = refl
simple_code file (part o) = refl
simple_code file (begin_if p e) = refl
simple_code file (begin_elif p e) = refl
simple_code file (begin_else p) = refl
simple_code file (begin_for p x e) = refl
simple_code file (begin_def p number fragment x ps) = refl
simple_code file (close p) = refl
