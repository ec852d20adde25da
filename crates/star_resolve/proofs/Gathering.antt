-- What is read of a program from its end.
use Rattle.std.proofs.Common.{◌≡◌, ℕ, ◌+◌, ◌-◌, ◌<◌, ◌≤◌, List, ◌∷◌, length, drop, get_or, map as each, ap, arith, sym, ◌∙◌, Result, Ok, Err, OnOk, IfOk}
use Rattle.ytt_base.specs.declared.text.Memory.{Memory}
use Rattle.std.proofs.lemmas.List.{drop_more}
use Rattle.code_spec.specs.Code.{Name}
use Rattle.star_tree.specs.declared.code.Stmt.{Stmt}
use Rattle.star_tree.specs.Whole.{instruction_of}
use Rattle.star_resolve.specs.Gathered.{Gathered, gather, gathered}

-- the same, where there was room
pub gathered_same : (r : Result (Unit {0}) Memory) (new : Gathered) (a b : Gathered) → OnOk r (new ≡ a) → b ≡ a → OnOk r (new ≡ b)
gathered_same (Ok u) new a b h e = h ∙ sym e
gathered_same (Err m) new a b h e = tt

pub names_same : (r : Result (List Name) Memory) (a b : List Name) → IfOk r (λ names. names ≡ a) → b ≡ a → IfOk r (λ names. names ≡ b)
names_same (Ok xs) a b h e = h ∙ sym e
names_same (Err m) a b h e = tt

-- one statement more, from the end
pub gathered_more : (file : ℕ) (code : List Stmt) (at : ℕ) (x : Stmt) (new now : Gathered) → 0 < at → at ≤ length code → x ≡ get_or code (at - 1) x →
    now ≡ gathered (each (instruction_of file) (drop at code)) → new ≡ gather (instruction_of file x) now → new ≡ gathered (each (instruction_of file) (drop (at - 1) code))
gathered_more file code at x new now some le e h k =
    let within : at - 1 < length code = omega arith in
    let same : at - 1 + 1 ≡ at = omega arith in
    k ∙ ap (λ g. gather (instruction_of file x) g) h
    ∙ ap (λ l. gathered (each (instruction_of file) l)) (sym (drop_more code (at - 1) x within ∙ (λ i. sym e i ∷ drop (same i) code)))

pub gathered_whole : (file : ℕ) (code : List Stmt) (at : ℕ) (now : Gathered) → at ≤ 0 → now ≡ gathered (each (instruction_of file) (drop at code)) → now ≡ gathered (each (instruction_of file) code)
gathered_whole file code at now le h = let zero : at ≡ 0 = omega arith in h ∙ ap (λ n. gathered (each (instruction_of file) (drop n code))) zero
