-- One element more.
use Rattle.std.proofs.Common.{◌≡◌, ℕ, zero, suc, ◌+◌, ◌-◌, ◌<◌, ◌≤◌, Bool, true, false, List, [], ◌∷◌, ◌++◌, length, drop, take, get_or, reverse, Option, Some, None, refl, ap, arith, sym, ◌∙◌, add-one, append_assoc}
use Rattle.std.specs.Prelude.{◌==◌, ◌||◌, slice_set, if◌then◌else◌}
use Rattle.std.proofs.lemmas.Bool.Decides.{nat_tests}
use Rattle.std.proofs.lemmas.List.{drop_more, map-append, reverse-append, get_or-set_same, get_or-set_other}
use Rattle.std.proofs.Math.Seq.{take-suc}
use Rattle.ytt_base.specs.declared.fault.Fault.{Fault}
use Rattle.ytt_base.specs.declared.fault.FaultKind.TheVariants as kind
use Rattle.ytt_base.specs.Outcomes.{fault_at}
use Rattle.star_tree.specs.declared.code.Stmt.{Stmt}
use Rattle.star_tree.specs.Whole.{instruction_of, instructions_of}
use Rattle.template_spec.specs.Misplaced.{Returned, earliest, option_list}
use Rattle.template_pass.specs.Levels.{Open, note_fault, note_faults, returned_in}
use Rattle.template_pass.specs.Rows as plain
use Rattle.template_events.specs.declared.event.Row.{Row}
use Rattle.template_events.specs.View.{row_of, rows_of}
use Rattle.template_checks.specs.declared.statements.Return.{Return}
use Rattle.template_checks.specs.Held.{return_of, returned_of}
use Rattle.template_checks.specs.Walk.{earlier, flag, flagged_faults}
use Rattle.template_checks.proofs.Earliest.{earliest_append}
use Rattle.template_checks.proofs.Returning.{returns_split}

-- ---- rows

pub row_at : (file : ℕ) (rows : List Row) (at : ℕ) (r : Row) → at < length rows → r ≡ get_or rows at r → rows_of file (drop at rows) ≡ row_of file r ∷ rows_of file (drop (at + 1) rows)
row_at file rows at r within e = ap (rows_of file) (drop_more rows at r within ∙ (λ i. sym e i ∷ drop (at + 1) rows))

pub row_before : (file : ℕ) (rows : List Row) (at : ℕ) (r : Row) → 0 < at → at ≤ length rows → r ≡ get_or rows (at - 1) r → rows_of file (drop (at - 1) rows) ≡ row_of file r ∷ rows_of file (drop at rows)
row_before file rows at r some le e =
    let within : at - 1 < length rows = omega arith in
    let same : at - 1 + 1 ≡ at = omega arith in
    row_at file rows (at - 1) r within e ∙ ap (λ n. row_of file r ∷ rows_of file (drop n rows)) same

pub reversed_more : {A : Type 0} (old new : List A) (x a : A) (b : List A) → new ≡ old ++ x ∷ [] → x ≡ a → reverse old ≡ b → reverse new ≡ a ∷ b
reversed_more old new x a b e f g = ap reverse e ∙ reverse-append old (x ∷ []) ∙ (λ i. f i ∷ g i)

alone : (o : Option Fault) → earliest (option_list o) ≡ o
alone None = refl
alone (Some f) = refl

pub noted_more : (file : ℕ) (r : plain.Row) (rs : List plain.Row) (found old new : Option Fault) → new ≡ earlier found old → found ≡ note_fault file r rs → old ≡ earliest (note_faults file rs) → new ≡ earliest (note_faults file (r ∷ rs))
noted_more file r rs found old new e f g =
    e ∙ (λ i. earlier (f i) (g i)) ∙ ap (λ (o : Option Fault). earlier o (earliest (note_faults file rs))) (sym (alone (note_fault file r rs)))
    ∙ sym (earliest_append (option_list (note_fault file r rs)) (note_faults file rs))

-- ---- statements

pub returns_on : (file : ℕ) (o : Option Open) (stmts : List Stmt) (at : ℕ) (s : Stmt) (a a2 b : List Returned) → at < length stmts → s ≡ get_or stmts at s
    → a ++ returned_in o (instructions_of file (drop at stmts)) ≡ b → a2 ≡ a ++ returned_in o (instruction_of file s ∷ []) → a2 ++ returned_in o (instructions_of file (drop (at + 1) stmts)) ≡ b
returns_on file o stmts at s a a2 b within e h k =
    let rest = instructions_of file (drop (at + 1) stmts) in
    let here : instructions_of file (drop at stmts) ≡ instruction_of file s ∷ rest = ap (instructions_of file) (drop_more stmts at s within ∙ (λ i. sym e i ∷ drop (at + 1) stmts)) in
    ap (λ (rs : List Returned). rs ++ returned_in o rest) k ∙ append_assoc a (returned_in o (instruction_of file s ∷ [])) (returned_in o rest)
    ∙ ap (λ (rs : List Returned). a ++ rs) (sym (returns_split o (instruction_of file s) rest) ∙ ap (returned_in o) (sym here)) ∙ h

-- ---- flags

pub flag_pushed : (flags : List Bool) (k : ℕ) → flag (flags ++ false ∷ []) k ≡ flag flags k
flag_pushed [] zero = refl
flag_pushed [] (suc k) = refl
flag_pushed (b ∷ bs) zero = refl
flag_pushed (b ∷ bs) (suc k) = flag_pushed bs k

same_number : (m n : ℕ) → (m == n) ≡ true → n ≡ m
same_number m n e = grind (arith, nat_tests)

other_number : (m n : ℕ) → (m == n) ≡ false → n ≡ m → ⊥
other_number m n e = grind (arith, nat_tests)

flag_cases : (t : Bool) (flags : List Bool) (at k : ℕ) → (at == k) ≡ t → at < length flags → flag (slice_set flags at true) k ≡ (t || flag flags k)
flag_cases true flags at k e within = ap (λ n. flag (slice_set flags at true) n) (same_number at k e) ∙ get_or-set_same flags at true false within
flag_cases false flags at k e within = get_or-set_other flags at k true false (other_number at k e)

pub flag_raised : (flags : List Bool) (at k : ℕ) → at < length flags → flag (slice_set flags at true) k ≡ (at == k || flag flags k)
flag_raised flags at k within = flag_cases (at == k) flags at k refl within

-- ---- returns

flagged_step : (t : Bool) (f : Fault) (a b c : List Fault) → a ≡ b ++ c → (if t then f ∷ a else a) ≡ (if t then f ∷ b else b) ++ c
flagged_step true f a b c e = ap (λ (fs : List Fault). f ∷ fs) e
flagged_step false f a b c e = e

flagged_append : (flags : List Bool) (xs ys : List Returned) → flagged_faults flags (xs ++ ys) ≡ flagged_faults flags xs ++ flagged_faults flags ys
flagged_append flags [] ys = refl
flagged_append flags (x ∷ xs) ys = flagged_step (flag flags x.within) (fault_at kind.CodeForm x.place) _ _ _ (flagged_append flags xs ys)

pub flagged_more : (flags : List Bool) (all : List Return) (at : ℕ) (d : Return) (found old new : Option Fault) → at < length all
    → found ≡ earliest (flagged_faults flags (return_of (get_or all at d) ∷ [])) → new ≡ earlier old found
    → old ≡ earliest (flagged_faults flags (returned_of (take at all))) → new ≡ earliest (flagged_faults flags (returned_of (take (at + 1) all)))
flagged_more flags all at d found old new within e h k =
    let x = return_of (get_or all at d) in
    let front = returned_of (take at all) in
    let taken : returned_of (take (at + 1) all) ≡ front ++ x ∷ [] =
    ap (λ n. returned_of (take n all)) (add-one at) ∙ ap returned_of (take-suc all at d within) ∙ map-append return_of (take at all) (get_or all at d ∷ []) in
    h ∙ (λ i. earlier (k i) (e i))
    ∙ sym (earliest_append (flagged_faults flags front) (flagged_faults flags (x ∷ [])))
    ∙ ap earliest (sym (flagged_append flags front (x ∷ [])) ∙ ap (flagged_faults flags) (sym taken))

-- ---- what comes next

first_and_rest : {A : Type 0} (x y : A) (xs ys : List A) → x ∷ xs ≡ y ∷ ys → (x ≡ y) × (xs ≡ ys)
first_and_rest x y xs ys e = (cc, cc)

pub popped : {A : Type 0} (old new : List A) (x n : A) (ns : List A) → old ≡ new ++ x ∷ [] → reverse old ≡ n ∷ ns → (x ≡ n) × (reverse new ≡ ns)
popped old new x n ns e h = first_and_rest x n (reverse new) ns (sym (reverse-append new (x ∷ [])) ∙ ap reverse (sym e) ∙ h)

pub none_popped : {A : Type 0} (old : List A) (n : A) (ns : List A) → old ≡ [] → reverse old ≡ n ∷ ns → ⊥
none_popped old n ns e h = let k : [] ≡ n ∷ ns = ap reverse (sym e) ∙ h in cc
