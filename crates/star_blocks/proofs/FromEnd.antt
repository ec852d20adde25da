-- What is read of a program from its end.
use Rattle.std.proofs.Common.{◌≡◌, ℕ, List, [], ◌∷◌, map as each, refl, ap, sym, ◌∙◌, Option, Some, None, Result, Ok, Err, OnOk, subst, reverse, ◌++◌}
use Rattle.std.proofs.lemmas.List.{reverse-append, reverse-reverse}
use Rattle.std.specs.declared.alloc.Global.{Global}
use Rattle.std.specs.declared.vec.Vec.{Vec}
use Rattle.ytt_base.specs.Outcomes.{place_at}
use Rattle.ytt_base.specs.declared.text.Memory.{Memory}
use Rattle.code_spec.specs.Blocks as blocks
use Rattle.code_spec.specs.Blocks.{Arms, Ops, Parsed, arm, broken, inside, no_arm, op_if, open_block, open_if, parse, put, whole}
use Rattle.star_tree.specs.declared.code.Expr.{Expr}
use Rattle.star_tree.specs.declared.code.Stmt.{Stmt}
use Rattle.star_tree.specs.Whole.{expr_of, instruction_of}
use Rattle.star_blocks.specs.Nested.{Branch, arms_from, arms_of, branch_of, else_branch, op_of, ops_of, test_branch}
use Rattle.star_blocks.specs.Reading.{Refused, Taken, inner_of, read_one, top_of}
use Rattle.star_blocks.specs.declared.block.Op.{Op}
use Rattle.star_blocks.specs.declared.block.Arm.{Arm}
use Rattle.star_blocks.specs.declared.block.Op as held
use Rattle.star_blocks.specs.declared.block.Statement as code
use Rattle.star_blocks.specs.declared.block.Arm as branch
use Rattle.star_blocks.specs.declared.level.Level.{Level}
use Rattle.star_blocks.proofs.Forms.{of_if, of_test}

-- the same, where there was room
pub parsed_same : (r : Result (Unit {0}) Memory) (new a b : Parsed) → OnOk r (new ≡ a) → a ≡ b → OnOk r (new ≡ b)
parsed_same (Ok u) new a b h e = h ∙ e
parsed_same (Err m) new a b h e = tt

-- a statement that is seen
pub read_as : (file : ℕ) (s t : Stmt) (r : Result (Unit {0}) Memory) (old new a : Parsed) → s ≡ t → OnOk r (new ≡ a) → a ≡ read_one (instruction_of file t) old → OnOk r (new ≡ read_one (instruction_of file s) old)
read_as file s t r old new a is h e = parsed_same r new a (read_one (instruction_of file s) old) h (e ∙ ap (λ x. read_one (instruction_of file x) old) (sym is))

-- a block that was taken is that of what opens it
pub opened : (file : ℕ) (r : Result (Unit {0}) Memory) (o : Option (List Op)) (os : List Op) (f : Ops → blocks.Op) (a : blocks.Op) (old mid new : Parsed) →
    o ≡ Some os → Taken file o old mid → OnOk r (new ≡ put a mid) → a ≡ f (ops_of file os) → OnOk r (new ≡ open_block f old)
opened file r o os f a old mid new is h k e =
    let found : old ≡ inside (ops_of file os) no_arm mid = subst (λ x. Taken file x old mid) is h in
    parsed_same r new (put a mid) (open_block f old) k (ap (λ x. put x mid) e ∙ ap (open_block f) (sym found))

-- ---- the innermost block

innermost : (inner rest : List Level) (l : Level) → inner ≡ rest ++ (l ∷ []) → reverse inner ≡ l ∷ reverse rest
innermost inner rest l e = ap (λ ls. reverse ls) e ∙ reverse-append rest (l ∷ [])

refused_at_top : (file : ℕ) (top : Option (Vec Op Global)) (new : Parsed) → new ≡ broken → Refused (top_of file top) new
refused_at_top file None new h = record { after = h; block = λ f. refl; branch = refl }
refused_at_top file (Some os) new h = record { after = h; block = λ f. refl; branch = refl }

refused_arm : (os : Ops) (b : Branch) (bs : List Branch) (p new : Parsed) → new ≡ broken → Refused (inside os (arms_from (b ∷ bs)) p) new
refused_arm os (test_branch e xs) bs p new h = record { after = h; block = λ f. refl; branch = refl }
refused_arm os (else_branch xs) bs p new h = record { after = h; block = λ f. refl; branch = refl }

refused_arms : (file : ℕ) (os : Ops) (bs : List Arm) (p new : Parsed) → (bs ≡ [] → ⊥) → new ≡ broken → Refused (inside os (arms_of file bs) p) new
refused_arms file os [] p new some h = absurd (some refl)
refused_arms file os (b ∷ bs) p new some h = refused_arm os (branch_of file b) (each (branch_of file) bs) p new h

-- no block is open
pub refused_outside : (file : ℕ) (top : Option (Vec Op Global)) (inner : List Level) (new : Parsed) → inner ≡ [] → new ≡ broken → Refused (inner_of file top (reverse inner)) new
refused_outside file top inner new e h = subst (λ ls. Refused (inner_of file top (reverse ls)) new) (sym e) (refused_at_top file top new h)

-- a branch stands behind it
pub refused_branch : (file : ℕ) (top : Option (Vec Op Global)) (inner rest : List Level) (l : Level) (new : Parsed) →
    inner ≡ rest ++ (l ∷ []) → (l.arms.items ≡ [] → ⊥) → new ≡ broken → Refused (inner_of file top (reverse inner)) new
refused_branch file top inner rest l new e some h =
    subst (λ ls. Refused (inner_of file top ls) new) (sym (innermost inner rest l e))
    (refused_arms file (ops_of file (reverse l.ops.items)) (reverse l.arms.items) (inner_of file top (reverse rest)) new (λ none. some (sym (reverse-reverse l.arms.items) ∙ ap (λ bs. reverse bs) none)) h)

pub opened_if : (file line : ℕ) (e : Expr) (top : Option (Vec Op Global)) (inner rest : List Level) (l : Level) (block : List Op) (arms branches : List Arm) (r : Result (Unit {0}) Memory) (new : Parsed) →
    inner ≡ rest ++ (l ∷ []) → block ≡ reverse l.ops.items → arms ≡ l.arms.items ++ (branch.Test e block ∷ []) → branches ≡ reverse arms →
    OnOk r (new ≡ put (op_of file (held.Code (code.If line branches))) (inner_of file top (reverse rest))) →
    OnOk r (new ≡ open_if (place_at file line) (expr_of file e) (inner_of file top (reverse inner)))
opened_if file line e top inner rest l block arms branches r new hi hb ha hr h =
    let outer : Parsed = inner_of file top (reverse rest) in
    let branches_are : arms_of file branches ≡ arm (expr_of file e) (ops_of file (reverse l.ops.items)) (arms_of file (reverse l.arms.items)) =
    ap (λ bs. arms_of file bs) (hr ∙ ap (λ bs. reverse bs) ha ∙ reverse-append l.arms.items (branch.Test e block ∷ []))
    ∙ ap (λ b. arms_from (b ∷ each (branch_of file) (reverse l.arms.items))) (of_test file e block)
    ∙ (λ i. arm (expr_of file e) (ops_of file (hb i)) (arms_of file (reverse l.arms.items))) in
    parsed_same r new (put (op_of file (held.Code (code.If line branches))) outer) (open_if (place_at file line) (expr_of file e) (inner_of file top (reverse inner))) h
    (ap (λ o. put o outer) (of_if file line branches ∙ ap (λ bs. op_if (place_at file line) bs) branches_are)
    ∙ ap (λ ls. open_if (place_at file line) (expr_of file e) (inner_of file top ls)) (sym (innermost inner rest l hi)))

-- ---- what is read whole

none_inside : (file : ℕ) (top : Option (Vec Op Global)) (ls : List Level) → (ls ≡ [] → ⊥) → None ≡ whole (inner_of file top ls)
none_inside file top [] some = absurd (some refl)
none_inside file top (l ∷ ls) some = refl

none_broken : (file : ℕ) (ls : List Level) → None ≡ whole (inner_of file None ls)
none_broken file [] = refl
none_broken file (l ∷ ls) = refl

-- each block is closed
pub whole_here : (file : ℕ) (top : Option (Vec Op Global)) (inner : List Level) (os : Vec Op Global) (taken : List Op) (p : Parsed) → inner_of file top (reverse inner) ≡ p →
    top ≡ Some os → inner ≡ [] → taken ≡ reverse os.items → Some (ops_of file taken) ≡ whole p
whole_here file top inner os taken p h some none e =
    ap (λ xs. Some (ops_of file xs)) e ∙ (λ i. whole (inner_of file (sym some i) (reverse (sym none i)))) ∙ ap (λ x. whole x) h

-- an end closes nothing
pub whole_inside : (file : ℕ) (top : Option (Vec Op Global)) (inner : List Level) (p : Parsed) → inner_of file top (reverse inner) ≡ p → (inner ≡ [] → ⊥) → None ≡ whole p
whole_inside file top inner p h some =
    none_inside file top (reverse inner) (λ none. some (sym (reverse-reverse inner) ∙ ap (λ ls. reverse ls) none)) ∙ ap (λ x. whole x) h

pub whole_broken : (file : ℕ) (top : Option (Vec Op Global)) (inner : List Level) (p : Parsed) → inner_of file top (reverse inner) ≡ p → top ≡ None → None ≡ whole p
whole_broken file top inner p h none = none_broken file (reverse inner) ∙ ap (λ t. whole (inner_of file t (reverse inner))) (sym none) ∙ ap (λ x. whole x) h
