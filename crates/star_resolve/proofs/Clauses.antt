-- The events of one clause more.
use Rattle.std.proofs.Common.{◌≡◌, ℕ, ◌+◌, ◌<◌, length, drop, get_or, true, false, Bool, List, [], ◌∷◌, ◌++◌, sym, ap, ◌∙◌, append_assoc, map as each}
use Rattle.code_spec.specs.Code.{Name, Expr}
use Rattle.star_tree.specs.declared.code.Clause as held
use Rattle.star_tree.specs.declared.code.Clause.{Clause}
use Rattle.star_tree.specs.declared.code.Expr as tree
use Rattle.star_tree.specs.Whole as whole
use Rattle.star_tree.specs.Whole.{clauses_from, expr_of}
use Rattle.star_resolve.specs.declared.event.Event.{Event}
use Rattle.star_resolve.specs.declared.event.Event.TheVariants as event
use Rattle.star_resolve.specs.Events.{clauses_events, expr_events}
use Rattle.star_tree.specs.Listed.{clause_of, clauses_of}
use Rattle.star_resolve.proofs.Putting.{put_turn}
use Rattle.star_tree.proofs.Forms.{clause_of-ForIn, clause_of-OnlyIf}

pub first_for : (file : ℕ) (names : List Name) (c : Clause) (t m : tree.Expr) → c ≡ held.ForIn t m → (cs : List Clause) →
    clauses_events true names (clauses_of file (c ∷ cs)) ≡ (expr_events (expr_of file t) ++ (event.Leave ∷ (expr_events (expr_of file m) ++ event.Enter names ∷ []))) ++ clauses_events false names (clauses_of file cs)
first_for file names c t m e cs =
    let x = expr_events (expr_of file t) in
    let y = expr_events (expr_of file m) in
    let rest = clauses_events false names (clauses_of file cs) in
    ap (λ k. clauses_events true names (clauses_from (k ∷ each (clause_of file) cs))) (ap (clause_of file) e ∙ clause_of-ForIn file t m)
    ∙ ap (λ l. x ++ (event.Leave ∷ l)) (sym (append_assoc y (event.Enter names ∷ []) rest))
    ∙ sym (append_assoc x (event.Leave ∷ (y ++ event.Enter names ∷ [])) rest)

pub later_for : (file : ℕ) (names : List Name) (c : Clause) (t m : tree.Expr) → c ≡ held.ForIn t m → (cs : List Clause) →
    clauses_events false names (clauses_of file (c ∷ cs)) ≡ (expr_events (expr_of file t) ++ expr_events (expr_of file m)) ++ clauses_events false names (clauses_of file cs)
later_for file names c t m e cs =
    ap (λ k. clauses_events false names (clauses_from (k ∷ each (clause_of file) cs))) (ap (clause_of file) e ∙ clause_of-ForIn file t m)
    ∙ sym (append_assoc (expr_events (expr_of file t)) (expr_events (expr_of file m)) (clauses_events false names (clauses_of file cs)))

test_events : (b : Bool) (names : List Name) (e : Expr) (cs : List whole.Clause) → clauses_events b names (clauses_from (whole.if_part e ∷ cs)) ≡ expr_events e ++ clauses_events b names (clauses_from cs)
test_events true names e cs = λ i. expr_events e ++ clauses_events true names (clauses_from cs)
test_events false names e cs = λ i. expr_events e ++ clauses_events false names (clauses_from cs)

pub test_of : (file : ℕ) (b : Bool) (names : List Name) (c : Clause) (t : tree.Expr) → c ≡ held.OnlyIf t → (cs : List Clause) →
    clauses_events b names (clauses_of file (c ∷ cs)) ≡ expr_events (expr_of file t) ++ clauses_events b names (clauses_of file cs)
test_of file b names c t e cs =
    ap (λ k. clauses_events b names (clauses_from (k ∷ each (clause_of file) cs))) (ap (clause_of file) e ∙ clause_of-OnlyIf file t)
    ∙ test_events b names (expr_of file t) (each (clause_of file) cs)

-- one more turn over the clauses
pub clauses_turn : (file : ℕ) (names : List Name) (all now next : List Event) (xs : List Clause) (j : ℕ) (x : Clause) (waiting waits : Bool) (one : List Event) →
    j < length xs → x ≡ get_or xs j x → ((cs : List Clause) → clauses_events waiting names (clauses_of file (x ∷ cs)) ≡ one ++ clauses_events waits names (clauses_of file cs)) →
    now ++ clauses_events waiting names (clauses_of file (drop j xs)) ≡ all → next ≡ now ++ one → next ++ clauses_events waits names (clauses_of file (drop (j + 1) xs)) ≡ all
clauses_turn file names all now next xs j x waiting waits one =
    put_turn all now next xs j x (λ cs. clauses_events waiting names (clauses_of file cs)) (λ cs. clauses_events waits names (clauses_of file cs)) one
