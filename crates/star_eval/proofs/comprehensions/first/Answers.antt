use Rattle.std.proofs.lemmas.Grind.{common_steps}
use Rattle.std.proofs.Common.{arith, ◌≡◌, ◌++◌, ◌∷◌, [], subst, sym, ap, map as each, ◌∙◌}
use Rattle.code_spec.specs.Code as plain
use Rattle.code_spec.specs.Names.{clauses_names}
use Rattle.star_tree.proofs.Forms.{clause_of-ForIn}
use Rattle.star_tree.specs.Listed.{clause_of, clauses_of}
use Rattle.star_tree.specs.Whole.{clauses_from, expr_of}
use Rattle.star_values.proofs.Growing.{owns_kept}
use Rattle.star_values.specs.Objects.{env_in}
use Rattle.star_values.specs.View.{value_of}
use Rattle.star_eval.specs.declared.frame.Frame.TheVariants as frame
use Rattle.star_eval.specs.Doing.{clause_looped, first_done}
use Rattle.star_eval.specs.Frames.{OpensClauses, around_bag, around_value}
use Rattle.star_eval.specs.Meets.{arena_of, state_of}
use Rattle.star_eval.specs.View.{Sound, arena_in, bag_of, env_of, setting_of, waiting_in}
use Rattle.star_eval.proofs.Clauses.{Begun, begun_same, begun_sound}
use Rattle.star_eval.proofs.Going.{goes_after}
use Rattle.star_eval.proofs.Growing.{bag_kept}
use Rattle.star_eval.proofs.comprehensions.first.Goals as goal

pub clause_loop-requires-clause-sound : goal.clause_loop-requires-clause-sound
clause_loop-requires-clause-sound c =
    let m = c.args.m.now in
    let f = m.code.file in
    let n = c.in-Some-ForIn-default in
    let is : clauses_of f c.args.clauses.now ≡ plain.for_clause (expr_of f n.target) (expr_of f n.field-0-0-1) (clauses_of f n.rest.now) =
    ap (clauses_of f) (sym c.as_slice.ensures ∙ n.ensures.cases.0) ∙ ap (λ x. clauses_from (x ∷ each (clause_of f) n.rest.now)) (ap (clause_of f) n.field-0-0-is ∙ clause_of-ForIn f n.target n.field-0-0-1) in
    let s = c.open_clauses.new.session in
    let scope = c.in_ok-scope-in-Some-ForIn-default.scope in
    let opened = subst (λ bs. OpensClauses (clauses_names (clauses_of f c.args.clauses.now)) (env_in (arena_in m).held bs) m.session s scope) c.as_slice-in-Some-ForIn-default.ensures (c.in_ok-scope-in-Some-ForIn-default.ensures f) in
    let o = subst (λ cs. OpensClauses (clauses_names cs) (env_of m) m.session s scope) is opened in
    let fs = m.frames ++ frame.Gather m.scope ∷ [] in
    let frames = c.in_ok-push-in-Some-ForIn-default.ensures.ok ∙ ap (λ x. m.frames ++ frame.Gather x ∷ []) c.replace-outer.ensures.value in
    let x = expr_of f n.target in
    let e = expr_of f n.field-0-0-1 in
    let cs = clauses_of f n.rest.now in
    let machine : (record m { scope = c.replace-outer.new.dest; session = s; frames = c.push.new.self }) ≡ Begun m s scope fs x e cs o c.requires.sound (λ i. fs) =
    λ i. record m { scope = c.replace-outer.ensures.after i; session = s; frames = frames i } in
    subst Sound (sym machine) (begun_sound m s scope fs x e cs o c.requires.sound (λ i. fs))

pub clause_loop-requires-clause-bag : goal.clause_loop-requires-clause-bag
clause_loop-requires-clause-bag c =
    let m = c.args.m.now in
    (bag_kept (arena_in m) (arena_of c.open_clauses.new.session) m.code.file (c.in_ok-scope-in-Some-ForIn-default.ensures m.code.file).grows c.args.bag c.requires.bag).0

pub clause_loop-requires-clause-value : goal.clause_loop-requires-clause-value
clause_loop-requires-clause-value c =
    let m = c.args.m.now in
    owns_kept (arena_in m) (arena_of c.open_clauses.new.session) c.args.value (c.in_ok-scope-in-Some-ForIn-default.ensures m.code.file).grows c.requires.value

pub returns-in-Some-ForIn-default : goal.returns-in-Some-ForIn-default
returns-in-Some-ForIn-default c =
    let m = c.args.m.now in
    let f = m.code.file in
    let n = c.in-Some-ForIn-default in
    let is : clauses_of f c.args.clauses.now ≡ plain.for_clause (expr_of f n.target) (expr_of f n.field-0-0-1) (clauses_of f n.rest.now) =
    ap (clauses_of f) (sym c.as_slice.ensures ∙ n.ensures.cases.0) ∙ ap (λ x. clauses_from (x ∷ each (clause_of f) n.rest.now)) (ap (clause_of f) n.field-0-0-is ∙ clause_of-ForIn f n.target n.field-0-0-1) in
    let s = c.open_clauses.new.session in
    let scope = c.in_ok-scope-in-Some-ForIn-default.scope in
    let opened = subst (λ bs. OpensClauses (clauses_names (clauses_of f c.args.clauses.now)) (env_in (arena_in m).held bs) m.session s scope) c.as_slice-in-Some-ForIn-default.ensures (c.in_ok-scope-in-Some-ForIn-default.ensures f) in
    let o = subst (λ cs. OpensClauses (clauses_names cs) (env_of m) m.session s scope) is opened in
    let fs = m.frames ++ frame.Gather m.scope ∷ [] in
    let x = expr_of f n.target in
    let e = expr_of f n.field-0-0-1 in
    let cs = clauses_of f n.rest.now in
    let frames = c.in_ok-push-in-Some-ForIn-default.ensures.ok ∙ ap (λ x. m.frames ++ frame.Gather x ∷ []) c.replace-outer.ensures.value in
    let target : expr_of f c.get.result.now ≡ expr_of f n.target = grind (arith, common_steps) in
    let machine : (record m { scope = c.replace-outer.new.dest; session = s; frames = c.push.new.self }) ≡ Begun m s scope fs x e cs o c.requires.sound (λ i. fs) =
    λ i. record m { scope = c.replace-outer.ensures.after i; session = s; frames = frames i } in
    goes_after (arena_in m) (arena_of s) c.clause_loop.result c.clause_loop.new.m o.grows
    ((λ i. around_bag (machine i) (waiting_in (machine i)) (clause_looped (setting_of (machine i)) c.args.place (target i) cs (value_of (arena_of s) c.args.value) (bag_of (arena_of s) f c.args.bag) (state_of s)))
    ∙ begun_same m s scope fs x e cs o c.requires.sound (λ i. fs) c.args.place c.args.value c.args.bag c.requires.value c.requires.bag
    ∙ sym (ap (λ cs. around_value m (waiting_in m) (first_done (setting_of m) c.args.place cs (bag_of (arena_in m) f c.args.bag) (value_of (arena_in m) c.args.value) (state_of m.session))) is))
    c.clause_loop.ensures
