use Rattle.std.proofs.Common.{◌≡◌, Err, subst, sym, ap, ◌∙◌}
use Rattle.ytt_base.specs.declared.fault.Stop.{Stop}
use Rattle.builtin_spec.specs.Operators.{assignment_row}
use Rattle.star_spec.specs.Flow.{on}
use Rattle.star_spec.specs.Names.{box_of, read_name, write_name}
use Rattle.star_steps.specs.Meets.{Meets}
use Rattle.star_tree.specs.Whole.{binary_operator_of, expr_of}
use Rattle.star_values.specs.Objects.{env_in}
use Rattle.star_values.specs.View.{value_of}
use Rattle.value_spec.specs.Outcomes.{bad, done, give, then_do, ◌>>=◌}
use Rattle.star_eval.specs.Doing.{evaluated}
use Rattle.star_eval.specs.Frames.{around_flow}
use Rattle.star_eval.specs.Meets.{Here, arena_of, state_of}
use Rattle.star_eval.specs.View.{arena_in, env_of, nodes_in, setting_of, waiting_in}
use Rattle.star_eval.specs.Waiting.{augment, statement_goes, unwind_flow}
use Rattle.star_eval.proofs.Going.{goes_after}
use Rattle.star_eval.proofs.Growing.{kept}
use Rattle.star_eval.proofs.run.augment_name.Goals as goal

pub within-requires-clause-sound : goal.within-requires-clause-sound
within-requires-clause-sound c = (kept c.args.m.now c.read.new.session c.read.ensures.grows c.requires).sound

pub returns-in-Ok : goal.returns-in-Ok
returns-in-Ok c =
    let m = c.args.m.now in
    let s = c.read.new.session in
    let b = arena_of s in
    let k = kept m s c.read.ensures.grows c.requires in
    let p = c.args.at in
    let x = c.args.name.now in
    let o = binary_operator_of c.args.op in
    let e = expr_of m.code.file c.args.expr.now in
    let old = value_of b c.in-Ok.old in
    let met = subst (λ scope. read_name {H = Here} p x (box_of x (env_in (arena_in m).held scope)) (state_of m.session) ≡ done old (state_of s)) c.as_slice.ensures c.in-Ok.ensures.meaning in
    goes_after (arena_in m) b c.within.result c.within.new.m k.grows
    ((λ i. unwind_flow (k.setting i) (k.waiting i) (then_do (evaluated (k.setting i) e (state_of s)) (λ v. statement_goes (k.setting i) (augment c.args.place o p x old) v (k.nodes i))))
    ∙ ap (λ r. around_flow m (waiting_in m) (then_do r (λ old. evaluated (setting_of m) e >>= λ v. assignment_row c.args.place o old v >>= λ w. write_name p x w (box_of x (env_of m)) >>= λ u. give (on (nodes_in m))))) (sym met))
    c.within.ensures

pub returns-in-Err-Fault : goal.returns-in-Err-Fault
returns-in-Err-Fault c =
    let m = c.args.m.now in
    let s = c.read.new.session in
    let k = kept m s c.read.ensures.grows c.requires in
    let p = c.args.at in
    let x = c.args.name.now in
    let o = binary_operator_of c.args.op in
    let e = expr_of m.code.file c.args.expr.now in
    let row = read_name {H = Here} p x (box_of x (env_of m)) in
    let met = subst (λ scope. Meets (value_of (arena_of s)) (Err c.in-Err-Fault.field-0) (state_of s) (read_name {H = Here} p x (box_of x (env_in (arena_in m).held scope)) (state_of m.session))) c.as_slice.ensures c.in-Err-Fault.ensures.meaning in
    let refused : row (state_of m.session) ≡ bad c.in-Err-Fault.fault (state_of s) = subst (λ (t : Stop). Meets (value_of (arena_of s)) (Err t) (state_of s) (row (state_of m.session))) c.in-Err-Fault.field-0-is met in
    rw (c.in-Err-Fault.field-0-is) (record {
      same = (λ i. unwind_flow (k.setting i) (k.waiting i) (bad c.in-Err-Fault.fault (state_of s)))
          ∙ ap (λ r. around_flow m (waiting_in m) (then_do r (λ old. evaluated (setting_of m) e >>= λ v. assignment_row c.args.place o old v >>= λ w. write_name p x w (box_of x (env_of m)) >>= λ u. give (on (nodes_in m))))) (sym refused);
      sound = k.sound;
      owned = tt;
      grows = k.grows;
    })
