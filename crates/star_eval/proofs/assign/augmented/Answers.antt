use Rattle.std.proofs.Common.{◌≡◌, Err, subst, sym, ap, ◌∙◌}
use Rattle.ytt_base.specs.declared.fault.Stop.{Stop}
use Rattle.builtin_spec.specs.Operators.{assignment_row}
use Rattle.star_spec.specs.Names.{box_of, write_name}
use Rattle.star_steps.specs.Meets.{Meets}
use Rattle.star_tree.specs.Whole.{binary_operator_of}
use Rattle.star_values.specs.View.{value_of}
use Rattle.value_spec.specs.Outcomes.{bad, then_do}
use Rattle.star_eval.specs.declared.session.Session.{Session}
use Rattle.star_eval.specs.Frames.{around_flow}
use Rattle.star_eval.specs.Meets.{Here, arena_of, state_of}
use Rattle.star_eval.specs.Doing.{concluded}
use Rattle.star_eval.specs.View.{arena_in, env_of, nodes_in, waiting_in}
use Rattle.star_eval.specs.Waiting.{unwind_flow}
use Rattle.star_eval.proofs.Going.{goes_after}
use Rattle.star_eval.proofs.Growing.{kept}
use Rattle.star_eval.proofs.assign.augmented.Goals as goal

pub name_gets-requires-clause-sound : goal.name_gets-requires-clause-sound
name_gets-requires-clause-sound c = (kept c.args.m.now (record c.args.m.now.session { arena = c.augment.new.arena; work = c.augment.new.work }) c.augment.ensures.row.grows c.requires.sound).sound

pub returns-in-Ok : goal.returns-in-Ok
returns-in-Ok c =
    let m = c.args.m.now in
    let s : Session = record m.session { arena = c.augment.new.arena; work = c.augment.new.work } in
    let k = kept m s c.augment.ensures.row.grows c.requires.sound in
    let x = c.args.name.now in
    let v = value_of (arena_of s) c.in-Ok.changed in
    goes_after (arena_in m) (arena_of s) c.name_gets.result c.name_gets.new.m k.grows
    ((λ i. unwind_flow (k.setting i) (k.waiting i) (concluded (write_name c.args.at x v (box_of x (k.setting i).env)) (k.nodes i) (state_of s)))
    ∙ ap (λ o. around_flow m (waiting_in m) (then_do o (λ w. concluded (write_name c.args.at x w (box_of x (env_of m))) (nodes_in m)))) (sym c.in-Ok.ensures.row.meaning))
    c.name_gets.ensures

pub returns-in-Err-Fault : goal.returns-in-Err-Fault
returns-in-Err-Fault c =
    let m = c.args.m.now in
    let s : Session = record m.session { arena = c.augment.new.arena; work = c.augment.new.work } in
    let k = kept m s c.augment.ensures.row.grows c.requires.sound in
    let x = c.args.name.now in
    let row = assignment_row {H = Here} c.args.place (binary_operator_of c.args.op) (value_of (arena_in m) c.args.old) (value_of (arena_in m) c.args.value) in
    let refused : row (state_of m.session) ≡ bad c.in-Err-Fault.fault (state_of s) = subst (λ (e : Stop). Meets (value_of (arena_of s)) (Err e) (state_of s) (row (state_of m.session))) c.in-Err-Fault.field-0-is c.in-Err-Fault.ensures.row.meaning in
    rw (c.in-Err-Fault.field-0-is) (record {
      same = (λ i. unwind_flow (k.setting i) (k.waiting i) (bad c.in-Err-Fault.fault (state_of s)))
          ∙ ap (λ o. around_flow m (waiting_in m) (then_do o (λ w. concluded (write_name c.args.at x w (box_of x (env_of m))) (nodes_in m)))) (sym refused);
      sound = k.sound;
      owned = tt;
      grows = k.grows;
    })
