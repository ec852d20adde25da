use Rattle.std.proofs.Common.{◌≡◌, Err, subst, sym, ap, ◌∙◌}
use Rattle.ytt_base.specs.declared.fault.Stop.{Stop}
use Rattle.index_spec.specs.Index.{set_index_row}
use Rattle.builtin_spec.specs.Operators.{assignment_row}
use Rattle.star_steps.specs.Meets.{Meets}
use Rattle.star_tree.specs.Whole.{binary_operator_of}
use Rattle.star_values.proofs.Growing.{owns_kept, value_kept}
use Rattle.star_values.specs.View.{value_of}
use Rattle.value_spec.specs.Outcomes.{bad, then_do}
use Rattle.star_eval.specs.declared.session.Session.{Session}
use Rattle.star_eval.specs.Frames.{around_flow}
use Rattle.star_eval.specs.Meets.{Here, arena_of, state_of}
use Rattle.star_eval.specs.Doing.{concluded}
use Rattle.star_eval.specs.View.{arena_in, nodes_in, waiting_in}
use Rattle.star_eval.specs.Waiting.{unwind_flow}
use Rattle.star_eval.proofs.Going.{goes_after}
use Rattle.star_eval.proofs.Growing.{kept}
use Rattle.star_eval.proofs.assign.augmented_at.Goals as goal

pub index_gets-requires-clause-sound : goal.index_gets-requires-clause-sound
index_gets-requires-clause-sound c = (kept c.args.m.now (record c.args.m.now.session { arena = c.augment.new.arena; work = c.augment.new.work }) c.augment.ensures.row.grows c.requires.sound).sound

pub index_gets-requires-clause-indexed : goal.index_gets-requires-clause-indexed
index_gets-requires-clause-indexed c = owns_kept (arena_in c.args.m.now) (arena_of (record c.args.m.now.session { arena = c.augment.new.arena; work = c.augment.new.work })) c.args.indexed.0 c.augment.ensures.row.grows c.requires.indexed

pub index_gets-requires-clause-index : goal.index_gets-requires-clause-index
index_gets-requires-clause-index c = owns_kept (arena_in c.args.m.now) (arena_of (record c.args.m.now.session { arena = c.augment.new.arena; work = c.augment.new.work })) c.args.indexed.1 c.augment.ensures.row.grows c.requires.index

pub returns-in-Ok : goal.returns-in-Ok
returns-in-Ok c =
    let m = c.args.m.now in
    let a = arena_in m in
    let s : Session = record m.session { arena = c.augment.new.arena; work = c.augment.new.work } in
    let b = arena_of s in
    let g = c.augment.ensures.row.grows in
    let k = kept m s g c.requires.sound in
    let x = value_kept a b c.args.indexed.0 g c.requires.indexed in
    let y = value_kept a b c.args.indexed.1 g c.requires.index in
    let v = value_of b c.in-Ok.changed in
    goes_after a b c.index_gets.result c.index_gets.new.m g
    ((λ i. unwind_flow (k.setting i) (k.waiting i) (concluded (set_index_row c.args.at (x i) (y i) v) (k.nodes i) (state_of s)))
    ∙ ap (λ o. around_flow m (waiting_in m) (then_do o (λ w. concluded (set_index_row c.args.at (value_of a c.args.indexed.0) (value_of a c.args.indexed.1) w) (nodes_in m)))) (sym c.in-Ok.ensures.row.meaning))
    c.index_gets.ensures

pub returns-in-Err-Fault : goal.returns-in-Err-Fault
returns-in-Err-Fault c =
    let m = c.args.m.now in
    let a = arena_in m in
    let s : Session = record m.session { arena = c.augment.new.arena; work = c.augment.new.work } in
    let k = kept m s c.augment.ensures.row.grows c.requires.sound in
    let row = assignment_row {H = Here} c.args.place (binary_operator_of c.args.op) (value_of a c.args.old) (value_of a c.args.value) in
    let refused : row (state_of m.session) ≡ bad c.in-Err-Fault.fault (state_of s) = subst (λ (e : Stop). Meets (value_of (arena_of s)) (Err e) (state_of s) (row (state_of m.session))) c.in-Err-Fault.field-0-is c.in-Err-Fault.ensures.row.meaning in
    rw (c.in-Err-Fault.field-0-is) (record {
      same = (λ i. unwind_flow (k.setting i) (k.waiting i) (bad c.in-Err-Fault.fault (state_of s)))
          ∙ ap (λ o. around_flow m (waiting_in m) (then_do o (λ w. concluded (set_index_row c.args.at (value_of a c.args.indexed.0) (value_of a c.args.indexed.1) w) (nodes_in m)))) (sym refused);
      sound = k.sound;
      owned = tt;
      grows = k.grows;
    })
