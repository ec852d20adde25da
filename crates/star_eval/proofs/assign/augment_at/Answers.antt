use Rattle.std.proofs.Common.{◌≡◌, Err, subst, sym, ap, ◌∙◌}
use Rattle.ytt_base.specs.declared.fault.Stop.{Stop}
use Rattle.index_spec.specs.Index.{index_row}
use Rattle.star_steps.specs.Meets.{Meets}
use Rattle.star_tree.specs.Whole.{binary_operator_of, expr_of}
use Rattle.star_values.proofs.Growing.{owns_kept, value_kept}
use Rattle.star_values.specs.View.{value_of}
use Rattle.value_spec.specs.Outcomes.{bad, then_do}
use Rattle.star_eval.specs.declared.session.Session.{Session}
use Rattle.star_eval.specs.Frames.{around_flow}
use Rattle.star_eval.specs.Meets.{Here, arena_of, state_of}
use Rattle.star_eval.specs.Doing.{augmented_in}
use Rattle.star_eval.specs.View.{arena_in, nodes_in, setting_of, waiting_in}
use Rattle.star_eval.specs.Waiting.{unwind_flow}
use Rattle.star_eval.proofs.Going.{goes_after}
use Rattle.star_eval.proofs.Growing.{kept}
use Rattle.star_eval.proofs.assign.augment_at.Goals as goal

pub within-requires-clause-sound : goal.within-requires-clause-sound
within-requires-clause-sound c = (kept c.args.m.now (record c.args.m.now.session { arena = c.index.new.arena; work = c.index.new.work }) c.index.ensures.row.grows c.requires.sound).sound

pub within-requires-clause-frame : goal.within-requires-clause-frame
within-requires-clause-frame c =
    let a = arena_in c.args.m.now in
    let b = arena_of (record c.args.m.now.session { arena = c.index.new.arena; work = c.index.new.work }) in
    let g = c.index.ensures.row.grows in
    (owns_kept a b c.args.indexed g c.requires.indexed, owns_kept a b c.args.index g c.requires.index, c.in-Ok.ensures.row.owns)

pub returns-in-Ok : goal.returns-in-Ok
returns-in-Ok c =
    let m = c.args.m.now in
    let a = arena_in m in
    let s : Session = record m.session { arena = c.index.new.arena; work = c.index.new.work } in
    let b = arena_of s in
    let g = c.index.ensures.row.grows in
    let k = kept m s g c.requires.sound in
    let x = value_kept a b c.args.indexed g c.requires.indexed in
    let y = value_kept a b c.args.index g c.requires.index in
    let o = binary_operator_of c.args.op in
    let e = expr_of m.code.file c.args.expr.now in
    goes_after a b c.within.result c.within.new.m g
    ((λ i. unwind_flow (k.setting i) (k.waiting i) (augmented_in (k.setting i) c.args.place o c.args.at (x i) (y i) e (value_of b c.in-Ok.old) (k.nodes i) (state_of s)))
    ∙ ap (λ r. around_flow m (waiting_in m) (then_do r (λ old. augmented_in (setting_of m) c.args.place o c.args.at (value_of a c.args.indexed) (value_of a c.args.index) e old (nodes_in m)))) (sym c.in-Ok.ensures.row.meaning))
    c.within.ensures

pub returns-in-Err-Fault : goal.returns-in-Err-Fault
returns-in-Err-Fault c =
    let m = c.args.m.now in
    let a = arena_in m in
    let s : Session = record m.session { arena = c.index.new.arena; work = c.index.new.work } in
    let k = kept m s c.index.ensures.row.grows c.requires.sound in
    let o = binary_operator_of c.args.op in
    let e = expr_of m.code.file c.args.expr.now in
    let row = index_row {H = Here} c.args.at (value_of a c.args.indexed) (value_of a c.args.index) in
    let refused : row (state_of m.session) ≡ bad c.in-Err-Fault.fault (state_of s) = subst (λ (t : Stop). Meets (value_of (arena_of s)) (Err t) (state_of s) (row (state_of m.session))) c.in-Err-Fault.field-0-is c.in-Err-Fault.ensures.row.meaning in
    rw (c.in-Err-Fault.field-0-is) (record {
      same = (λ i. unwind_flow (k.setting i) (k.waiting i) (bad c.in-Err-Fault.fault (state_of s)))
          ∙ ap (λ r. around_flow m (waiting_in m) (then_do r (λ old. augmented_in (setting_of m) c.args.place o c.args.at (value_of a c.args.indexed) (value_of a c.args.index) e old (nodes_in m)))) (sym refused);
      sound = k.sound;
      owned = tt;
      grows = k.grows;
    })
