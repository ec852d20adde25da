use Rattle.std.proofs.Common.{◌≡◌, ◌++◌, Err, ap, subst, sym, ◌∙◌}
use Rattle.std.specs.Prelude.{string_bytes}
use Rattle.ytt_base.specs.declared.fault.Stop.{Stop}
use Rattle.star_spec.specs.Eval.{shown_row}
use Rattle.star_shown.specs.Pushes.{behind}
use Rattle.star_steps.specs.Meets.{Meets, state_in}
use Rattle.star_tree.specs.Listed.{pieces_of}
use Rattle.star_values.proofs.Growing.{grows_same}
use Rattle.star_values.specs.View.{value_of}
use Rattle.value_spec.proofs.Computations.{then_assoc}
use Rattle.value_spec.specs.Outcomes.{bad, give, then_do}
use Rattle.star_eval.specs.Doing.{pieces_then}
use Rattle.star_eval.specs.Frames.{around_value}
use Rattle.star_eval.specs.Meets.{Here, state_of}
use Rattle.star_eval.specs.View.{arena_in, setting_of, waiting_in}
use Rattle.star_eval.proofs.Going.{goes}
use Rattle.star_eval.proofs.templates.shown.Goals as goal

pub returns-in-Ok : goal.returns-in-Ok
returns-in-Ok c =
    let m = c.args.m.now in
    let s = state_of m.session in
    let p = c.args.place in
    let before = string_bytes c.args.before in
    let row = shown_row {H = Here} p (value_of (arena_in m) c.args.value) in
    let more = pieces_then (setting_of m) p (pieces_of m.code.file c.args.rest.now) in
    goes _ c.more_pieces.result c.more_pieces.new.m
    (ap (around_value m (waiting_in m)) (sym (sym (then_assoc (row s) (λ t. give (before ++ t)) more) ∙ ap (λ o. then_do o more) c.in-Ok.ensures)))
    c.more_pieces.ensures

pub returns-in-Err-Fault : goal.returns-in-Err-Fault
returns-in-Err-Fault c =
    let m = c.args.m.now in
    let a = arena_in m in
    let s = state_of m.session in
    let p = c.args.place in
    let before = string_bytes c.args.before in
    let row = shown_row {H = Here} p (value_of a c.args.value) in
    let more = pieces_then (setting_of m) p (pieces_of m.code.file c.args.rest.now) in
    let now = state_in a c.push_str.new.steps in
    let refused : behind before row s ≡ bad c.in-Err-Fault.fault now = subst (λ (t : Stop). Meets (λ (u : Unit {0}). string_bytes c.push_str.new.shown) (Err t) now (behind before row s)) c.in-Err-Fault.field-0-is c.in-Err-Fault.ensures in
    rw (c.in-Err-Fault.field-0-is) (record {
      same = ap (around_value m (waiting_in m)) (sym (sym (then_assoc (row s) (λ t. give (before ++ t)) more) ∙ ap (λ o. then_do o more) refused));
      sound = record { scope = c.requires.sound.scope; nodes = c.requires.sound.nodes; frames = c.requires.sound.frames };
      owned = tt;
      grows = grows_same a;
    })
