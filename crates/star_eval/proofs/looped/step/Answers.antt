use Rattle.std.proofs.Common.{sym, ap, ◌∙◌}
use Rattle.star_eval.specs.declared.frame.Control.TheVariants as control
use Rattle.star_eval.specs.declared.frame.Machine.{Machine}
use Rattle.star_eval.specs.Frames.{inside}
use Rattle.star_eval.specs.Meets.{state_of}
use Rattle.star_eval.specs.View.{arena_in, frame_of, nodes_in, setting_of, waiting_in, waiting_under}
use Rattle.star_eval.proofs.Going.{goes}
use Rattle.star_eval.proofs.Popped.{popped_owned, popped_sound, popped_waits}
use Rattle.star_eval.proofs.Sorts.{bag_fails, flow_fails}
use Rattle.star_eval.proofs.looped.step.Goals as goal

pub fail-requires-clause-sound : goal.fail-requires-clause-sound
fail-requires-clause-sound c = popped_sound c.args.m.now c.pop-in-Failed.new.self c.in-Some-pop.frame c.in-Some-pop.ensures c.requires.sound

pub fail-requires-clause-frame : goal.fail-requires-clause-frame
fail-requires-clause-frame c = popped_owned c.args.m.now c.pop-in-Failed.new.self c.in-Some-pop.frame c.in-Some-pop.ensures c.requires.sound

pub went-requires-clause-sound : goal.went-requires-clause-sound
went-requires-clause-sound c = popped_sound c.args.m.now c.pop-in-Went.new.self c.in-Some-pop-2.frame c.in-Some-pop-2.ensures c.requires.sound

pub went-requires-clause-frame : goal.went-requires-clause-frame
went-requires-clause-frame c = popped_owned c.args.m.now c.pop-in-Went.new.self c.in-Some-pop-2.frame c.in-Some-pop-2.ensures c.requires.sound

pub fail-requires-in-Some-pop-3-clause-sound : goal.fail-requires-in-Some-pop-3-clause-sound
fail-requires-in-Some-pop-3-clause-sound c = popped_sound c.args.m.now c.pop-in-Left.new.self c.in-Some-pop-3.frame c.in-Some-pop-3.ensures c.requires.sound

pub fail-requires-in-Some-pop-3-clause-frame : goal.fail-requires-in-Some-pop-3-clause-frame
fail-requires-in-Some-pop-3-clause-frame c = popped_owned c.args.m.now c.pop-in-Left.new.self c.in-Some-pop-3.frame c.in-Some-pop-3.ensures c.requires.sound

pub bagged-requires-clause-sound : goal.bagged-requires-clause-sound
bagged-requires-clause-sound c = popped_sound c.args.m.now c.pop-in-Bagged.new.self c.in-Some-pop-4.frame c.in-Some-pop-4.ensures c.requires.sound

pub bagged-requires-clause-frame : goal.bagged-requires-clause-frame
bagged-requires-clause-frame c = popped_owned c.args.m.now c.pop-in-Bagged.new.self c.in-Some-pop-4.frame c.in-Some-pop-4.ensures c.requires.sound

pub fail-requires-in-Some-pop-5-clause-sound : goal.fail-requires-in-Some-pop-5-clause-sound
fail-requires-in-Some-pop-5-clause-sound c = popped_sound c.args.m.now c.pop-in-Lost.new.self c.in-Some-pop-5.frame c.in-Some-pop-5.ensures c.requires.sound

pub fail-requires-in-Some-pop-5-clause-frame : goal.fail-requires-in-Some-pop-5-clause-frame
fail-requires-in-Some-pop-5-clause-frame c = popped_owned c.args.m.now c.pop-in-Lost.new.self c.in-Some-pop-5.frame c.in-Some-pop-5.ensures c.requires.sound

pub returns-in-Some : goal.returns-in-Some
returns-in-Some c =
    let m = c.args.m.now in
    goes _ c.give.result c.give.new.m
    (sym (ap (inside m (waiting_in m)) c.in-Gave.is ∙ ap (λ ws. inside m ws (control.Gave c.in-Gave.value)) (popped_waits m c.pop.new.self c.in-Some.frame c.in-Some.ensures)))
    c.give.ensures

pub returns-in-Some-pop-2 : goal.returns-in-Some-pop-2
returns-in-Some-pop-2 c =
    let m = c.args.m.now in
    goes _ c.went.result c.went.new.m
    (sym (ap (inside m (waiting_in m)) c.in-Went.is ∙ ap (λ ws. inside m ws (control.Went c.in-Went.flow)) (popped_waits m c.pop-in-Went.new.self c.in-Some-pop-2.frame c.in-Some-pop-2.ensures)))
    c.went.ensures

pub returns-in-Some-pop-3 : goal.returns-in-Some-pop-3
returns-in-Some-pop-3 c =
    let m = c.args.m.now in
    let f = c.in-Left.fault in
    let n : Machine = record m { frames = c.pop-in-Left.new.self } in
    let w = frame_of (arena_in m) m.code c.in-Some-pop-3.frame in
    goes _ c.fail-in-Some-pop-3.result c.fail-in-Some-pop-3.new.m
    (sym (ap (inside m (waiting_in m)) c.in-Left.is ∙ ap (λ ws. inside m ws (control.Left f)) (popped_waits m c.pop-in-Left.new.self c.in-Some-pop-3.frame c.in-Some-pop-3.ensures) ∙ flow_fails (setting_of m) (nodes_in m) (waiting_under n c.in-Some-pop-3.frame) f (state_of m.session) w))
    c.fail-in-Some-pop-3.ensures

pub returns-in-Some-pop-4 : goal.returns-in-Some-pop-4
returns-in-Some-pop-4 c =
    let m = c.args.m.now in
    goes _ c.bagged.result c.bagged.new.m
    (sym (ap (inside m (waiting_in m)) c.in-Bagged.is ∙ ap (λ ws. inside m ws (control.Bagged c.in-Bagged.bag)) (popped_waits m c.pop-in-Bagged.new.self c.in-Some-pop-4.frame c.in-Some-pop-4.ensures)))
    c.bagged.ensures

pub returns-in-Some-pop : goal.returns-in-Some-pop
returns-in-Some-pop c =
    let m = c.args.m.now in
    goes _ c.fail.result c.fail.new.m
    (sym (ap (inside m (waiting_in m)) c.in-Failed.is ∙ ap (λ ws. inside m ws (control.Failed c.in-Failed.fault)) (popped_waits m c.pop-in-Failed.new.self c.in-Some-pop.frame c.in-Some-pop.ensures)))
    c.fail.ensures

pub returns-in-Some-pop-5 : goal.returns-in-Some-pop-5
returns-in-Some-pop-5 c =
    let m = c.args.m.now in
    let f = c.in-Lost.fault in
    let n : Machine = record m { frames = c.pop-in-Lost.new.self } in
    let w = frame_of (arena_in m) m.code c.in-Some-pop-5.frame in
    goes _ c.fail-in-Some-pop-5.result c.fail-in-Some-pop-5.new.m
    (sym (ap (inside m (waiting_in m)) c.in-Lost.is ∙ ap (λ ws. inside m ws (control.Lost f)) (popped_waits m c.pop-in-Lost.new.self c.in-Some-pop-5.frame c.in-Some-pop-5.ensures) ∙ bag_fails (setting_of m) (nodes_in m) (waiting_under n c.in-Some-pop-5.frame) f (state_of m.session) w))
    c.fail-in-Some-pop-5.ensures
