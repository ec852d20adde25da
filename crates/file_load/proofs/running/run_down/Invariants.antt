use Rattle.std.proofs.Common.{◌≡◌, []}
use Rattle.file_load.specs.Turns.{GoesOn, left_of, setting_in}
use Rattle.file_load.proofs.running.run_down.Given as goal

abbrev pub invariant-loop-turns_left : goal.invariant-loop-turns_left
invariant-loop-turns_left l =
    let before = l.initial.session in
    let s = setting_in l.functions l.programs before in
    record {
      goes : GoesOn s l.programs l.session l.given l.waiting (left_of s before l.initial.given [] l.fn.start) l.run;
      depth : l.session.work.depth ≡ before.work.depth;
    }

abbrev pub decreases-loop-turns_left : goal.decreases-loop-turns_left
decreases-loop-turns_left l = l.turns_left
