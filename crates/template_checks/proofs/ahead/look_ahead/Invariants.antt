use Rattle.std.proofs.Common.{◌≡◌, drop, reverse, true, false}
use Rattle.template_events.specs.View.{rows_of}
use Rattle.template_pass.specs.Levels.{is_lost, next_level, note_faults}
use Rattle.template_spec.specs.Misplaced.{earliest}
use Rattle.template_checks.specs.Held.{wrong_of}
use Rattle.template_checks.specs.Walk.{nexts_of}
use Rattle.template_checks.proofs.ahead.look_ahead.Given as goal

abbrev pub invariant-loop-at : goal.invariant-loop-at
invariant-loop-at l =
    let behind = rows_of l.file (drop l.at l.rows) in
    record {
      nexts : reverse l.nexts ≡ nexts_of behind;
      next : l.next ≡ next_level behind;
      lost : l.lost ≡ is_lost false behind;
      lost_data : l.lost_data ≡ is_lost true behind;
      wrong : wrong_of l.wrong ≡ earliest (note_faults l.file behind);
    }
