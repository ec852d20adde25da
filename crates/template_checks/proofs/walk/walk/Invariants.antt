use Rattle.std.proofs.Common.{◌≡◌, drop, reverse}
use Rattle.template_events.specs.View.{rows_of}
use Rattle.template_checks.specs.Held.{opens_of, returned_of}
use Rattle.template_checks.specs.Walk.{nexts_of}
use Rattle.template_checks.proofs.Walking.{IsWalking}
use Rattle.template_checks.proofs.walk.walk.Given as goal

abbrev pub invariant-loop-at : goal.invariant-loop-at
invariant-loop-at l =
    let rest = rows_of l.file (drop l.at l.rows) in
    record {
      walking : IsWalking l.file (rows_of l.file l.rows) rest l.at (opens_of l.blocks) l.flags (returned_of l.returned) l.levels;
      nexts : reverse l.left ≡ nexts_of rest;
    }
