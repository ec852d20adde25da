use Rattle.std.proofs.Common.{◌≡◌, drop}
use Rattle.ytt_outside.specs.SinkSteps.{taken_at}
use Rattle.ytt_outside.proofs.mem_sink.taken_at.Given as goal

abbrev pub invariant-loop-fail : goal.invariant-loop-fail
invariant-loop-fail l = taken_at (drop l.fail-index l.fails) l.call ≡ taken_at l.fails l.call
