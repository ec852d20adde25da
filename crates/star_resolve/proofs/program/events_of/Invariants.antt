use Rattle.std.proofs.Common.{◌≡◌, ◌++◌, drop, reverse, map as each}
use Rattle.star_tree.specs.Whole.{instruction_of, program_of}
use Rattle.star_resolve.specs.Events.{program_events}
use Rattle.star_resolve.proofs.program.events_of.Given as goal

abbrev pub invariant-loop-stmt : goal.invariant-loop-stmt
invariant-loop-stmt l = l.events ++ program_events (reverse l.left) (each (instruction_of l.program.file) (drop l.stmt-index l.program.code)) ≡ program_events (reverse l.initial.left) (program_of l.program)
