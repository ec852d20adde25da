use Rattle.std.proofs.Common.{◌≡◌}
use Rattle.object_arena.proofs.Names.{length, freeze_since, seen, Grows}
use Rattle.object_arena.proofs.arena.Arena.freeze_since.Given as goal

-- freezing what is left gives what freezing all gave
abbrev pub invariant-loop-at : goal.invariant-loop-at
invariant-loop-at l = record { store : freeze_since l.at (seen l.self).store ≡ freeze_since l.initial.at (seen l.initial.self).store; count : length (seen l.self).store ≡ length (seen l.initial.self).store; held : (seen l.self).held ≡ (seen l.initial.self).held; grows : Grows (seen l.initial.self) (seen l.self) }
