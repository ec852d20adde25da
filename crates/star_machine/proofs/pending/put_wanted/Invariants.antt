use Rattle.std.proofs.Common.{◌≡◌, ◌+◌, ◌≤◌, drop, length}
use Rattle.std.specs.Prelude.{reverse, vec_capacity, vec_len}
use Rattle.star_machine.specs.Pending.{wanted}
use Rattle.star_machine.proofs.pending.put_wanted.Given as goal

abbrev pub invariant-loop-left : goal.invariant-loop-left
invariant-loop-left l = record {
  within : l.left ≤ length l.symbols;
  room : vec_len l.items + l.left ≤ vec_capacity l.items;
  same : reverse l.items.items ≡ wanted (drop l.left l.symbols) (reverse l.fn.items.items);
}

abbrev pub decreases-loop-left : goal.decreases-loop-left
decreases-loop-left l = l.left
