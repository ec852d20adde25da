use Rattle.std.proofs.Common.{◌≡◌, ◌-◌, ◌<◌, ◌≤◌, length, drop, get_or}
use Rattle.yaml_quotes.specs.Turns.{number_at}
use Rattle.yaml_quotes.proofs.escapes.number.Given as goal

abbrev pub invariant-loop-at : goal.invariant-loop-at
invariant-loop-at l = record {
  same : number_at (l.count - l.at) l.value (drop l.at l.text) ≡ number_at l.count 0 l.text;
  bound : l.value ≤ 0x10FFFF;
  within : l.at ≤ length l.text;
  ascii : 0 < l.at → get_or l.text (l.at - 1) 0 < 128;
}
