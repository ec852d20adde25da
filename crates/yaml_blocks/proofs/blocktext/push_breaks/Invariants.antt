use Rattle.std.proofs.Common.{◌≡◌, ◌++◌, string_bytes}
use Rattle.yaml_spec.specs.Folding.{breaks}
use Rattle.yaml_blocks.proofs.blocktext.push_breaks.Given as goal

abbrev pub invariant-loop : goal.invariant-loop
invariant-loop l = string_bytes l.text ≡ string_bytes l.initial.text ++ breaks l.counter
