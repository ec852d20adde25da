use Rattle.std.proofs.Common.{◌≡◌, ◌++◌, true, drop, take}
use Rattle.yaml_spec.specs.Plain.{span}
use Rattle.yaml_plain.proofs.ends.span_len.Given as goal

abbrev pub invariant-loop-at : goal.invariant-loop-at
invariant-loop-at l = take l.at l.text ++ span l.in_flow l.white (drop l.at l.text) ≡ span l.in_flow true l.text
