use Rattle.std.proofs.Common.{◌≡◌, ◌+◌, drop}
use Rattle.yaml_spec.specs.Bytes.{indent}
use Rattle.yaml_lines.proofs.characters.indent.Given as goal

abbrev pub invariant-loop-byte : goal.invariant-loop-byte
invariant-loop-byte l = (l.spaces ≡ l.byte-index) × (l.spaces + indent (drop l.byte-index l.text) ≡ indent l.text)
