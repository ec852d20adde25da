use Rattle.std.proofs.Common.{◌≡◌, ◌++◌, length, string_bytes}
use Rattle.module_spec.specs.Codecs.{hexadecimal}
use Rattle.mod_codec.proofs.bytes.hexadecimal.Given as goal

-- the digits so far, before those of what is left
abbrev pub invariant-loop-first : goal.invariant-loop-first
invariant-loop-first l = hexadecimal l.bytes ≡ string_bytes l.text ++ hexadecimal l.rest

abbrev pub decreases-loop-first : goal.decreases-loop-first
decreases-loop-first l = length l.rest
