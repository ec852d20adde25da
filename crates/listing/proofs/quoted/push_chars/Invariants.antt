use Rattle.std.proofs.Common.{◌≡◌, ◌++◌, string_bytes}
use Rattle.yaml_spec.specs.Text.{quoted_chars}
use Rattle.listing.proofs.quoted.push_chars.Given as goal

abbrev pub invariant-loop-c : goal.invariant-loop-c
invariant-loop-c l = string_bytes l.out ≡ string_bytes l.initial.out ++ quoted_chars l.yielded
