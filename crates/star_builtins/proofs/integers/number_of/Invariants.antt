use Rattle.std.proofs.Common.{◌≡◌, ◌<◌, ◌^◌, drop, ℕ}
use Rattle.std.specs.Option.{SomeIff}
use Rattle.builtin_spec.specs.Builtins.{number_of}
use Rattle.star_builtins.proofs.integers.number_of.Given as goal

-- the digits that are left go on from the number of those before
abbrev pub invariant-loop-byte : goal.invariant-loop-byte
invariant-loop-byte l = (n : ℕ) × SomeIff l.number (n < 2 ^ 128) n × (number_of l.base n (drop l.byte-index l.digits) ≡ number_of l.base 0 l.digits)
