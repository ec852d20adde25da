use Rattle.std.proofs.Common.{◌≡◌, drop, ℕ}
use Rattle.text_spec.specs.Fields.{digits_number}
use Rattle.star_text.specs.Formatting.{IsPlace}
use Rattle.star_text.proofs.fields.place_of.Given as goal

-- the digits that are left go on from the number of those before
abbrev pub invariant-loop-byte : goal.invariant-loop-byte
invariant-loop-byte l = (n : ℕ) × IsPlace l.place n × (digits_number n (drop l.byte-index l.digits) ≡ digits_number 0 l.digits)
