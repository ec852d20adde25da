use Rattle.std.proofs.Common.{◌≡◌, ◌++◌, drop, string_bytes}
use Rattle.listing_spec.specs.Listing.{listing}
use Rattle.star_tree.specs.Whole.{instructions_of, program_of}
use Rattle.listing.proofs.program.listing.Given as goal

abbrev pub invariant-loop-stmt : goal.invariant-loop-stmt
invariant-loop-stmt l = string_bytes l.out ++ listing (instructions_of l.program.file (drop l.stmt-index l.program.code)) ≡ listing (program_of l.program)
