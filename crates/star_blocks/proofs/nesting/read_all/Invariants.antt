use Rattle.std.proofs.Common.{◌≡◌, ◌++◌, ℕ, drop, length}
use Rattle.code_spec.specs.Blocks.{parse}
use Rattle.star_tree.specs.Whole.{instructions_of}
use Rattle.star_blocks.specs.Reading.{parsed_of}
use Rattle.star_blocks.proofs.nesting.read_all.Given as goal

abbrev pub invariant-loop-stmt : goal.invariant-loop-stmt
invariant-loop-stmt l = record {
  whole : l.left ++ drop (length l.left) l.fn.code ≡ l.fn.code;
  read : (file : ℕ) → parsed_of file l.reading ≡ parse (instructions_of file (drop (length l.left) l.fn.code));
}

abbrev pub decreases-loop-stmt : goal.decreases-loop-stmt
decreases-loop-stmt l = length l.left
