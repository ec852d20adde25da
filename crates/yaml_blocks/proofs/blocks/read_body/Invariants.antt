use Rattle.std.proofs.Common.{◌≡◌, ◌+◌, ◌≤◌, drop, length}
use Rattle.yaml_spec.specs.Blocks.{block_text}
use Rattle.yaml_spec.specs.Held.{plain_lines}
use Rattle.yaml_blocks.specs.BlockLines.{contents_of, with_contents}
use Rattle.yaml_blocks.specs.BlockView.{held_chomp}
use Rattle.yaml_blocks.proofs.blocks.read_body.Given as goal

abbrev pub invariant-loop-at : goal.invariant-loop-at
invariant-loop-at l = record {
  whole : with_contents l.block (held_chomp l.chomp) (contents_of l.indent (plain_lines (drop l.at l.below))) ≡ block_text l.is_literal (held_chomp l.chomp) (contents_of l.indent (plain_lines l.below));
  size : l.at + length (contents_of l.indent (plain_lines (drop l.at l.below))) ≡ length (contents_of l.indent (plain_lines l.below));
  few : l.block.empties ≤ l.at;
}
