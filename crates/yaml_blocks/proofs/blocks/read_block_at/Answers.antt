use Rattle.std.proofs.lemmas.List.{take_rest, drop-map}
use Rattle.yaml_blocks.proofs.blocks.read_block_at.Goals as goal

pub returns : goal.returns
returns c = rw c.in_ok-text.ensures.read (rw (take_rest, drop-map))
