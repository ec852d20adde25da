use Rattle.yaml_read.proofs.opening.+open_blocks.Given as goal

abbrev pub decreases-open_blocks : goal.decreases-open_blocks
decreases-open_blocks l = l.left
