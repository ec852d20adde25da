use Rattle.yaml_blocks.proofs.BlockTexts.{block_text-rest}
use Rattle.yaml_blocks.proofs.blocktext.BlockText.new.Goals as goal

pub returns-clause-whole : goal.returns-clause-whole
returns-clause-whole c chomp contents = rw c.new.ensures.bytes (block_text-rest c.args.is_literal chomp contents)
