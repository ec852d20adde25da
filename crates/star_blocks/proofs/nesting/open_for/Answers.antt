use Rattle.ytt_base.specs.Outcomes.{place_at}
use Rattle.code_spec.specs.Blocks.{op_for}
use Rattle.star_tree.specs.Whole.{expr_of}
use Rattle.star_blocks.proofs.Forms.{of_for}
use Rattle.star_blocks.proofs.FromEnd.{opened}
use Rattle.star_blocks.proofs.nesting.open_for.Goals as goal

pub returns-in-Some : goal.returns-in-Some
returns-in-Some c = λ file.
    opened file c.put.result _ _ (op_for (place_at file c.args.line) (expr_of file c.args.target) (expr_of file c.args.members)) _ _ _ _
    c.in-Some.is (c.take_block.ensures file) (c.put.ensures file) (of_for file c.args.line c.args.target c.args.members c.in-Some.block)
