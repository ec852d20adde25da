use Rattle.std.specs.Option.{option_map}
use Rattle.ytt_base.specs.Outcomes.{place_at}
use Rattle.code_spec.specs.Blocks.{op_def}
use Rattle.star_tree.specs.View.{item_kind_of}
use Rattle.star_tree.specs.Whole.{parameters_of}
use Rattle.star_blocks.proofs.Forms.{of_def}
use Rattle.star_blocks.proofs.FromEnd.{opened}
use Rattle.star_blocks.proofs.nesting.open_def.Goals as goal

pub returns-in-Some : goal.returns-in-Some
returns-in-Some c = λ file.
    opened file c.put.result _ _ (op_def (place_at file c.args.line) c.args.number (option_map item_kind_of c.args.fragment) c.args.name (parameters_of file c.args.params)) _ _ _ _
    c.in-Some.is (c.take_block.ensures file) (c.put.ensures file) (of_def file c.args.line c.args.number c.args.fragment c.args.name c.args.params c.in-Some.block)
