use Rattle.std.proofs.Common.{Option, ap, sym}
use Rattle.std.specs.Prelude.{option_map}
use Rattle.template_spec.specs.Nesting.{put_block}
use Rattle.template_tree.specs.declared.tree.TItem.{TItem}
use Rattle.template_tree.specs.Nests.{nested_of}
use Rattle.template_tree.specs.View.{item_of}
use Rattle.template_tree.proofs.Nesting.{done_same}
use Rattle.template_tree.proofs.nest.put_block.Goals as goal

pub returns-in-Some : goal.returns-in-Some
returns-in-Some c = λ file. done_same _ _ _ _ (c.put_item.ensures file) (ap (λ (b : Option TItem). put_block (option_map (item_of file) b) (nested_of file c.args.nested.now)) (sym c.in-Some.is))
