use Rattle.std.proofs.Common.{ap, sym, ◌∙◌}
use Rattle.ytt_base.specs.Outcomes.{place_at}
use Rattle.star_tree.specs.View.{item_kind_of}
use Rattle.star_tree.specs.Whole.{header_of}
use Rattle.template_spec.specs.Nesting.{put_block}
use Rattle.template_tree.specs.Nests.{nested_of}
use Rattle.template_tree.proofs.Nesting.{done_same, nested_of-Broken}
use Rattle.template_tree.proofs.nest.around_one.Goals as goal

pub returns-in-None : goal.returns-in-None
returns-in-None c = λ file.
    ap (nested_of file) c.break_off.ensures ∙ nested_of-Broken file ∙ sym (c.in-None.ensures file (item_kind_of c.args.kind) (place_at file c.args.place.line) (header_of file c.args.header))

pub returns-in_ok-block-in-Some : goal.returns-in_ok-block-in-Some
returns-in_ok-block-in-Some c = λ file.
    done_same _ _ _ _ (c.put_block.ensures file)
    (ap (λ b. put_block b (nested_of file c.pop_item.new.nested)) (c.in_ok-block-in-Some.ensures file) ∙ sym (c.in-Some.ensures file (item_kind_of c.args.kind) (place_at file c.args.place.line) (header_of file c.args.header)))
