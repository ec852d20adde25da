use Rattle.std.proofs.Common.{refl, sym, ◌∙◌}
use Rattle.ytt_base.specs.Outcomes.{place_at}
use Rattle.star_tree.specs.View.{item_kind_of}
use Rattle.star_tree.specs.Whole.{header_of}
use Rattle.template_tree.proofs.Nesting.{block_opened, done_same}
use Rattle.template_tree.proofs.nest.open_block.Goals as goal

pub returns-in-Inside : goal.returns-in-Inside
returns-in-Inside c = λ file.
    done_same _ _ _ _ (c.put_block.ensures file)
    (block_opened file (item_kind_of c.args.kind) (place_at file c.args.place.line) (header_of file c.args.header) c.args.nested.now _ _ _ _ _ _ _ _ (sym c.replace.ensures.value ∙ c.in-Inside.is) c.from_vec.ensures (c.replace-in-Inside.ensures.after ∙ c.into_inner.ensures) (c.block_of.ensures file) refl)
