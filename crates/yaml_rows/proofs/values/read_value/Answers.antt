use Rattle.std.proofs.Common.{◌∙◌, sym}
use Rattle.yaml_noted.specs.View.{comments_of}
use Rattle.yaml_text.specs.View.{cursor_of}
use Rattle.yaml_rows.proofs.Openings.{value-block}
use Rattle.yaml_rows.proofs.values.read_value.Goals as goal

pub returns-then-starts_block : goal.returns-then-starts_block
returns-then-starts_block c =
    rw (value-block c.args.left c.args.open_place c.args.least c.args.owner (comments_of c.args.comments) (cursor_of c.args.cursor) (sym c.starts_collection.ensures ∙ c.if-starts_collection.false) (sym c.starts_quote.ensures ∙ c.if-starts_quote.false) (sym c.starts_block.ensures ∙ c.if-starts_block.true))
    c.read_block_value.ensures
