use Rattle.std.proofs.Common.{◌∙◌, sym}
use Rattle.yaml_rows.proofs.KeyTexts.{key_at-quoted, key_at-collection, key_at-bare}
use Rattle.yaml_rows.proofs.keys.read_key.Goals as goal

pub returns-then-starts_quote : goal.returns-then-starts_quote
returns-then-starts_quote c = rw (key_at-quoted c.args.text.now (sym c.starts_quote.ensures ∙ c.if-starts_quote.true)) c.read_quoted_key.ensures

pub returns-then-starts_collection : goal.returns-then-starts_collection
returns-then-starts_collection c =
    rw (key_at-collection c.args.text.now (sym c.starts_quote.ensures ∙ c.if-starts_quote.false) (sym c.starts_collection.ensures ∙ c.if-starts_collection.true)) c.read_collection_key.ensures

pub returns : goal.returns
returns c =
    rw (key_at-bare c.args.text.now (sym c.starts_quote.ensures ∙ c.if-starts_quote.false) (sym c.starts_collection.ensures ∙ c.if-starts_collection.false)) c.read_bare_key.ensures
