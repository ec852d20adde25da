use Rattle.yaml_quotes.proofs.Pieces.{stop_ascii}
use Rattle.yaml_text.proofs.Whites.{cut_before}
use Rattle.yaml_quotes.specs.Turns.{is_plain}
use Rattle.yaml_quotes.proofs.scan.split_plain.Goals as goal

pub split_at-requires : goal.split_at-requires
split_at-requires c =
    rw (c.plain_len.ensures.len, c.as_bytes.ensures.value) (cut_before (is_plain c.args.is_double) c.args.text.now (stop_ascii c.args.is_double))
