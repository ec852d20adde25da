use Rattle.std.proofs.Common.{arith}
use Rattle.std.proofs.lemmas.Str.Pattern.{split_parts}
use Rattle.yaml_print.proofs.Pieces.{cut-pieces, cut-shorter}
use Rattle.yaml_print.proofs.literal_fit.split_at_break.Goals as goal

pub returns-clause-pieces : goal.returns-clause-pieces
returns-clause-pieces c = cut-pieces c.args.text.now _ (split_parts 10 c.args.text.now _ c.split_once.ensures.cases (omega arith))

pub returns-clause-shorter : goal.returns-clause-shorter
returns-clause-shorter c = cut-shorter c.args.text.now _ (split_parts 10 c.args.text.now _ c.split_once.ensures.cases (omega arith))
