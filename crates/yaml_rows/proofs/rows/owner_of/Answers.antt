use Rattle.std.proofs.lemmas.Bool.{false≢true}
use Rattle.yaml_rows.proofs.DashHeads.{heads-some}
use Rattle.yaml_rows.proofs.rows.owner_of.Goals as goal

pub returns-else-is_empty : goal.returns-else-is_empty
returns-else-is_empty c before = rw (c.if-row.false, heads-some c.args.row.now.heads (λ none. false≢true (rw c.if-is_empty.false at (c.is_empty.ensures.1 none))))
