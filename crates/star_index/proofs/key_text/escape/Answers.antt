use Rattle.star_index.proofs.Names.{arith, has_no_escape}
use Rattle.star_index.proofs.key_text.escape.Goals as goal

pub returns-in_default : goal.returns-in_default
returns-in_default c = has_no_escape c.args.c (λ e. omega arith) (λ e. omega arith) (λ e. omega arith) (λ e. omega arith) (λ e. omega arith)
