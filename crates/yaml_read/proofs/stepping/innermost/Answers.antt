use Rattle.yaml_read.proofs.Turns.{last_left-at}
use Rattle.yaml_read.proofs.stepping.innermost.Goals as goal

pub returns-in-Some-clause-left : goal.returns-in-Some-clause-left
returns-in-Some-clause-left c = last_left-at 100 c.args.frames.now c.in-Some.frame.now c.in-Some.ensures.item.3.0 c.in-Some.ensures.item.1
