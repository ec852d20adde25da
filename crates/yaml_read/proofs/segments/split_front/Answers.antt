use Rattle.std.proofs.Common.{ap}
use Rattle.yaml_read.proofs.Segmenting.{front_is, next_is, fit_front, fit_next}
use Rattle.yaml_read.proofs.segments.split_front.Goals as goal

pub returns-clause-front : goal.returns-clause-front
returns-clause-front c = rw (c.split_at.ensures.front, c.front_len.ensures.len) (front_is c.args.lines.now)

pub returns-clause-next : goal.returns-clause-next
returns-clause-next c = rw (c.split_at.ensures.back, c.front_len.ensures.len) (ap (λ s. s.1) (next_is c.args.lines.now))

pub returns-clause-marked : goal.returns-clause-marked
returns-clause-marked c = rw (c.split_at.ensures.back, c.front_len.ensures.len) (ap (λ s. s.0) (next_is c.args.lines.now))

pub returns-clause-fits : goal.returns-clause-fits
returns-clause-fits c = λ h. rw (c.split_at.ensures.front, c.split_at.ensures.back) (fit_front c.front_len.result c.args.lines.now h, fit_next c.front_len.result c.args.lines.now h)
