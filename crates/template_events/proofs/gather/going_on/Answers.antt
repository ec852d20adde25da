use Rattle.template_events.proofs.gather.going_on.Goals as goal

pub returns-in-Some-None-clause-goes_on : goal.returns-in-Some-None-clause-goes_on
returns-in-Some-None-clause-goes_on c = λ r reads file. rw c.in-Some-None.is-0 (rw c.in-Some-None.is-1 (c.continuation.ensures.goes_on r reads file))
