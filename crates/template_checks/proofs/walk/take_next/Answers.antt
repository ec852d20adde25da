use Rattle.template_checks.proofs.Steps.{none_popped, popped}
use Rattle.template_checks.proofs.walk.take_next.Goals as goal

pub returns-in-Some-clause-value : goal.returns-in-Some-clause-value
returns-in-Some-clause-value c = λ n ns h. (popped _ _ _ n ns c.in-Some.ensures h).0

pub returns-in-Some-clause-rest : goal.returns-in-Some-clause-rest
returns-in-Some-clause-rest c = λ n ns h. (popped _ _ _ n ns c.in-Some.ensures h).1

pub returns-in-None-clause-value : goal.returns-in-None-clause-value
returns-in-None-clause-value c = λ n ns h. absurd (none_popped _ n ns c.in-None.ensures.0 h)

pub returns-in-None-clause-rest : goal.returns-in-None-clause-rest
returns-in-None-clause-rest c = λ n ns h. absurd (none_popped _ n ns c.in-None.ensures.0 h)
