use Rattle.yaml_noted.specs.View.{comments_of}
use Rattle.template_events.specs.Levels.{loose_all}
use Rattle.template_events.proofs.Taking.{IsHearing}
use Rattle.template_events.proofs.flat.hear_loose.Given as goal

abbrev pub invariant-loop-comment : goal.invariant-loop-comment
invariant-loop-comment l = IsHearing l.setting (λ cs. loose_all (comments_of cs)) l.comments l.initial.hearing l.comment-index l.hearing
