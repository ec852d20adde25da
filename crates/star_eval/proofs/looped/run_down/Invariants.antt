use Rattle.star_eval.specs.Frames.{means}
use Rattle.star_eval.specs.Hosted.{Comes, hosted_at}
use Rattle.star_eval.specs.View.{arena_in}
use Rattle.star_eval.proofs.looped.run_down.Given as goal

abbrev pub invariant-loop-control : goal.invariant-loop-control
invariant-loop-control g l = Comes g.H.Host.answers (arena_in l.initial.machine) l.machine l.control l.host (hosted_at g.H.Host.answers (means l.initial.machine l.initial.control) l.initial.host)

abbrev pub decreases-loop-control : goal.decreases-loop-control
decreases-loop-control g l = l.turns_left
