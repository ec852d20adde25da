use Rattle.std.proofs.Common.{◌≡◌, drop}
use Rattle.yaml_noted.specs.View.{comments_of}
use Rattle.yaml_spec.specs.Noted.{code_in_some}
use Rattle.yaml_trees.proofs.code.code_in_some.Given as goal

abbrev pub invariant-loop-comment : goal.invariant-loop-comment
invariant-loop-comment l = code_in_some (comments_of (drop l.comment-index l.comments)) ≡ code_in_some (comments_of l.comments)
