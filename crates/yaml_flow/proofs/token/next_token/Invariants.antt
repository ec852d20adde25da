use Rattle.std.proofs.Common.{◌≡◌, ◌≤◌, length}
use Rattle.yaml_flow.specs.Members.{token_from, token_behind}
use Rattle.yaml_noted.specs.View.{comments_of}
use Rattle.yaml_spec.specs.Flow.{size}
use Rattle.yaml_text.specs.View.{cursor_of}
use Rattle.yaml_flow.proofs.token.next_token.Given as goal

abbrev pub invariant-lines : goal.invariant-lines
invariant-lines l = record {
  whole : token_from l.open_place l.is_fresh (comments_of l.comments) (cursor_of l.here) ≡ token_behind l.open_place (comments_of l.fn.comments) (cursor_of l.cursor);
  within : size (cursor_of l.here) ≤ size (cursor_of l.cursor);
}

abbrev pub decreases-lines : goal.decreases-lines
decreases-lines l = length l.here.below.now
