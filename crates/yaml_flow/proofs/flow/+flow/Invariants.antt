use Rattle.std.proofs.Common.{◌≡◌, ℕ, ◌+◌, ◌*◌, ◌≤◌}
use Rattle.yaml_flow.specs.Members.{members}
use Rattle.yaml_flow.proofs.Collected.{with_all}
use Rattle.yaml_noted.specs.View.{comments_of}
use Rattle.yaml_spec.specs.Flow.{flow, size}
use Rattle.yaml_spec.specs.Quotes.{after}
use Rattle.yaml_text.specs.View.{cursor_of}
use Rattle.yaml_flow.proofs.flow.+flow.Given as goal

abbrev pub decreases-read_flow : goal.decreases-read_flow
decreases-read_flow l = 5 * l.left

abbrev pub decreases-read_node : goal.decreases-read_node
decreases-read_node l = 5 * l.left + 1

abbrev pub decreases-read_member : goal.decreases-read_member
decreases-read_member l = 5 * l.left + 2

abbrev pub decreases-read_turn : goal.decreases-read_turn
decreases-read_turn l = 5 * l.left + 3

abbrev pub decreases-read_members : goal.decreases-read_members
decreases-read_members l = 5 * l.left + 4

abbrev pub invariant-read_members-members : goal.invariant-read_members-members
invariant-read_members-members l = record {
  n : ℕ;
  enough : size (cursor_of l.here) ≤ n;
  within : size (cursor_of l.here) ≤ size (cursor_of l.cursor);
  whole : with_all l.items (members l.open_place (flow l.left l.open_place) l.is_map n (comments_of l.comments) (cursor_of l.here))
      ≡ members l.open_place (flow l.left l.open_place) l.is_map (size (cursor_of l.cursor)) (comments_of l.fn.comments) (after 1 (cursor_of l.cursor));
}

abbrev pub decreases-read_members-members : goal.decreases-read_members-members
decreases-read_members-members l = size (cursor_of l.here)
