use Rattle.std.proofs.Common.{◌≡◌, length}
use Rattle.serde_json.specs.Data.{no_members}
use Rattle.serde_json.specs.View.{members_view}
use Rattle.mod_json.specs.Walk.{put_each}
use Rattle.mod_json.proofs.object.object_of.Given as goal

-- those that are left, put into the map as it is
abbrev pub invariant-loop-key : goal.invariant-loop-key
invariant-loop-key l = put_each l.left (members_view l.map.entries) ≡ put_each l.fn.entries.items no_members

abbrev pub decreases-loop-key : goal.decreases-loop-key
decreases-loop-key l = length l.left
