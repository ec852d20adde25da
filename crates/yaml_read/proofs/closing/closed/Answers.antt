use Rattle.yaml_read.proofs.Blocks.{list_closed, map_closed}
use Rattle.yaml_read.proofs.closing.closed.Goals as goal

pub returns-then-is_list : goal.returns-then-is_list
returns-then-is_list c = rw c.if-is_list.true (list_closed _ _ _ c.in_ok-items.ensures)

pub returns-else-is_list : goal.returns-else-is_list
returns-else-is_list c = rw c.if-is_list.false (map_closed _ _ _ c.in_ok-items.ensures)
