use Rattle.std.proofs.Common.{◌+◌, ◌*◌}
use Rattle.test_schema.proofs.shown.+types.Given as goal

abbrev pub decreases-put_schema : goal.decreases-put_schema
decreases-put_schema l = 2 * l.levels + 1

abbrev pub decreases-put_item : goal.decreases-put_item
decreases-put_item l = 2 * l.levels

abbrev pub decreases-put_types : goal.decreases-put_types
decreases-put_types l = 2 * l.levels
