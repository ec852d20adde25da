use Rattle.yaml_read.proofs.MarkerBytes.{marker_long}
use Rattle.yaml_spec.specs.Held.{plain_line}
use Rattle.yaml_read.proofs.markers.behind_marker.Goals as goal

pub behind-requires-clause-within : goal.behind-requires-clause-within
behind-requires-clause-within c = let long = marker_long (plain_line c.args.line.now) c.requires in rw c.as_str.ensures long.three

pub behind-requires-clause-ascii : goal.behind-requires-clause-ascii
behind-requires-clause-ascii c = let long = marker_long (plain_line c.args.line.now) c.requires in rw c.as_str.ensures long.ascii
