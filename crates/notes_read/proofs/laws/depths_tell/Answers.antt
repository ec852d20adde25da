use Rattle.notes_read.proofs.Longer.{depths_tell}
use Rattle.notes_read.proofs.laws.depths_tell.Goals as goal

pub returns : goal.returns
returns c = depths_tell
