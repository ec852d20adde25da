use Rattle.star_resolve.proofs.Frames as boxes
use Rattle.star_resolve.proofs.laws.call_frames.Goals as goal

pub returns : goal.returns
returns g c = boxes.call_frames
