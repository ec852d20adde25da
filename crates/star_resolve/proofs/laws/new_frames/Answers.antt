use Rattle.star_resolve.proofs.Frames as boxes
use Rattle.star_resolve.proofs.laws.new_frames.Goals as goal

pub returns : goal.returns
returns g c = boxes.new_frames
