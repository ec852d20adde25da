use Rattle.star_resolve.proofs.Boxes as boxes
use Rattle.star_resolve.proofs.laws.names_have_their_boxes.Goals as goal

pub returns : goal.returns
returns c = boxes.names_have_their_boxes
