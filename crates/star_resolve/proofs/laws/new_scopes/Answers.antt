use Rattle.star_resolve.proofs.Boxes as boxes
use Rattle.star_resolve.proofs.laws.new_scopes.Goals as goal

pub returns : goal.returns
returns g c = boxes.new_scopes
