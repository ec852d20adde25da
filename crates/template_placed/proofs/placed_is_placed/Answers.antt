use Rattle.template_placed.proofs.AllPlaced.{all_placed}
use Rattle.template_placed.proofs.placed_is_placed.Goals as goal

pub returns : goal.returns
returns c = all_placed
