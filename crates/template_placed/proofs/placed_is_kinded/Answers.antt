use Rattle.template_placed.proofs.KindsPlaced.{kinded_whole_file}
use Rattle.template_placed.proofs.placed_is_kinded.Goals as goal

pub returns : goal.returns
returns c = λ r ignore file ds t h e. kinded_whole_file r ignore file ds t h e
