use Rattle.schema_spec.proofs.Sound.{among-proper}
use Rattle.schema_spec.proofs.schemas_are_proper.Goals as goal

pub returns : goal.returns
returns g c = λ documents held. among-proper documents held
