use Rattle.template_spec.proofs.Numbers.{numbered_compiled}
use Rattle.template_spec.proofs.numbers_are_compiled.Goals as goal

pub returns : goal.returns
returns c = numbered_compiled
