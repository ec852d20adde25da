use Rattle.template_pass.proofs.Built.{template-by_levels}
use Rattle.template_pass.proofs.template_is_by_levels.Goals as goal

pub returns : goal.returns
returns c = template-by_levels
