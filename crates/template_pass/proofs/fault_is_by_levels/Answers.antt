use Rattle.template_pass.proofs.Faults.{first_fault}
use Rattle.template_pass.proofs.fault_is_by_levels.Goals as goal

pub returns : goal.returns
returns c = λ r ignore file ds es rs e a. first_fault r ignore file ds es rs e a
