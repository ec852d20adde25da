use Rattle.template_program.proofs.Emitting.{emits_one}
use Rattle.template_program.proofs.parts.put.Goals as goal

pub returns : goal.returns
returns c = λ file first next i h. emits_one c.args.stmt c.in_ok-push.ensures.ok h
