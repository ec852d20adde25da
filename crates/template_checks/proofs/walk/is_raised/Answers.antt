use Rattle.std.proofs.Common.{ap, ◌∙◌, Option, Bool, false, unwrap_or}
use Rattle.std.proofs.lemmas.Option.{unwrap_or-slice_get}
use Rattle.template_checks.proofs.walk.is_raised.Goals as goal

pub returns-in-None : goal.returns-in-None
returns-in-None c = ap (λ (o : Option Bool). unwrap_or o false) c.in-None.ensures.value ∙ unwrap_or-slice_get c.args.flags.now c.args.at false
