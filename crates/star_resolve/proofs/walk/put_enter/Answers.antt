use Rattle.std.proofs.Common.{◌++◌, ◌∷◌, [], ap, ◌∙◌}
use Rattle.star_resolve.specs.declared.event.Event.TheVariants as event
use Rattle.star_resolve.proofs.walk.put_enter.Goals as goal

pub returns : goal.returns
returns c = λ file. c.in_ok-push.ensures.ok ∙ ap (λ names. c.args.events.now ++ event.Enter names ∷ []) (c.in_ok-clause_names.ensures file)
