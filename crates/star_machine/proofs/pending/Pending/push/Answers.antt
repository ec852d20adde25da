use Rattle.std.proofs.Common.{◌∷◌, [], ap, ◌∙◌}
use Rattle.std.proofs.lemmas.List.{reverse-append}
use Rattle.std.specs.Prelude.{reverse}
use Rattle.star_machine.proofs.pending.Pending.push.Goals as goal

pub returns : goal.returns
returns c = ap reverse c.in_ok-push.ensures.items ∙ reverse-append c.self.inside.items.items (c.args.item ∷ []) ∙ ap (λ items. c.args.item ∷ items) c.self.view_is
