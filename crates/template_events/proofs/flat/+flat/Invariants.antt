use Rattle.star_tree.specs.View.{item_kind_of}
use Rattle.yaml_noted.specs.View.{items_of}
use Rattle.template_events.specs.Levels.{parts_among}
use Rattle.template_events.proofs.Taking.{IsHearing}
use Rattle.template_events.proofs.flat.+flat.Given as goal

abbrev pub invariant-hear_items-loop-item : goal.invariant-hear_items-loop-item
invariant-hear_items-loop-item l =
    IsHearing l.setting (λ is. parts_among (item_kind_of l.kind) l.level (items_of is)) l.items l.initial.hearing l.item-index l.hearing
