use Rattle.std.proofs.Common.{◌≡◌, ◌∷◌, ap, sym, subst, ◌∙◌}
use Rattle.star_values.specs.declared.value.BuiltItem.{BuiltItem}
use Rattle.node_build.proofs.Known.{known_placed}
use Rattle.node_build.proofs.Undoing.{undone_set}
use Rattle.node_build.specs.Positions.{AreKnown, placed}
use Rattle.node_build.proofs.add.add_copy.Goals as goal

pub returns-clause-known : goal.returns-clause-known
returns-clause-known c =
    let keys = c.spot_for.new.keys in
    let spot = c.in_ok-spot.spot in
    let copy = c.in_ok-copy.copy in
    let same : c.place-step.new.items.items ≡ placed spot copy c.args.items.now.items = c.place-step.ensures.placed ∙ ap (λ is. placed spot copy is) c.in_ok-make_room.ensures.same in
    subst (AreKnown keys) (sym same)
    (known_placed keys c.args.items.now.items spot copy
    (subst (λ is. AreKnown keys (copy ∷ is)) c.deref.ensures.value (c.in_ok-spot.ensures.known copy (ap (λ (i : BuiltItem). i.key) c.in_ok-copy.ensures))))

pub returns-clause-undone : goal.returns-clause-undone
returns-clause-undone c =
    undone_set c.args.log.now c.push.new.items c.set.new.self c.len.result _ c.place-step.result c.place-step.new.items.items c.args.items.now.items c.in_default.ensures.ok c.len.ensures c.set.ensures
    (c.place-step.ensures.undone ∙ c.in_ok-make_room.ensures.same)
