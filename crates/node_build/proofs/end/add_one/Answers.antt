use Rattle.std.proofs.Common.{◌≡◌, ◌∷◌, Err, refl, ap, sym, subst, ◌∙◌, rules}
use Rattle.star_steps.proofs.Meeting.{meets_same}
use Rattle.star_values.specs.Owns.{OwnsBuilt}
use Rattle.star_values.specs.View.{body_in, built_in}
use Rattle.value_spec.specs.Outcomes.{done}
use Rattle.value_spec.specs.Values.{taken}
use Rattle.node_build.proofs.EndsAs.{added_as, closes, item_of}
use Rattle.node_build.proofs.Known.{known_placed}
use Rattle.node_build.proofs.Owned.{placed_owned}
use Rattle.node_build.proofs.Taking.{meets_err}
use Rattle.node_build.specs.Ends.{closing}
use Rattle.node_build.specs.Positions.{AreKnown, placed}
use Rattle.node_build.specs.View.{OwnsNode}
use Rattle.node_build.specs.declared.node.OpenNode.{OpenNode}
use Rattle.node_build.specs.declared.place.Spot.{Spot}
use Rattle.node_build.proofs.end.add_one.Goals as goal

pub returns-in_err-spot-clause-meaning : goal.returns-in_err-spot-clause-meaning
returns-in_err-spot-clause-meaning c = λ held s.
    let node = c.args.node.now in
    let items = built_in held c.args.items.now.items in
    let stopped : c.from_residual.result ≡ Err c.in_err-spot.field-0.0 = search rules in
    meets_same _ c.from_residual.result s _ _ (ap (λ m. m s) (added_as held items node (item_of node) refl refl refl (closes held node c.requires.one)))
    (meets_err (λ (spot : Spot). built_in held (placed spot (item_of node) c.args.items.now.items)) _ c.in_err-spot.field-0.0 s _ c.from_residual.result (rw c.deref.ensures.value at c.in_err-spot.ensures.spot held (item_of node) refl refl refl s) stopped)

pub returns-clause-known : goal.returns-clause-known
returns-clause-known c =
    let keys = c.spot_for.new.keys in
    let spot = c.in_ok-spot.spot in
    let item = c.closed-item.result in
    let same : c.place.new.items.items ≡ placed spot item c.args.items.now.items = c.place.ensures.placed ∙ ap (λ is. placed spot item is) c.in_ok-make_room.ensures.same in
    let key = c.closed-item.ensures.key ∙ ap (λ (n : OpenNode). n.key) c.replace.ensures.value in
    subst (AreKnown keys) (sym same)
    (known_placed keys c.args.items.now.items spot item (subst (λ is. AreKnown keys (item ∷ is)) c.deref.ensures.value (c.in_ok-spot.ensures.known item key)))

pub returns-clause-meaning : goal.returns-clause-meaning
returns-clause-meaning c = λ held s.
    let node = c.args.node.now in
    let items = built_in held c.args.items.now.items in
    let spot = c.in_ok-spot.spot in
    let item = c.closed-item.result in
    let same : c.place.new.items.items ≡ placed spot item c.args.items.now.items = c.place.ensures.placed ∙ ap (λ is. placed spot item is) c.in_ok-make_room.ensures.same in
    let place = c.closed-item.ensures.place ∙ ap (λ (n : OpenNode). n.place) c.replace.ensures.value in
    let key = c.closed-item.ensures.key ∙ ap (λ (n : OpenNode). n.key) c.replace.ensures.value in
    let notes = c.closed-item.ensures.notes ∙ ap (λ (n : OpenNode). n.notes) c.replace.ensures.value in
    let body = subst (λ (n : OpenNode). closing held n ≡ taken (body_in held item.value)) c.replace.ensures.value (c.closed-item.ensures.body held) in
    ap (λ m. m s) (added_as held items node item place key notes body)
    ∙ (rw c.deref.ensures.value at c.in_ok-spot.ensures.spot held item place key notes s)
    ∙ ap (λ is. done (built_in held is) s) (sym same)

pub returns-clause-owned : goal.returns-clause-owned
returns-clause-owned c = λ a n o.
    let spot = c.in_ok-spot.spot in
    let item = c.closed-item.result in
    let same : c.place.new.items.items ≡ placed spot item c.args.items.now.items = c.place.ensures.placed ∙ ap (λ is. placed spot item is) c.in_ok-make_room.ensures.same in
    subst (OwnsBuilt a) (sym same) (placed_owned a spot item c.args.items.now.items (c.closed-item.ensures.owned a (subst (OwnsNode a) (sym c.replace.ensures.value) n)) o)
