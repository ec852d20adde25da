use Rattle.std.proofs.Common.{◌≡◌, false, slice_set, ap, sym, ◌∙◌, rules}
use Rattle.ytt_base.specs.declared.fault.FaultKind.TheVariants as kind
use Rattle.star_values.specs.View.{built_in, notes_in, scalar_key}
use Rattle.template_meaning.specs.Adding.{in_place_if, key_shown, overrides}
use Rattle.value_spec.specs.Outcomes.{bad}
use Rattle.node_build.proofs.Known.{new_key}
use Rattle.node_build.proofs.Placing.{add_at, add_last}
use Rattle.node_build.specs.Positions.{fault_with, is_known, position_of}
use Rattle.node_build.proofs.add.spot_for.Goals as goal

pub returns-then-branch-clause-spot : goal.returns-then-branch-clause-spot
returns-then-branch-clause-spot c = λ held item p k n s.
    let unknown : is_known (scalar_key c.args.key.now) c.args.keys.now ≡ false = search rules in
    add_last held item c.args.items.now
    (ap (λ y. position_of (scalar_key y) c.args.items.now) k ∙ new_key c.args.keys.now c.args.items.now (scalar_key c.args.key.now) c.requires unknown) s

pub returns-in-None-clause-spot : goal.returns-in-None-clause-spot
returns-in-None-clause-spot c = λ held item p k n s.
    add_last held item c.args.items.now (ap (λ y. position_of (scalar_key y) c.args.items.now) k ∙ sym c.in-None.ensures.value) s

pub returns-then-overrides-clause-spot : goal.returns-then-overrides-clause-spot
returns-then-overrides-clause-spot c = λ held item p k n s.
    let items = c.args.items.now in
    add_at held item items c.in-Some.at (ap (λ y. position_of (scalar_key y) items) k ∙ sym c.in-Some.ensures.value) s
    ∙ ap (λ b. in_place_if b item.place (scalar_key item.key) (built_in held (slice_set items c.in-Some.at item)) s) (ap (λ ns. overrides (notes_in held ns)) n ∙ sym (c.if-overrides.ensures held))

pub returns-in_ok-key_twice-in-Some-clause-spot : goal.returns-in_ok-key_twice-in-Some-clause-spot
returns-in_ok-key_twice-in-Some-clause-spot c = λ held item p k n s.
    let items = c.args.items.now in
    rw c.in_ok-key_twice-in-Some.ensures
    (add_at held item items c.in-Some.at (ap (λ y. position_of (scalar_key y) items) k ∙ sym c.in-Some.ensures.value) s
    ∙ ap (λ b. in_place_if b item.place (scalar_key item.key) (built_in held (slice_set items c.in-Some.at item)) s) (ap (λ ns. overrides (notes_in held ns)) n ∙ sym (c.if-overrides.ensures held))
    ∙ (λ i. bad (fault_with kind.KeyTwice (p i) (key_shown (scalar_key (k i)))) s))
