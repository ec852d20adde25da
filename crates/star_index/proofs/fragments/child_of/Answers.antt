use Rattle.star_steps.proofs.Names.{◌∙◌}
use Rattle.star_index.proofs.Names.{Refuses, ap, children_at, fail, fragment_value, gives_refused, gives_same, index_row, item_kind_of, refl, seen, state_in, subst, sym, value_of}
use Rattle.ytt_base.specs.declared.fault.FaultKind.TheVariants as kind
use Rattle.star_index.proofs.fragments.child_of.Goals as goal

pub returns-in-Pair : goal.returns-in-Pair
returns-in-Pair c =
    let a = seen c.args.arena.now in
    gives_same _ _ c.entry_of.result a (seen c.entry_of.new.arena) c.entry_of.new.steps
    (ap (λ k. index_row c.args.place (fragment_value k (children_at a c.args.whole)) (value_of a c.args.index) (state_in a c.args.steps.now)) (sym c.kind_of.ensures ∙ ap item_kind_of c.in-Pair.is))
    c.entry_of.ensures

pub returns-in-Element : goal.returns-in-Element
returns-in-Element c =
    let a = seen c.args.arena.now in
    gives_same _ _ c.element_at.result a (seen c.element_at.new.arena) c.element_at.new.steps
    (ap (λ k. index_row c.args.place (fragment_value k (children_at a c.args.whole)) (value_of a c.args.index) (state_in a c.args.steps.now)) (sym c.kind_of.ensures ∙ ap item_kind_of c.in-Element.is))
    c.element_at.ensures

pub returns-in-Document : goal.returns-in-Document
returns-in-Document c =
    let a = seen c.args.arena.now in
    gives_refused c.refusal.result (fail kind.ValueKind c.args.place) a c.args.steps.now _ (subst (λ e. Refuses e (fail kind.ValueKind c.args.place)) (sym c.refusal.ensures) (λ s. refl))
    (ap (λ k. index_row c.args.place (fragment_value k (children_at a c.args.whole)) (value_of a c.args.index) (state_in a c.args.steps.now)) (sym c.kind_of.ensures ∙ ap item_kind_of c.in-Document.is))
