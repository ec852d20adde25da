use Rattle.std.proofs.Common.{ap, append-nil, map as each, sym, ◌++◌, ◌∙◌}
use Rattle.std.proofs.lemmas.List.{drop_all}
use Rattle.object_arena.specs.Names.{values_of}
use Rattle.value_spec.specs.Binding.{none_for_each}
use Rattle.star_calls.proofs.Signatures.{nones_next}
use Rattle.star_calls.proofs.signature.none_for_each.Goals as goal

pub loop-name-preserved : goal.loop-name-preserved
loop-name-preserved c = λ a. nones_next a _ c.loop-name.nones c.push.new.self c.args.names.now c.loop-name._name-index c.loop-name-test.true c.in_ok-push.ensures.ok (c.loop-name.invariant a)

pub returns : goal.returns
returns c = λ a.
    let nones = values_of a c.loop-name.nones in
    let none = drop_all c.loop-name._name-index c.args.names.now c.loop-name-test.false in
    (sym (append-nil nones) ∙ ap (λ xs. nones ++ none_for_each (each (λ w. w.now) xs)) (sym none) ∙ (c.loop-name.invariant a).0, (c.loop-name.invariant a).1)
