use Rattle.std.proofs.Common.{◌∷◌, [], Ok, ap, rules, subst, ◌∙◌}
use Rattle.object_arena.specs.Made.{Makes}
use Rattle.operator_spec.specs.Operators.{tuple_of}
use Rattle.star_steps.proofs.Names.{Each, OwnsPair, owns_kept, pair_in, pairs_in, seen}
use Rattle.star_values.proofs.Growing.{values_kept}
use Rattle.star_builtins.proofs.Keying.{pair_taken, unmade, untaken}
use Rattle.star_builtins.proofs.dicts.pop_item.Goals as goal

pub returns-in_err-take : goal.returns-in_err-take
returns-in_err-take c =
    let a = seen c.args.arena.now in
    let b = seen c.take.new.arena in
    let m = c.key_size.new.steps in
    untaken c.args.at c.args.dict.at a b c.args.steps.now m (pair_in a.held (c.in-Some.key.now, c.in-Some.value.now)) (pairs_in a.held c.in-Some.field-0-1) c.in_default.ensures.meaning
    (c.pairs.ensures.pairs ∙ ap (pairs_in a.held) c.in-Some.ensures.parts) c.in_ok-key_size.ensures.meaning c.in_err-take.field-0.0 c.from_residual-in_err-take.result (c.in_err-take.ensures m) (search rules)

pub new_tuple-requires : goal.new_tuple-requires
new_tuple-requires c =
    let a = seen c.args.arena.now in
    let b = seen c.take.new.arena in
    let owned = (subst (Each (OwnsPair a)) c.in-Some.ensures.parts c.pairs.ensures.owns).0 in
    let grows = (c.in_ok-take.ensures 0).grows in
    (owns_kept a b c.in-Some.key.now grows owned.0, (owns_kept a b c.in-Some.value.now grows owned.1, tt))

pub returns-in_err-new_tuple : goal.returns-in_err-new_tuple
returns-in_err-new_tuple c =
    let a = seen c.args.arena.now in
    unmade _ _ c.in_err-new_tuple.field-0.0 c.from_residual-in_err-new_tuple.result a (seen c.take.new.arena) (seen c.new_tuple.new.self) c.key_size.new.steps (c.in_ok-take.ensures 0).grows c.in_err-new_tuple.ensures.made (search rules)

pub returns : goal.returns
returns c =
    let a = seen c.args.arena.now in
    let b = seen c.take.new.arena in
    let m = c.key_size.new.steps in
    let key = c.in-Some.key.now in
    let v = c.in-Some.value.now in
    let owned = (subst (Each (OwnsPair a)) c.in-Some.ensures.parts c.pairs.ensures.owns).0 in
    let taken = c.in_ok-take.ensures m in
    let same = values_kept a b (key ∷ v ∷ []) taken.grows (owned.0, (owned.1, tt)) in
    pair_taken c.args.at c.args.dict.at a b c.args.steps.now m (pair_in a.held (key, v)) (pairs_in a.held c.in-Some.field-0-1) c.in_default.ensures.meaning
    (c.pairs.ensures.pairs ∙ ap (pairs_in a.held) c.in-Some.ensures.parts) c.in_ok-key_size.ensures.meaning (seen c.new_tuple.new.self) c.in_ok-take.field-0 c.in_ok-new_tuple.field-0 taken
    (subst (λ vs. Makes (tuple_of vs) (Ok c.in_ok-new_tuple.field-0) b (seen c.new_tuple.new.self)) same c.in_ok-new_tuple.ensures.made)
