use Rattle.std.proofs.Common.{◌≡◌, ◌∷◌, [], ap, length, map as each, refl, rules, sym, ◌∙◌}
use Rattle.star_index.proofs.Ends.{gives_object}
use Rattle.star_steps.proofs.Names.{as_is, dict_value, gives_stop, grows_then, new_list, pairs_at, pairs_in, seen, state_in, then_do, values_of}
use Rattle.star_text.proofs.Paying.{after_cost}
use Rattle.star_builtins.specs.Listing.{listed}
use Rattle.star_builtins.proofs.dicts.list_pairs.Goals as goal

pub returns-in_err-pay_operation : goal.returns-in_err-pay_operation
returns-in_err-pay_operation c =
    let a = seen c.args.arena.now in
    let s = state_in a c.args.steps.now in
    let ps = pairs_at c.args.dict.at a.store in
    let all = new_list (each (listed c.args.what) ps) in
    gives_stop as_is c.in_err-pay_operation.field-0.0 a c.pay_operation.new.steps _ (λ u. all) c.from_residual.result _ (after_cost c.args.at (dict_value c.args.dict.at ∷ []) 0 (length ps) all s)
    (c.in_err-pay_operation.ensures 0 (length ps) refl (c.from-members.ensures ∙ c.pair_count.ensures)) (search rules)

pub returns : goal.returns
returns c =
    let a = seen c.args.arena.now in
    let b = seen c.parts.new.arena in
    let m = c.pay_operation.new.steps in
    let ps = pairs_at c.args.dict.at a.store in
    let f = listed c.args.what in
    let all = new_list (each f ps) in
    let made = c.in_ok-parts.ensures in
    let copied : c.as_slice.result.now ≡ c.pairs.result = c.as_slice.ensures ∙ c.in_ok-pairs.ensures in
    let same : each f ps ≡ values_of b c.as_slice-2.result.now =
    ap (each f) c.pairs.ensures.pairs ∙ ap (λ qs. each f (pairs_in a.held qs)) (sym copied) ∙ sym made.values ∙ ap (values_of b) (sym c.as_slice-2.ensures) in
    let given = gives_object _ _ c.in_ok-new_list.field-0 b (seen c.new_list.new.self) m _
    (after_cost c.args.at (dict_value c.args.dict.at ∷ []) 0 (length ps) all (state_in a c.args.steps.now)
    ∙ ap (λ o. then_do o (λ u. all)) (c.in_ok-pay_operation.ensures 0 (length ps) refl (c.from-members.ensures ∙ c.pair_count.ensures))
    ∙ (λ i. new_list (same i) (record { store = sym made.store i; steps = m; host = tt })))
    c.in_ok-new_list.ensures.made in
    record { meaning = given.meaning; owns = given.owns; grows = grows_then a b (seen c.new_list.new.self) made.grows given.grows }
