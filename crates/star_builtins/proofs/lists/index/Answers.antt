use Rattle.std.proofs.Common.{◌+◌, ◌<◌, ◌^◌, pos, FitsSigned, to_z, length, ap, arith, rules, option_map, ◌∙◌}
use Rattle.std.specs.Int.{w128}
use Rattle.std.proofs.lemmas.Int.{to_z_pos}
use Rattle.builtin_spec.specs.Lists.{bound_in, equal_from}
use Rattle.operator_spec.specs.Operators.{int_of}
use Rattle.star_steps.specs.Names.{done, paid_by, seen, state_in, value_of, values_of}
use Rattle.star_values.proofs.Growing.{grows_same}
use Rattle.text_spec.specs.Methods.{place_of}
use Rattle.star_builtins.proofs.Listing.{bound_place, index_begins, place_fits, search_done, search_failed, search_refused}
use Rattle.star_builtins.proofs.lists.index.Goals as goal

pub returns-in_err-place : goal.returns-in_err-place
returns-in_err-place c =
    let a = seen c.args.arena.now in
    let p = c.args.at in
    let k = c.find.new.steps in
    let vs = c.list-members.result.now in
    let first : FitsSigned w128 c.unwrap_or.result = search rules in
    let last : FitsSigned w128 c.unwrap_or-2.result = search rules in
    let small : length vs < 2 ^ 127 = search (rules, arith) in
    let from = c.in-Some-Some.ensures a in
    let to = c.in-Some-Some.ensures' a in
    let begins = index_begins p c.args.list.at (value_of a c.args.sought) (value_of a c.args.bounds.0) (value_of a c.args.bounds.1) a c.args.steps.now vs c.between.result.now c.place_of-first.result c.place_of-end.result
    from.0 to.0 c.list-members.ensures.members
    (bound_place (length vs) c.place_of-first.result c.unwrap_or.result (pos 0) c.in-Some-Some.from (value_of a c.args.bounds.0) first c.place_of-first.ensures.value c.unwrap_or.ensures (from.1 (pos 0)))
    (bound_place (length vs) c.place_of-end.result c.unwrap_or-2.result (to_z w128 (length vs)) c.in-Some-Some.to (value_of a c.args.bounds.1) last c.place_of-end.ensures.value c.unwrap_or-2.ensures (to.1 (to_z w128 (length vs)))
    ∙ ap (λ z. place_of (length vs) (bound_in z (value_of a c.args.bounds.1))) (to_z_pos w128 (length vs) small))
    c.between.ensures in
    let o = equal_from (paid_by 1 p) p (value_of a c.args.sought) (values_of a c.between.result.now) c.place_of-first.result (state_in a c.args.steps.now) in
    search_refused p a _ o (λ i. int_of p (pos i)) begins (option_map (λ i. c.place_of-first.result + i)) c.in_err-place.field-0.0 k c.from_residual.result (c.in_err-place.ensures c.place_of-first.result) (search rules)

pub returns-in-Some : goal.returns-in-Some
returns-in-Some c =
    let a = seen c.args.arena.now in
    let p = c.args.at in
    let k = c.find.new.steps in
    let vs = c.list-members.result.now in
    let first : FitsSigned w128 c.unwrap_or.result = search rules in
    let last : FitsSigned w128 c.unwrap_or-2.result = search rules in
    let small : length vs < 2 ^ 127 = search (rules, arith) in
    let from = c.in-Some-Some.ensures a in
    let to = c.in-Some-Some.ensures' a in
    let begins = index_begins p c.args.list.at (value_of a c.args.sought) (value_of a c.args.bounds.0) (value_of a c.args.bounds.1) a c.args.steps.now vs c.between.result.now c.place_of-first.result c.place_of-end.result
    from.0 to.0 c.list-members.ensures.members
    (bound_place (length vs) c.place_of-first.result c.unwrap_or.result (pos 0) c.in-Some-Some.from (value_of a c.args.bounds.0) first c.place_of-first.ensures.value c.unwrap_or.ensures (from.1 (pos 0)))
    (bound_place (length vs) c.place_of-end.result c.unwrap_or-2.result (to_z w128 (length vs)) c.in-Some-Some.to (value_of a c.args.bounds.1) last c.place_of-end.ensures.value c.unwrap_or-2.ensures (to.1 (to_z w128 (length vs)))
    ∙ ap (λ z. place_of (length vs) (bound_in z (value_of a c.args.bounds.1))) (to_z_pos w128 (length vs) small))
    c.between.ensures in
    let o = equal_from (paid_by 1 p) p (value_of a c.args.sought) (values_of a c.between.result.now) c.place_of-first.result (state_in a c.args.steps.now) in
    let found = c.in_ok-place.ensures c.place_of-first.result ∙ ap (λ o. done (option_map (λ i. c.place_of-first.result + i) o) (state_in a k)) c.in-Some.is in
    let low : c.place_of-first.result < 2 ^ 64 = search (rules, arith) in
    let high : c.in-Some.place < 2 ^ 64 = search (rules, arith) in
    record {
      meaning = search_done p a _ o (λ i. int_of p (pos i)) begins (c.place_of-first.result + c.in-Some.place) k found ∙ place_fits p c.place_of-first.result c.in-Some.place (state_in a k) low high;
      owns = tt;
      grows = grows_same a;
    }

pub returns-in-None : goal.returns-in-None
returns-in-None c =
    let a = seen c.args.arena.now in
    let p = c.args.at in
    let k = c.find.new.steps in
    let vs = c.list-members.result.now in
    let first : FitsSigned w128 c.unwrap_or.result = search rules in
    let last : FitsSigned w128 c.unwrap_or-2.result = search rules in
    let small : length vs < 2 ^ 127 = search (rules, arith) in
    let from = c.in-Some-Some.ensures a in
    let to = c.in-Some-Some.ensures' a in
    let begins = index_begins p c.args.list.at (value_of a c.args.sought) (value_of a c.args.bounds.0) (value_of a c.args.bounds.1) a c.args.steps.now vs c.between.result.now c.place_of-first.result c.place_of-end.result
    from.0 to.0 c.list-members.ensures.members
    (bound_place (length vs) c.place_of-first.result c.unwrap_or.result (pos 0) c.in-Some-Some.from (value_of a c.args.bounds.0) first c.place_of-first.ensures.value c.unwrap_or.ensures (from.1 (pos 0)))
    (bound_place (length vs) c.place_of-end.result c.unwrap_or-2.result (to_z w128 (length vs)) c.in-Some-Some.to (value_of a c.args.bounds.1) last c.place_of-end.ensures.value c.unwrap_or-2.ensures (to.1 (to_z w128 (length vs)))
    ∙ ap (λ z. place_of (length vs) (bound_in z (value_of a c.args.bounds.1))) (to_z_pos w128 (length vs) small))
    c.between.ensures in
    let o = equal_from (paid_by 1 p) p (value_of a c.args.sought) (values_of a c.between.result.now) c.place_of-first.result (state_in a c.args.steps.now) in
    let none = c.in_ok-place.ensures c.place_of-first.result ∙ ap (λ o. done (option_map (λ i. c.place_of-first.result + i) o) (state_in a k)) c.in-None.is in
    search_failed p a _ o (λ i. int_of p (pos i)) begins k c.refusal-in-None.result none c.refusal-in-None.ensures
