use Rattle.star_steps.proofs.Names.{◌≡◌, ◌++◌, [], length, Ok, sym, ap, subst, ◌∙◌, arith, length-map, map-append, new_dict, pairs_at, put_pairs, seen, pair_in, Owns, value_of}
use Rattle.star_fragments.specs.Fresh.{Builds, pairs_of}
use Rattle.star_ops.proofs.Changing.{dicts_joined}
use Rattle.star_ops.proofs.unions.join_dicts.Goals as goal

pub returns : goal.returns
returns c =
    let a = seen c.args.arena.now in
    let b = seen c.dict_of.new.arena in
    let ps = pairs_at c.args.left.at a.store in
    let qs = pairs_at c.args.right.at a.store in
    let v = c.in_ok-dict_of.field-0 in
    let first : length c.in_ok-first.first ≡ length ps = sym (length-map c.in_ok-first.first (pair_in a.held)) ∙ ap length c.in_ok-first.ensures.pairs in
    let second : length c.in_ok-second.second ≡ length qs = sym (length-map c.in_ok-second.second (pair_in a.held)) ∙ ap length c.in_ok-second.ensures.pairs in
    let all : pairs_of a c.as_slice.result.now ≡ ps ++ qs = ap (pairs_of a) (c.as_slice.ensures ∙ c.in_ok-all.ensures) ∙ map-append (pair_in a.held) c.in_ok-first.first c.in_ok-second.second ∙ (λ i. c.in_ok-first.ensures.pairs i ++ c.in_ok-second.ensures.pairs i) in
    dicts_joined c.args.place ps qs v a b c.args.steps.now c.pay.new.steps _ (omega (arith, c.len-count.ensures, c.len.ensures, c.from-fresh.ensures, c.new_keys.ensures, first, second)) c.in_ok-pay.ensures
    (subst (λ ms. Builds value_of Owns (new_dict (put_pairs [] ms)) (Ok v) a b) all c.in_ok-dict_of.ensures)
