use Rattle.std.proofs.Common.{◌++◌, ap, rules, sym, ◌∙◌}
use Rattle.std.proofs.lemmas.List.{map-append}
use Rattle.star_steps.proofs.Names.{as_is, done, fields_in, give, meets_same, meets_stop, pair_in, pairs_in, seen, state_in, then_do, values_of}
use Rattle.value_spec.specs.Binding.{text_pairs}
use Rattle.star_builtins.proofs.Pairing.{pairs_told, taken_told}
use Rattle.star_builtins.proofs.pairs.pairs_taken.Goals as goal

pub returns-in_err-all_keys-clause-meaning : goal.returns-in_err-all_keys-clause-meaning
returns-in_err-all_keys-clause-meaning c =
    let a = seen c.args.arena.now in
    let vs = values_of a c.args.args.now.positional in
    let fs = fields_in a.held c.args.args.now.named in
    let qs = pairs_in a.held c.as_slice-2.result.now in
    let told = taken_told a c.as_slice-2.result.now c.in-Some.pairs c.in_ok-pairs.field-0 c.as_slice.result.now c.args.args.now.positional c.as_slice-2.ensures c.in-Some.is c.in_ok-pairs.ensures.pairs c.as_slice.ensures in
    meets_same (pairs_in a.held) _ (state_in a c.args.steps) _ _ (pairs_told c.args.at vs fs a c.args.steps qs told)
    (meets_stop as_is (pairs_in a.held) c.in_err-all_keys.field-0.0 (state_in a c.args.steps) _ (λ u. give (qs ++ text_pairs fs)) _ (c.in_err-all_keys.ensures.meaning c.args.steps) (search rules))

pub returns-clause-meaning : goal.returns-clause-meaning
returns-clause-meaning c =
    let a = seen c.args.arena.now in
    let vs = values_of a c.args.args.now.positional in
    let fs = fields_in a.held c.args.args.now.named in
    let qs = pairs_in a.held c.as_slice-2.result.now in
    let told = taken_told a c.as_slice-2.result.now c.in-Some.pairs c.in_ok-pairs.field-0 c.as_slice.result.now c.args.args.now.positional c.as_slice-2.ensures c.in-Some.is c.in_ok-pairs.ensures.pairs c.as_slice.ensures in
    pairs_told c.args.at vs fs a c.args.steps qs told
    ∙ ap (λ o. then_do o (λ u. give (qs ++ text_pairs fs))) (c.in_ok-all_keys.ensures.meaning c.args.steps)
    ∙ ap (λ ps. done ps (state_in a c.args.steps))
    ((λ i. pairs_in a.held (c.as_slice-2.ensures i) ++ sym c.requires.named.1 i) ∙ sym (map-append (pair_in a.held) c.in-Some.pairs c.args.named) ∙ ap (pairs_in a.held) (sym c.in_ok-joined.ensures))
