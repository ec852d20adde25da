use Rattle.std.proofs.Common.{◌≡◌, ap, sym, true, ◌∙◌}
use Rattle.builtin_spec.specs.Dicts.{pairs_bound}
use Rattle.star_steps.proofs.Names.{fields_in, seen, state_in, values_from, values_of}
use Rattle.value_spec.specs.Binding.{text_pairs}
use Rattle.star_builtins.specs.Pairing.{dict_from}
use Rattle.star_builtins.proofs.Pairing.{arguments_owned, dict_fits, given_later, names_later}
use Rattle.star_builtins.proofs.pairs.dict.Goals as goal

pub dict_from-requires-clause-args : goal.dict_from-requires-clause-args
dict_from-requires-clause-args c = arguments_owned (seen c.args.arena.now) (seen c.named_pairs.new.arena) c.args.args.now c.in_ok-named.ensures.grows c.requires

pub dict_from-requires-clause-named : goal.dict_from-requires-clause-named
dict_from-requires-clause-named c =
    let a = seen c.args.arena.now in
    let b = seen c.named_pairs.new.arena in
    names_later a b c.args.args.now c.in_ok-named.named c.in_ok-named.ensures.grows c.requires c.in_ok-named.ensures.owned (c.in_ok-named.ensures.pairs ∙ ap (λ ns. text_pairs (fields_in a.held ns)) c.as_slice.ensures)

pub returns : goal.returns
returns c =
    let a = seen c.args.arena.now in
    let n = c.args.steps.now in
    let p = c.args.at in
    let vs = values_of a c.args.args.now.positional in
    let fs = fields_in a.held c.args.args.now.named in
    let bound : pairs_bound (values_from vs) fs ≡ true = sym (c.in_ok-bound.ensures a) ∙ c.if-not-bound.false in
    let made = c.in_ok-named.ensures in
    given_later c.args.args.now a (seen c.named_pairs.new.arena) n made.grows c.requires made.store (seen c.dict_from.new.arena) c.dict_from.new.steps c.dict_from.result _ (dict_from p) (dict_fits p vs fs (state_in a n) bound) c.dict_from.ensures
