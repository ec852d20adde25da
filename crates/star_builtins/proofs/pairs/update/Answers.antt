use Rattle.std.proofs.Common.{◌≡◌, ap, sym, true, ◌∙◌}
use Rattle.builtin_spec.specs.Dicts.{pairs_bound}
use Rattle.star_steps.proofs.Names.{fields_in, seen, state_in, values_from, values_of}
use Rattle.value_spec.specs.Binding.{text_pairs}
use Rattle.star_builtins.specs.Pairing.{update_from}
use Rattle.star_builtins.proofs.Pairing.{arguments_owned, update_fits, given_later, names_later}
use Rattle.star_builtins.proofs.pairs.update.Goals as goal

pub update_from-requires-clause-args : goal.update_from-requires-clause-args
update_from-requires-clause-args c = arguments_owned (seen c.args.arena.now) (seen c.named_pairs.new.arena) c.args.args.now c.in_ok-named.ensures.grows c.requires.args

pub update_from-requires-clause-named : goal.update_from-requires-clause-named
update_from-requires-clause-named c =
    let a = seen c.args.arena.now in
    let b = seen c.named_pairs.new.arena in
    names_later a b c.args.args.now c.in_ok-named.named c.in_ok-named.ensures.grows c.requires.args c.in_ok-named.ensures.owned (c.in_ok-named.ensures.pairs ∙ ap (λ ns. text_pairs (fields_in a.held ns)) c.as_slice.ensures)

pub returns : goal.returns
returns c =
    let a = seen c.args.arena.now in
    let n = c.args.steps.now in
    let p = c.args.at in
    let vs = values_of a c.args.args.now.positional in
    let fs = fields_in a.held c.args.args.now.named in
    let bound : pairs_bound (values_from vs) fs ≡ true = sym (c.in_ok-bound.ensures a) ∙ c.if-not-bound.false in
    let made = c.in_ok-named.ensures in
    given_later c.args.args.now a (seen c.named_pairs.new.arena) n made.grows c.requires.args made.store (seen c.update_from.new.arena) c.update_from.new.steps c.update_from.result _ (update_from c.args.dict.at p) (update_fits p c.args.dict.at vs fs (state_in a n) bound) c.update_from.ensures
