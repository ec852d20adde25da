use Rattle.std.proofs.Common.{None, ap, ◌∙◌}
use Rattle.builtin_spec.specs.Dicts.{taken_or}
use Rattle.index_spec.specs.Index.{missing}
use Rattle.star_index.proofs.Ends.{gives_refused}
use Rattle.star_steps.proofs.Names.{seen, state_in, value_of}
use Rattle.star_builtins.proofs.Keying.{key_found}
use Rattle.star_builtins.proofs.dicts.pop.Goals as goal

pub returns-else-given : goal.returns-else-given
returns-else-given c =
    let a = seen c.args.arena.now in
    let p = c.args.at in
    let k = value_of a c.args.key in
    let d = value_of a c.args.other in
    let m = c.key_size.new.steps in
    gives_refused c.missing.result (missing p k) a m _ c.missing.ensures
    (key_found p c.args.dict.at k d c.args.given a c.args.steps.now m None c.in_default.ensures.meaning c.in_ok-key_size.ensures.meaning c.in-None.ensures.value
    ∙ ap (λ g. taken_or p c.args.dict.at k g d None (state_in a m)) c.if-given.false)
