use Rattle.std.proofs.Common.{ap, sym, ◌∙◌}
use Rattle.builtin_spec.specs.Dicts.{pop_key_row, setdefault_row}
use Rattle.star_steps.proofs.Names.{gives_same, seen, state_in, values_of}
use Rattle.star_builtins.specs.View.{dict_method_gives}
use Rattle.star_builtins.proofs.dicts.apply_to_dict.Goals as goal

pub returns-in-Pop-clause-row : goal.returns-in-Pop-clause-row
returns-in-Pop-clause-row c =
    let a = seen c.args.arena.now in
    let s = state_in a c.args.work.now.steps in
    gives_same _ _ c.pop.result a (seen c.pop.new.arena) c.pop.new.steps
    (ap (λ m. dict_method_gives c.args.dict.at m c.args.given c.args.at (values_of a c.args.values.now) s) c.in-Pop.is
    ∙ (λ i. pop_key_row c.args.at c.args.dict.at (sym c.argument-key.ensures.value i) c.args.given (sym c.argument-other.ensures.value i) s))
    c.pop.ensures

pub returns-in-SetDefault-clause-row : goal.returns-in-SetDefault-clause-row
returns-in-SetDefault-clause-row c =
    let a = seen c.args.arena.now in
    let s = state_in a c.args.work.now.steps in
    gives_same _ _ c.set_default.result a (seen c.set_default.new.arena) c.set_default.new.steps
    (ap (λ m. dict_method_gives c.args.dict.at m c.args.given c.args.at (values_of a c.args.values.now) s) c.in-SetDefault.is
    ∙ (λ i. setdefault_row c.args.at c.args.dict.at (sym c.argument-key.ensures.value i) (sym c.argument-other.ensures.value i) s))
    c.set_default.ensures
