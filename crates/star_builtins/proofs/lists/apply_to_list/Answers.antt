use Rattle.std.proofs.Common.{ap, sym, ◌∙◌}
use Rattle.builtin_spec.specs.Lists.{append_row, insert_row, pop_row, remove_row}
use Rattle.star_steps.proofs.Meeting.{gives_same}
use Rattle.star_steps.specs.Names.{seen, state_in, values_of}
use Rattle.star_builtins.specs.View.{list_method_gives}
use Rattle.star_builtins.proofs.lists.apply_to_list.Goals as goal

pub returns-in-Append-clause-row : goal.returns-in-Append-clause-row
returns-in-Append-clause-row c =
    let a = seen c.args.arena.now in
    let s = state_in a c.args.work.now.steps in
    gives_same _ _ _ _ _ _
    (ap (λ m. list_method_gives c.args.list.at m c.args.given c.args.at (values_of a c.args.values.now) s) c.in-Append.is ∙ ap (λ v. append_row c.args.at c.args.list.at v s) (sym c.argument-first.ensures.value))
    (c.append.ensures c.args.work.now.steps)

pub returns-in-Insert-clause-row : goal.returns-in-Insert-clause-row
returns-in-Insert-clause-row c =
    let a = seen c.args.arena.now in
    let s = state_in a c.args.work.now.steps in
    gives_same _ _ _ _ _ _
    (ap (λ m. list_method_gives c.args.list.at m c.args.given c.args.at (values_of a c.args.values.now) s) c.in-Insert.is
    ∙ (λ i. insert_row c.args.at c.args.list.at (sym c.argument-first.ensures.value i) (sym c.argument-member.ensures.value i) s))
    c.insert.ensures

pub returns-then-given-clause-row : goal.returns-then-given-clause-row
returns-then-given-clause-row c =
    let a = seen c.args.arena.now in
    let s = state_in a c.args.work.now.steps in
    gives_same _ _ _ _ _ _
    (ap (λ m. list_method_gives c.args.list.at m c.args.given c.args.at (values_of a c.args.values.now) s) c.in-Pop.is
    ∙ (λ i. pop_row c.args.at c.args.list.at (c.if-given.true i) (sym c.argument-first.ensures.value i) s))
    c.pop_at.ensures

pub returns-in-Remove-clause-row : goal.returns-in-Remove-clause-row
returns-in-Remove-clause-row c =
    let a = seen c.args.arena.now in
    let s = state_in a c.args.work.now.steps in
    gives_same _ _ _ _ _ _
    (ap (λ m. list_method_gives c.args.list.at m c.args.given c.args.at (values_of a c.args.values.now) s) c.in-Remove.is ∙ ap (λ v. remove_row c.args.at c.args.list.at v s) (sym c.argument-first.ensures.value))
    c.remove.ensures
