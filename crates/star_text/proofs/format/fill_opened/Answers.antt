use Rattle.std.proofs.Common.{arith, rules, string_bytes}
use Rattle.std.proofs.lemmas.Str.Pattern.{split_once_first}
use Rattle.star_steps.proofs.Names.{seen, state_in}
use Rattle.star_text.specs.Formatting.{met_in}
use Rattle.star_text.proofs.Formatting.{field_goes, field_stopped, unclosed}
use Rattle.star_text.proofs.format.fill_opened.Goals as goal

pub returns-in-None-clause-goes : goal.returns-in-None-clause-goes
returns-in-None-clause-goes c =
    let a = seen c.args.arena.now in
    let none = rw c.in-None.is at (split_once_first 125 c.args.text.now _ c.split_once.ensures.cases (omega arith)) in
    rw c.refusal.ensures (unclosed a c.args.place c.args.args.now.given.now (string_bytes c.args.made.now) (state_in a c.args.steps.now) (met_in c.args.met) c.args.text.now c.requires.single none)

pub returns-in_ok-met-in-Some-clause-goes : goal.returns-in_ok-met-in-Some-clause-goes
returns-in_ok-met-in-Some-clause-goes c =
    let a = seen c.args.arena.now in
    let parts = rw c.in-Some.is at (split_once_first 125 c.args.text.now _ c.split_once.ensures.cases (omega arith)) in
    field_goes a c.args.place c.args.args.now.given.now (string_bytes c.args.made.now) (state_in a c.args.steps.now) (met_in c.args.met) c.args.text.now c.in-Some.field.now c.in-Some.more.now c.requires.single parts.0 parts.1 parts.2
    (string_bytes c.fill_field.new.made) (met_in c.in_ok-met-in-Some.met) (state_in a c.fill_field.new.steps) c.in_ok-met-in-Some.ensures

pub returns-in_err-met-in-Some-clause-goes : goal.returns-in_err-met-in-Some-clause-goes
returns-in_err-met-in-Some-clause-goes c =
    let a = seen c.args.arena.now in
    let parts = rw c.in-Some.is at (split_once_first 125 c.args.text.now _ c.split_once.ensures.cases (omega arith)) in
    field_stopped a c.args.place c.args.args.now.given.now (string_bytes c.args.made.now) (state_in a c.args.steps.now) (met_in c.args.met) c.args.text.now c.in-Some.field.now c.in-Some.more.now c.requires.single parts.0 parts.1 parts.2
    c.in_err-met-in-Some.field-0.0 c.from_residual.result (λ m. (string_bytes c.fill_field.new.made, met_in m)) _ (state_in a c.fill_field.new.steps) (search rules) c.in_err-met-in-Some.ensures
