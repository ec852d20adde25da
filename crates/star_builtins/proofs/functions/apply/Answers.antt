use Rattle.std.proofs.Common.{ap, ◌∙◌}
use Rattle.star_steps.proofs.Meeting.{gives_same}
use Rattle.star_steps.proofs.Names.{seen, state_in, values_of}
use Rattle.builtin_spec.specs.Builtins.{length_row}
use Rattle.star_builtins.specs.View.{function_gives}
use Rattle.std.proofs.Common.{sym}
use Rattle.star_builtins.proofs.functions.apply.Goals as goal

pub returns-in-Len-clause-row : goal.returns-in-Len-clause-row
returns-in-Len-clause-row c =
    let a = seen c.args.arena.now in
    let n = c.args.work.now.steps in
    gives_same _ _ _ _ _ _
    (ap (λ b. function_gives b c.args.given c.args.at (values_of a c.args.values.now) (state_in a n)) c.in-Len.is ∙ ap (λ v. length_row c.args.at v (state_in a n)) (sym c.argument-value.ensures.value))
    (c.length.ensures n)
