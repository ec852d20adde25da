use Rattle.std.proofs.Common.{sym, ◌∙◌}
use Rattle.builtin_spec.specs.Builtins.{range_row}
use Rattle.star_steps.proofs.Meeting.{gives_same}
use Rattle.star_steps.proofs.Names.{seen, state_in, values_from, values_of}
use Rattle.star_values.specs.View.{fields_in}
use Rattle.star_builtins.proofs.Ranges.{none}
use Rattle.value_spec.specs.Values.{arguments}
use Rattle.star_builtins.proofs.numbers.range.Goals as goal

pub returns-in-None : goal.returns-in-None
returns-in-None c = λ n.
    let a = seen c.args.arena.now in
    let s = state_in a n in
    gives_same _ _ _ _ _ _
    (λ i. range_row {H = Unit {0}} c.args.at (arguments (values_from (values_of a (sym c.as_slice-in-None.ensures i))) (fields_in a.held ((sym c.as_slice.ensures ∙ none c.as_slice.result.now c.in-None.ensures.cases) i))) s)
    (c.by_position.ensures n)
