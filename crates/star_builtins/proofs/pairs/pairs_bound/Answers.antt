use Rattle.std.proofs.Common.{not, ap, arith, length, sym, ◌∙◌}
use Rattle.star_values.specs.View.{fields_in}
use Rattle.value_spec.specs.Binding.{has_twice}
use Rattle.star_builtins.proofs.Given.{at_most, more_than}
use Rattle.star_builtins.proofs.pairs.pairs_bound.Goals as goal

pub returns : goal.returns
returns c = λ a.
    ap not (c.in_ok-twice.ensures a ∙ ap (λ fs. has_twice (fields_in a.held fs)) c.as_slice-2.ensures)
    ∙ sym (at_most a.held c.args.args.now.positional 1 (not (has_twice (fields_in a.held c.args.args.now.named))) (omega (arith, c.if-as_slice-gt1.false, ap length c.as_slice.ensures)))

pub returns-then-as_slice-gt1 : goal.returns-then-as_slice-gt1
returns-then-as_slice-gt1 c = λ a.
    sym (more_than a.held c.args.args.now.positional 1 (not (has_twice (fields_in a.held c.args.args.now.named))) (omega (arith, c.if-as_slice-gt1.true, ap length c.as_slice.ensures)))
