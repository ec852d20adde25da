use Rattle.std.proofs.Common.{[], Some, ℤ, subst, sym}
use Rattle.ytt_base.specs.declared.fault.FaultKind.TheVariants as kind
use Rattle.builtin_spec.specs.Builtins.{integer_in_front, range_by, range_from}
use Rattle.star_steps.proofs.Meeting.{gives_same}
use Rattle.star_steps.proofs.Names.{seen, state_in, to_z-of_z, w128}
use Rattle.star_steps.specs.Meets.{Gives}
use Rattle.value_spec.specs.Outcomes.{or_fail, then_do}
use Rattle.star_builtins.proofs.numbers.of_integers.Goals as goal

pub returns-in-Some-integer-2 : goal.returns-in-Some-integer-2
returns-in-Some-integer-2 c = λ a n.
    let s = state_in (seen c.args.arena.now) n in
    let p = c.args.at in
    gives_same _ _ _ _ _ _
    (λ i. then_do (or_fail kind.ValueKind p (integer_in_front (sym (c.in-Some.ensures.value a) i) (integer_in_front (sym (c.in-Some-integer.ensures.value a) i) (integer_in_front (sym (c.in-Some-integer-2.ensures.value a) i) (Some [])))) s) (range_from p))
    (subst (λ (q : ℤ × ℤ × ℤ). Gives (range_by {H = Unit {0}} p q.0 q.1 q.2 s) c.range_by.result (seen c.args.arena.now) (seen c.range_by.new.arena) n)
    (λ i. (to_z-of_z w128 c.in-Some.number c.in-Some.ensures.fits i, to_z-of_z w128 c.in-Some-integer.number c.in-Some-integer.ensures.fits i, to_z-of_z w128 c.in-Some-integer-2.step c.in-Some-integer-2.ensures.fits i))
    (c.range_by.ensures n))
