use Rattle.std.proofs.Common.{rules, ◌≡◌, false, None, if◌then◌else◌, ap, ◌∙◌}
use Rattle.ytt_base.specs.declared.fault.FaultKind.TheVariants as kind
use Rattle.code_spec.specs.Names.{is_among, own_functions}
use Rattle.star_spec.specs.Names.{constant, unbound}
use Rattle.value_spec.specs.Outcomes.{Computation, fail_with, give}
use Rattle.star_values.specs.Objects.{seen}
use Rattle.value_spec.specs.Values.{Value, builtin, native_value}
use Rattle.star_steps.specs.Meets.{state_in}
use Rattle.star_steps.proofs.Meeting.{gives_same}
use Rattle.star_eval.proofs.names.unbound.Goals as goal

pub returns-else-is_own_function : goal.returns-else-is_own_function
returns-else-is_own_function c = λ n.
    let a = seen c.args.arena.now in
    let p = c.args.place in
    let name = c.args.name.now in
    let none : constant name ≡ None = search rules in
    let other : is_among name own_functions ≡ false = search rules in
    let same : unbound p name (constant name) ≡ fail_with {H = Unit {0}} {A = Value} kind.NameUnknown p name = ap (unbound p name) none ∙ (λ i. if other i then give (native_value (builtin name)) else fail_with kind.NameUnknown p name) in
    gives_same _ _ _ _ _ _ (ap (λ (m : Computation (Unit {0}) Value). m (state_in a n)) same) (c.refused.ensures a n)
