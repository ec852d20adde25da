use Rattle.std.proofs.Common.{◌-ℤ◌}
use Rattle.std.specs.Prelude.{int_lt}
use Rattle.star_steps.proofs.Names.{◌≡◌, ◌∙◌, FitsSigned, ap, at_least_zero, pos, refl, rules, step_in, sym, to_z, to_z-of_z, value_of, w128}
use Rattle.star_index.proofs.Bounds.{end_down, end_up, first_down, first_up}
use Rattle.star_index.proofs.places.cut_places.Goals as goal

pub returns-then-step-lt0 : goal.returns-then-step-lt0
returns-then-step-lt0 c a =
    let n = c.args.count in
    let s = step_in (value_of a c.args.cut.now.step) in
    let count : to_z w128 n ≡ pos n = search rules in
    let last_fits : FitsSigned w128 (to_z w128 n -ℤ pos 1) = search rules in
    let first_fits : FitsSigned w128 c.bound_or.result = search rules in
    let end_fits : FitsSigned w128 c.bound_or-then-step-lt0.result = search rules in
    let step_fits : FitsSigned w128 c.step_of-step.result = search rules in
    let last = to_z-of_z w128 (to_z w128 n -ℤ pos 1) last_fits ∙ ap (λ z. z -ℤ pos 1) count in
    let many = ap at_least_zero count in
    let step = to_z-of_z w128 c.step_of-step.result step_fits ∙ c.step_of-step.ensures a in
    let down = ap (λ z. int_lt z (pos 0)) (sym step) ∙ c.if-step-lt0.true in
    let first = to_z-of_z w128 c.bound_or.result first_fits ∙ c.bound_or.ensures a ∙ first_down s n (value_of a c.args.cut.now.from) _ _ _ _ down last refl last many in
    let end = to_z-of_z w128 c.bound_or-then-step-lt0.result end_fits ∙ c.bound_or-then-step-lt0.ensures a ∙ end_down s n (value_of a c.args.cut.now.to) _ _ _ _ down refl refl last many in
    λ i. record { first = first i; end = end i; step = step i }

pub returns-else-step-lt0 : goal.returns-else-step-lt0
returns-else-step-lt0 c a =
    let n = c.args.count in
    let s = step_in (value_of a c.args.cut.now.step) in
    let count : to_z w128 n ≡ pos n = search rules in
    let first_fits : FitsSigned w128 c.bound_or-else-step-lt0.result = search rules in
    let end_fits : FitsSigned w128 c.bound_or-else-step-lt0-2.result = search rules in
    let step_fits : FitsSigned w128 c.step_of-step.result = search rules in
    let many = ap at_least_zero count in
    let step = to_z-of_z w128 c.step_of-step.result step_fits ∙ c.step_of-step.ensures a in
    let up = ap (λ z. int_lt z (pos 0)) (sym step) ∙ c.if-step-lt0.false in
    let first = to_z-of_z w128 c.bound_or-else-step-lt0.result first_fits ∙ c.bound_or-else-step-lt0.ensures a ∙ first_up s n (value_of a c.args.cut.now.from) _ _ _ _ up refl refl count many in
    let end = to_z-of_z w128 c.bound_or-else-step-lt0-2.result end_fits ∙ c.bound_or-else-step-lt0-2.ensures a ∙ end_up s n (value_of a c.args.cut.now.to) _ _ _ _ up count refl count many in
    λ i. record { first = first i; end = end i; step = step i }
