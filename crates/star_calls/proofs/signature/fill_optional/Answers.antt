use Rattle.std.proofs.Common.{◌+◌, ap, drop, map as each, refl, rules, sym, ◌∙◌}
use Rattle.std.proofs.lemmas.List.{drop_all}
use Rattle.object_arena.specs.Names.{seen}
use Rattle.star_steps.specs.Meets.{state_in}
use Rattle.star_values.proofs.Growing.{grows_same}
use Rattle.value_spec.specs.Binding.{none_given, optional_parameters}
use Rattle.star_calls.specs.Left.{completed, rest_of}
use Rattle.star_calls.proofs.Signatures.{optional_from, optional_next, optional_parts}
use Rattle.star_calls.proofs.Whole.{gives_same, gives_stopped}
use Rattle.star_calls.proofs.signature.fill_optional.Goals as goal

pub loop-name-init : goal.loop-name-init
loop-name-init c = record { same = λ n. refl; owns = c.requires }

pub loop-name-preserved : goal.loop-name-preserved
loop-name-preserved c =
    let a = seen c.args.arena.now in
    let rest = each (λ w. w.now) (drop (c.loop-name.name-index + 1) c.args.optional.now) in
    record {
      same = λ n. c.loop-name.invariant.same n
          ∙ optional_next c.args.at c.args.optional.now c.loop-name.name-index _ (rest_of a c.loop-name.left) (state_in a n) c.loop-name-test.true
          ∙ c.in_ok-fill_defaulted.ensures.fills n (optional_parts rest) none_given
          ∙ ap (λ ps. completed c.args.at ps (rest_of a c.fill_defaulted.new.left) (state_in a n)) (sym (optional_from rest));
      owns = c.in_ok-fill_defaulted.ensures.owns;
    }

pub returns : goal.returns
returns c = λ n.
    let a = seen c.args.arena.now in
    let none = drop_all c.loop-name.name-index c.args.optional.now c.loop-name-test.false in
    gives_same _ _ c.all_taken.result a a n
    (c.loop-name.invariant.same n ∙ ap (λ ws. completed c.args.at (optional_parameters (each (λ w. w.now) ws)) (rest_of a c.loop-name.left) (state_in a n)) none)
    (c.all_taken.ensures n)

pub returns-in_err-fill_defaulted : goal.returns-in_err-fill_defaulted
returns-in_err-fill_defaulted c = λ n.
    let a = seen c.args.arena.now in
    let rest = each (λ w. w.now) (drop (c.loop-name.name-index + 1) c.args.optional.now) in
    gives_stopped c.from_residual.result c.in_err-fill_defaulted.field-0.0 a a n _ _ _ (search rules)
    (c.loop-name.invariant.same n ∙ optional_next c.args.at c.args.optional.now c.loop-name.name-index _ (rest_of a c.loop-name.left) (state_in a n) c.loop-name-test.true)
    (c.in_err-fill_defaulted.ensures.fills n (optional_parts rest) none_given)
    (grows_same a)
