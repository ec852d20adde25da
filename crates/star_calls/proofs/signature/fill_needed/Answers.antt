use Rattle.std.proofs.Common.{◌+◌, ap, drop, map as each, refl, rules, sym, ◌∙◌}
use Rattle.std.proofs.lemmas.List.{drop_all}
use Rattle.object_arena.specs.Names.{seen}
use Rattle.star_steps.specs.Meets.{state_in}
use Rattle.star_values.proofs.Growing.{grows_same}
use Rattle.value_spec.specs.Binding.{parameters_named}
use Rattle.star_calls.specs.Left.{completed, rest_of}
use Rattle.star_calls.proofs.Signatures.{named_from, named_parts, needed_next}
use Rattle.star_calls.proofs.Whole.{gives_same, gives_stopped}
use Rattle.star_calls.proofs.signature.fill_needed.Goals as goal

pub loop-name-init : goal.loop-name-init
loop-name-init c = record { same = λ n. refl; owns = c.requires }

pub loop-name-preserved : goal.loop-name-preserved
loop-name-preserved c =
    let a = seen c.args.arena.now in
    let ys = each (λ w. w.now) c.args.optional.now in
    let rest = each (λ w. w.now) (drop (c.loop-name.name-index + 1) c.args.needed.now) in
    record {
      same = λ n. c.loop-name.invariant.same n
          ∙ needed_next c.args.at ys c.args.needed.now c.loop-name.name-index _ (rest_of a c.loop-name.left) (state_in a n) c.loop-name-test.true
          ∙ c.in_ok-fill_named.ensures.fills n (named_parts rest ys)
          ∙ ap (λ ps. completed c.args.at ps (rest_of a c.fill_named.new.left) (state_in a n)) (sym (named_from rest ys));
      owns = c.in_ok-fill_named.ensures.owns;
    }

pub returns : goal.returns
returns c = λ n.
    let a = seen c.args.arena.now in
    let ys = each (λ w. w.now) c.args.optional.now in
    let none = drop_all c.loop-name.name-index c.args.needed.now c.loop-name-test.false in
    gives_same _ _ c.fill_optional.result a a n
    (c.loop-name.invariant.same n ∙ ap (λ ws. completed c.args.at (parameters_named (each (λ w. w.now) ws) ys) (rest_of a c.loop-name.left) (state_in a n)) none)
    (c.fill_optional.ensures n)

pub returns-in_err-fill_named : goal.returns-in_err-fill_named
returns-in_err-fill_named c = λ n.
    let a = seen c.args.arena.now in
    let ys = each (λ w. w.now) c.args.optional.now in
    let rest = each (λ w. w.now) (drop (c.loop-name.name-index + 1) c.args.needed.now) in
    gives_stopped c.from_residual.result c.in_err-fill_named.field-0.0 a a n _ _ _ (search rules)
    (c.loop-name.invariant.same n ∙ needed_next c.args.at ys c.args.needed.now c.loop-name.name-index _ (rest_of a c.loop-name.left) (state_in a n) c.loop-name-test.true)
    (c.in_err-fill_named.ensures.fills n (named_parts rest ys))
    (grows_same a)
