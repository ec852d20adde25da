use Rattle.std.proofs.Common.{ap, refl, rules, ◌∙◌}
use Rattle.std.proofs.lemmas.List.{nil_from_length}
use Rattle.object_arena.specs.Names.{seen}
use Rattle.star_steps.specs.Meets.{state_in}
use Rattle.star_tree.specs.Whole.{parameters_of}
use Rattle.star_values.proofs.Growing.{grows_same, grows_then}
use Rattle.star_calls.specs.Left.{completed, rest_of}
use Rattle.star_calls.proofs.Whole.{gives_same, gives_stopped}
use Rattle.star_calls.proofs.binding.fill_all.Goals as goal

pub loop-param-init : goal.loop-param-init
loop-param-init c = record { same = λ file n. refl; owns = c.requires; grows = grows_same (seen c.args.arena.now) }

pub loop-param-preserved : goal.loop-param-preserved
loop-param-preserved c =
    let b = seen c.loop-param.arena in
    record {
      same = λ file n. c.loop-param.invariant.same file n
          ∙ ap (λ ps. completed c.args.at (parameters_of file ps) (rest_of b c.loop-param.left) (state_in b n)) c.in-Some.ensures.cases.0
          ∙ c.in_ok-fill.ensures.fills file n;
      owns = c.in_ok-fill.ensures.owns;
      grows = grows_then (seen c.args.arena.now) b (seen c.fill.new.arena) c.loop-param.invariant.grows c.in_ok-fill.ensures.grows;
    }

pub returns : goal.returns
returns c = λ file n.
    let a = seen c.args.arena.now in
    let b = seen c.loop-param.arena in
    let none = nil_from_length c.loop-param.rest.now c.in_default.ensures.cases in
    let g = gives_same _ _ c.all_taken.result b b n
    (c.loop-param.invariant.same file n ∙ ap (λ ps. completed c.args.at (parameters_of file ps) (rest_of b c.loop-param.left) (state_in b n)) none)
    (c.all_taken.ensures n) in
    record { meaning = g.meaning; owns = g.owns; grows = c.loop-param.invariant.grows }

pub returns-in_err-fill : goal.returns-in_err-fill
returns-in_err-fill c = λ file n.
    let a = seen c.args.arena.now in
    let b = seen c.loop-param.arena in
    let d = seen c.fill.new.arena in
    gives_stopped c.from_residual.result c.in_err-fill.field-0.0 a d n _ _ _ (search rules)
    (c.loop-param.invariant.same file n ∙ ap (λ ps. completed c.args.at (parameters_of file ps) (rest_of b c.loop-param.left) (state_in b n)) c.in-Some.ensures.cases.0)
    (c.in_err-fill.ensures.fills file n)
    (grows_then a b d c.loop-param.invariant.grows c.in_err-fill.ensures.grows)
