use Rattle.std.proofs.Common.{ap, rules, subst, sym, ◌∙◌}
use Rattle.object_arena.specs.Names.{OwnsAll, env_in, seen, values_of}
use Rattle.star_steps.specs.Meets.{state_in}
use Rattle.star_tree.specs.Whole.{parameters_of}
use Rattle.star_values.specs.View.{arguments_in}
use Rattle.value_spec.specs.Outcomes.{done}
use Rattle.star_values.proofs.Growing.{grows_then}
use Rattle.star_calls.proofs.Called.{called_scope, own_stopped, scope_wanting, values_stopped}
use Rattle.star_calls.proofs.Kept.{env_kept}
use Rattle.star_calls.proofs.call.call_scope.Goals as goal

pub bind-requires-clause-defaults : goal.bind-requires-clause-defaults
bind-requires-clause-defaults c = subst (OwnsAll (seen c.args.arena.now)) (sym c.as_slice.ensures) c.in_ok-around.ensures.owns.1

pub returns-in_err-values : goal.returns-in_err-values
returns-in_err-values c = λ file n names g fresh there.
    let a = seen c.args.arena.now in
    let b = seen c.bind.new.arena in
    let bound = c.in_err-values.ensures file n in
    values_stopped c.args.at n (parameters_of file c.args.params.now) names g (values_of a c.as_slice.result.now) (arguments_in a.held c.args.args) c.in_err-values.field-0.0 c.from_residual-in_err-values.result a b
    (ap (values_of a) c.as_slice.ensures ∙ (c.in_ok-around.ensures.is g there).defaults) (search rules) bound.meaning bound.grows

pub own_boxes-requires : goal.own_boxes-requires
own_boxes-requires c = subst (OwnsAll (seen c.bind.new.arena)) (sym c.as_slice-2.ensures) (c.in_ok-values.ensures 0 0).owns

pub returns-in_err-own : goal.returns-in_err-own
returns-in_err-own c = λ file n names g fresh there.
    let a = seen c.args.arena.now in
    let b = seen c.bind.new.arena in
    let d = seen c.own_boxes.new.arena in
    let bound = c.in_ok-values.ensures file n in
    let own = c.in_err-own.ensures file n in
    own_stopped c.args.at n (parameters_of file c.args.params.now) names g (values_of a c.as_slice.result.now) (values_of b c.as_slice-2.result.now) (arguments_in a.held c.args.args) c.in_err-own.field-0.0 c.from_residual-in_err-own.result a b d
    (ap (values_of a) c.as_slice.ensures ∙ (c.in_ok-around.ensures.is g there).defaults) (search rules)
    (bound.meaning ∙ ap (λ vs. done (values_of b vs) (state_in b n)) (sym c.as_slice-2.ensures)) own.meaning (grows_then a b d bound.grows own.grows)

pub scope_with-requires-clause-own : goal.scope_with-requires-clause-own
scope_with-requires-clause-own c = (c.in_ok-own.ensures 0 0).owns

pub scope_with-requires-clause-around : goal.scope_with-requires-clause-around
scope_with-requires-clause-around c =
    let a = seen c.args.arena.now in
    let b = seen c.bind.new.arena in
    let d = seen c.own_boxes.new.arena in
    (env_kept a d c.in_ok-around.around (grows_then a b d (c.in_ok-values.ensures 0 0).grows (c.in_ok-own.ensures 0 0).grows) c.in_ok-around.ensures.owns.0).0

pub returns-in_err-scope_with : goal.returns-in_err-scope_with
returns-in_err-scope_with c = λ file n names g fresh there.
    let a = seen c.args.arena.now in
    let b = seen c.bind.new.arena in
    let d = seen c.own_boxes.new.arena in
    let e = seen c.scope_with.new.arena in
    scope_wanting _ c.from_residual-in_err-scope_with.result a e n (search rules)
    (grows_then a b e (c.in_ok-values.ensures file n).grows (grows_then b d e (c.in_ok-own.ensures file n).grows c.in_err-scope_with.ensures.grows))

pub returns : goal.returns
returns c = λ file n names g fresh there.
    let a = seen c.args.arena.now in
    let b = seen c.bind.new.arena in
    let d = seen c.own_boxes.new.arena in
    let e = seen c.scope_with.new.arena in
    let is = c.in_ok-around.ensures.is g there in
    let bound = c.in_ok-values.ensures file n in
    let own = c.in_ok-own.ensures file n in
    let scope = c.in_ok-scope_with.ensures in
    let outer = env_kept a d c.in_ok-around.around (grows_then a b d bound.grows own.grows) c.in_ok-around.ensures.owns.0 in
    record {
      meaning = called_scope c.args.at n (parameters_of file c.args.params.now) names c.args.fresh.now g (values_of a c.as_slice.result.now) (arguments_in a.held c.args.args) (env_in d.held c.in_ok-around.around) (env_in d.held c.in_ok-own.own) c.in_ok-scope_with.field-0
          (values_of b c.as_slice-2.result.now) a b d e
          (ap (values_of a) c.as_slice.ensures ∙ is.defaults) (outer.1 ∙ is.env)
          (bound.meaning ∙ ap (λ vs. done (values_of b vs) (state_in b n)) (sym c.as_slice-2.ensures)) own.meaning fresh scope.env scope.store;
      owns = scope.owned;
      grows = grows_then a b e bound.grows (grows_then b d e own.grows scope.grows);
    }
