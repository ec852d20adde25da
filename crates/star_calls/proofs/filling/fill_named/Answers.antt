use Rattle.std.proofs.Common.{◌++◌, [], ◌∷◌, ap, ◌∙◌}
use Rattle.object_arena.specs.Names.{option_in, seen, value_of}
use Rattle.star_steps.specs.Meets.{state_in}
use Rattle.star_tree.specs.Whole.{parameters_from}
use Rattle.star_calls.specs.Left.{Rest, rest_of}
use Rattle.star_calls.proofs.Filled.{taken_none, taken_some}
use Rattle.star_calls.proofs.Fills.{fills_refused}
use Rattle.star_calls.proofs.filling.fill_named.Goals as goal

pub returns-in-None : goal.returns-in-None
returns-in-None c =
    let a = seen c.args.arena.now in
    record {
      fills = λ n qs. fills_refused c.args.at c.refusal.result _ _ _ c.refusal.ensures
          (taken_none c.args.at c.args.name.now (option_in a.held c.args.default) (parameters_from qs) (rest_of a c.args.left.now) (state_in a n) (c.in-None.ensures.value a));
      owns = tt;
    }

pub returns-in_ok-put-in-Some : goal.returns-in_ok-put-in-Some
returns-in_ok-put-in-Some c =
    let a = seen c.args.arena.now in
    let r = rest_of a c.args.left.now in
    let v = value_of a c.in-Some.value in
    let own = c.in-Some.ensures.owned a c.requires.default c.requires.left in
    record {
      fills = λ n qs. taken_some c.args.at c.args.name.now (option_in a.held c.args.default) (parameters_from qs) r (rest_of a c.put.new.left) v (state_in a n) (c.in-Some.ensures.value a)
          (c.in_ok-put-in-Some.ensures.left a ∙ ap (λ (q : Rest). record q { got = q.got ++ v ∷ [] }) (c.in-Some.ensures.left a));
      owns = c.in_ok-put-in-Some.ensures.owned a own.0 own.1;
    }
