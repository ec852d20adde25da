use Rattle.std.proofs.Common.{ap}
use Rattle.std.proofs.lemmas.List.{nil_from_length}
use Rattle.object_arena.specs.Names.{seen, value_of, values_of}
use Rattle.star_steps.specs.Meets.{state_in}
use Rattle.star_tree.specs.Whole.{parameters_from}
use Rattle.star_calls.specs.Left.{rest_of}
use Rattle.star_calls.proofs.Filled.{default_taken, no_default}
use Rattle.star_calls.proofs.Fills.{fills_refused, fills_same}
use Rattle.star_calls.proofs.filling.fill_defaulted.Goals as goal

pub returns-in-None : goal.returns-in-None
returns-in-None c =
    let a = seen c.args.arena.now in
    let none = nil_from_length c.args.left.now.defaults.now c.in-None.ensures.cases in
    record {
      fills = λ n qs e. fills_refused c.args.at c.refusal.result _ _ _ c.refusal.ensures
          (no_default c.args.at c.args.name.now e (parameters_from qs) (rest_of a c.args.left.now) (state_in a n) (ap (values_of a) none));
      owns = tt;
    }

pub returns-in-Some : goal.returns-in-Some
returns-in-Some c =
    let a = seen c.args.arena.now in
    record {
      fills = λ n qs e. fills_same c.fill_named.result _ _ _ _
          (default_taken c.args.at c.args.name.now e (parameters_from qs) (rest_of a c.args.left.now) (value_of a c.in-Some.first.now) (values_of a c.in-Some.more.now) (state_in a n) (ap (values_of a) c.in-Some.ensures.cases.0))
          (c.fill_named.ensures.fills n qs);
      owns = c.fill_named.ensures.owns;
    }
