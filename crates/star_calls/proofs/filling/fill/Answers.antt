use Rattle.std.proofs.Common.{None, ap, map as each, sym, ◌∙◌}
use Rattle.object_arena.specs.Names.{seen}
use Rattle.star_steps.specs.Meets.{state_in}
use Rattle.star_tree.specs.Whole.{bare_part, default_part, expr_of, named_part, parameter_of, parameters_of, star_part, stars_part}
use Rattle.star_tree.proofs.Forms.{parameter_of-Defaulted}
use Rattle.star_values.proofs.Growing.{grows_same}
use Rattle.star_calls.specs.Left.{OwnsRest, rest_of, taken}
use Rattle.star_calls.proofs.Filled.{required_taken}
use Rattle.star_calls.proofs.Fills.{fills_form, fills_same, form-BareStar, form-DoubleStarred, form-Required, form-Starred, when_ok}
use Rattle.star_calls.proofs.filling.fill.Goals as goal

pub returns-in-Required : goal.returns-in-Required
returns-in-Required c =
    let a = seen c.args.arena.now in
    let l = rest_of a c.args.left.now in
    let x = c.as_str.result.now in
    record {
      fills = λ file n. fills_form c.args.at (parameter_of file c.args.param.now) (named_part x) (each (parameter_of file) c.args.more.now) l (state_in a n) (state_in a n) c.fill_named.result _
          (ap (parameter_of file) c.in-Required.is ∙ form-Required file c.in-Required.name ∙ ap named_part (sym c.as_str.ensures))
          (fills_same c.fill_named.result (taken c.args.at x None (parameters_of file c.args.more.now) l (state_in a n)) _ _ _ (required_taken c.args.at x (parameters_of file c.args.more.now) l (state_in a n)) (c.fill_named.ensures.fills n (each (parameter_of file) c.args.more.now)));
      owns = c.fill_named.ensures.owns;
      grows = grows_same a;
    }

pub returns-in-Defaulted : goal.returns-in-Defaulted
returns-in-Defaulted c =
    let a = seen c.args.arena.now in
    let l = rest_of a c.args.left.now in
    let x = c.as_str-in-Defaulted.result.now in
    record {
      fills = λ file n.
          let e = expr_of file c.in-Defaulted.field-1 in
          fills_form c.args.at (parameter_of file c.args.param.now) (default_part x e) (each (parameter_of file) c.args.more.now) l (state_in a n) (state_in a n) c.fill_defaulted.result _
          (ap (parameter_of file) c.in-Defaulted.is ∙ parameter_of-Defaulted file c.in-Defaulted.name c.in-Defaulted.field-1 ∙ ap (λ x. default_part x e) (sym c.as_str-in-Defaulted.ensures))
          (c.fill_defaulted.ensures.fills n (each (parameter_of file) c.args.more.now) e);
      owns = c.fill_defaulted.ensures.owns;
      grows = grows_same a;
    }

pub returns-in-BareStar : goal.returns-in-BareStar
returns-in-BareStar c =
    let a = seen c.args.arena.now in
    let l = rest_of a c.args.left.now in
    record {
      fills = λ file n. fills_form c.args.at (parameter_of file c.args.param.now) bare_part (each (parameter_of file) c.args.more.now) l (state_in a n) (state_in a n) c.pass_star.result _
          (ap (parameter_of file) c.in-BareStar.is ∙ form-BareStar file)
          (c.pass_star.ensures n (each (parameter_of file) c.args.more.now));
      owns = when_ok c.pass_star.result (OwnsRest a c.args.left.now) c.requires;
      grows = grows_same a;
    }

pub returns-in-Starred : goal.returns-in-Starred
returns-in-Starred c =
    let a = seen c.args.arena.now in
    let l = rest_of a c.args.left.now in
    record {
      fills = λ file n. fills_form c.args.at (parameter_of file c.args.param.now) (star_part c.in-Starred.field-0) (each (parameter_of file) c.args.more.now) l (state_in a n) _ c.fill_starred.result _
          (ap (parameter_of file) c.in-Starred.is ∙ form-Starred file c.in-Starred.field-0)
          (c.fill_starred.ensures.fills n c.args.at c.in-Starred.field-0 (each (parameter_of file) c.args.more.now));
      owns = c.fill_starred.ensures.owns;
      grows = c.fill_starred.ensures.grows;
    }

pub returns-in-DoubleStarred : goal.returns-in-DoubleStarred
returns-in-DoubleStarred c =
    let a = seen c.args.arena.now in
    let l = rest_of a c.args.left.now in
    record {
      fills = λ file n. fills_form c.args.at (parameter_of file c.args.param.now) (stars_part c.in-DoubleStarred.field-0) (each (parameter_of file) c.args.more.now) l (state_in a n) _ c.fill_double_starred.result _
          (ap (parameter_of file) c.in-DoubleStarred.is ∙ form-DoubleStarred file c.in-DoubleStarred.field-0)
          (c.fill_double_starred.ensures.fills file n c.in-DoubleStarred.field-0);
      owns = c.fill_double_starred.ensures.owns;
      grows = c.fill_double_starred.ensures.grows;
    }
