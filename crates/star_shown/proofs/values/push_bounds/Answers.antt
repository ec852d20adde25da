use Rattle.star_steps.proofs.Names.{◌≡◌, ◌++◌, integer_text, rules, string_bytes}
use Rattle.text_spec.specs.Shown.{step_text}
use Rattle.star_shown.proofs.Whole.{range_pieces}
use Rattle.star_shown.proofs.values.push_bounds.Goals as goal

pub returns : goal.returns
returns c =
    let from : string_bytes c.push_integer.new.shown ≡ string_bytes c.append.new.text ++ integer_text c.args.from = search rules in
    let to : string_bytes c.push_integer-2.new.shown ≡ string_bytes c.append-2.new.text ++ integer_text c.args.to = search rules in
    let step : string_bytes c.push_step.new.shown ≡ string_bytes c.push_integer-2.new.shown ++ step_text c.args.step = search rules in
    range_pieces (string_bytes c.args.shown.now) _ _ _ _ _ _ (integer_text c.args.from) (integer_text c.args.to) (step_text c.args.step)
    c.in_ok-append.ensures from c.in_ok-append-2.ensures to step c.in_ok-append-3.ensures
