use Rattle.star_steps.proofs.Names.{◌≡◌, ◌∙◌}
use Rattle.star_index.proofs.Names.{absent_scalar, gives_refused, missing, rules, seen, state_in, sym, true, value_of}
use Rattle.star_index.proofs.fragments.no_entry.Goals as goal

pub returns-then-is_scalar : goal.returns-then-is_scalar
returns-then-is_scalar c =
    let a = seen c.args.arena.now in
    let is : c.is_scalar.result ≡ true = search rules in
    gives_refused c.missing.result (missing c.args.place (value_of a c.args.key)) a c.args.steps.now _ c.missing.ensures
    (absent_scalar c.args.place (value_of a c.args.key) (state_in a c.args.steps.now) (sym (c.is_scalar.ensures a) ∙ is))
