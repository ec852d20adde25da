use Rattle.std.proofs.Common.{◌≡◌, ◌+◌, ◌-◌, ◌≤◌, drop, take, length, sym, ap, arith, ◌∙◌}
use Rattle.std.proofs.lemmas.List.{drop-take, length-take}
use Rattle.std.proofs.Math.ListN.{drop_of_length-le}
use Rattle.star_builtins.proofs.lists.between.Goals as goal

pub returns-then-from-to : goal.returns-then-from-to
returns-then-from-to c =
    let there : c.args.from ≤ c.args.to = omega arith in
    let rest : c.args.from + (c.args.to - c.args.from) ≡ c.args.to = omega arith in
    sym (drop-take c.args.from (c.args.to - c.args.from) c.args.members.now) ∙ ap (λ k. drop c.args.from (take k c.args.members.now)) rest

pub returns-else-from-to : goal.returns-else-from-to
returns-else-from-to c =
    let short : length (take c.args.to c.args.members.now) ≤ c.args.from = omega (arith, length-take c.args.to c.args.members.now) in
    sym (drop_of_length-le (take c.args.to c.args.members.now) short)
