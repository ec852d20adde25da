use Rattle.std.proofs.Common.{arith, rules, ◌<◌, ◌≤◌, ◌^◌}
use Rattle.star_steps.proofs.Names.{seen, state_in}
use Rattle.star_builtins.proofs.Sequencing.{taken_within}
use Rattle.star_builtins.proofs.sequences.turns_paid.Goals as goal

pub overflow_cast-result : goal.overflow_cast-result
overflow_cast-result c =
    let a = seen c.args.arena.now in
    let within : c.in-Some.all ≤ c.args.steps.now = taken_within c.in-Some.all c.args.at (state_in a c.args.steps.now) (state_in a c.pay.new.steps) c.in_ok-pay-in-Some.ensures in
    let budget : c.args.steps.now < 2 ^ 64 = search (rules, arith) in
    record { fits = omega (arith, within, budget, c.in-Some.ensures) }
