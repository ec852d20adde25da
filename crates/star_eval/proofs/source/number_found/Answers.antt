use Rattle.std.proofs.Common.{◌<◌, ◌+ℤ◌, ◌*ℤ◌, ℕ, pos, FitsSigned, of_z, to_z, rules, arith}
use Rattle.std.specs.Int.{w128}
use Rattle.star_eval.proofs.source.number_found.Goals as goal

pub number_at-requires : goal.number_at-requires
number_at-requires c =
    let n = c.args.numbers.now in
    let within : (i : ℕ) → i < n.count → FitsSigned w128 (to_z w128 (of_z w128 n.from) +ℤ (pos i *ℤ to_z w128 (of_z w128 n.step))) = search rules in
    let below : c.from-2.result < n.count = omega (arith, c.from-2.ensures, c.from.ensures, c.if-from-numbers.false) in
    within c.from-2.result below
