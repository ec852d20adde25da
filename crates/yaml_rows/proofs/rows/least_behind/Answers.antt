use Rattle.std.proofs.Common.{sym, arith}
use Rattle.yaml_rows.proofs.DashHeads.{least_behind-last}
use Rattle.yaml_rows.proofs.rows.least_behind.Goals as goal

pub overflow_add-result : goal.overflow_add-result
overflow_add-result c =
    let last = least_behind-last c.args.least c.args.heads.now c.in-Some.head.now (rw c.as_slice.ensures at c.in-Some.ensures.value) in
    omega (arith, last, c.requires)

pub returns-in-Some : goal.returns-in-Some
returns-in-Some c = sym (least_behind-last c.args.least c.args.heads.now c.in-Some.head.now (rw c.as_slice.ensures at c.in-Some.ensures.value))
