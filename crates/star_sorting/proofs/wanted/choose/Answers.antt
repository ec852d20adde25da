use Rattle.star_steps.proofs.Names.{◌≡◌, Err, false, rules, true, as_is, gives_same, gives_stop, seen}
use Rattle.star_sorting.proofs.Choosing.{gives_fail, kinds_row, paid_row, sized_row}
use Rattle.star_sorting.specs.View.{wanted_of}
use Rattle.star_sorting.proofs.wanted.choose.Goals as goal

pub returns-then-not-of_one_kind : goal.returns-then-not-of_one_kind
returns-then-not-of_one_kind c =
    let a = seen c.args.arena.now in
    let unlike : c.of_one_kind.result ≡ false = search rules in
    gives_fail c.args.at a c.args.steps.now _ c.refusal.result (kinds_row c.args.at (wanted_of c.args.wanted) a c.args.members.now c.args.keys.now _ _ (c.of_one_kind.ensures a) false unlike) c.refusal.ensures

pub returns-in_err-pay_sizes : goal.returns-in_err-pay_sizes
returns-in_err-pay_sizes c =
    let a = seen c.args.arena.now in
    let stopped : c.from_residual.result ≡ Err c.in_err-pay_sizes.field-0.0 = search rules in
    gives_stop as_is _ a _ _ _ _ _ (kinds_row c.args.at (wanted_of c.args.wanted) a c.args.members.now c.args.keys.now _ _ (c.of_one_kind.ensures a) true c.if-not-of_one_kind.false) c.in_err-pay_sizes.ensures stopped

pub returns-in_err-pay : goal.returns-in_err-pay
returns-in_err-pay c =
    let a = seen c.args.arena.now in
    let stopped : c.from_residual-in_err-pay.result ≡ Err c.in_err-pay.field-0.0 = search rules in
    gives_stop as_is _ a _ _ _ _ _ (sized_row c.args.at (wanted_of c.args.wanted) a c.args.members.now c.args.keys.now _ _ (c.of_one_kind.ensures a) c.if-not-of_one_kind.false _ _ c.in_ok-pay_sizes.ensures c.steps_of.ensures) c.in_err-pay.ensures stopped

pub returns-then-wanted : goal.returns-then-wanted
returns-then-wanted c =
    let row = paid_row c.args.at (wanted_of c.args.wanted) (seen c.args.arena.now) c.args.members.now c.args.keys.now _ _ (c.of_one_kind.ensures (seen c.args.arena.now)) c.if-not-of_one_kind.false _ _ _ true c.in_ok-pay_sizes.ensures c.steps_of.ensures c.in_ok-pay.ensures c.if-wanted.true in
    gives_same _ _ _ _ _ _ row (c.first_alone.ensures c.pay.new.steps)

pub returns-else-wanted : goal.returns-else-wanted
returns-else-wanted c =
    let row = paid_row c.args.at (wanted_of c.args.wanted) (seen c.args.arena.now) c.args.members.now c.args.keys.now _ _ (c.of_one_kind.ensures (seen c.args.arena.now)) c.if-not-of_one_kind.false _ _ _ false c.in_ok-pay_sizes.ensures c.steps_of.ensures c.in_ok-pay.ensures c.if-wanted.false in
    gives_same _ _ _ _ _ _ row (c.all_in_order.ensures c.args.at c.pay.new.steps)
