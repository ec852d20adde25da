use Rattle.std.proofs.Common.{drop, arith}
use Rattle.template_events.specs.View.{row_of, rows_of}
use Rattle.template_checks.specs.Held.{wrong_of}
use Rattle.template_checks.proofs.Steps.{noted_more, reversed_more, row_before}
use Rattle.template_checks.proofs.ahead.look_ahead.Goals as goal

pub loop-at-preserved : goal.loop-at-preserved
loop-at-preserved c =
    let file = c.args.file in
    let inv = c.loop-at.invariant in
    let behind = rows_of file (drop c.loop-at.at c.args.rows.now) in
    rw (row_before file c.args.rows.now c.loop-at.at c.index-rows-at.result (omega arith) (omega arith) c.index-rows-at.is) record {
      nexts = reversed_more c.loop-at.nexts c.push.new.self c.loop-at.next _ _ c.in_ok-push.ensures.ok inv.next inv.nexts;
      next = c.next_before-next.ensures file behind inv.next;
      lost = c.lost_before-lost.ensures file behind inv.lost;
      lost_data = c.lost_before-lost_data.ensures file behind inv.lost_data;
      wrong = noted_more file (row_of file c.index-rows-at.result) behind (wrong_of c.note_fault.result) (wrong_of c.loop-at.wrong) (wrong_of c.earlier-wrong.result) c.earlier-wrong.ensures (c.note_fault.ensures behind inv.lost inv.lost_data) inv.wrong;
    }
