use Rattle.std.proofs.Common.{ap, arith}
use Rattle.template_checks.specs.Held.{fault_by, opens_of, returned_of, wrong_of}
use Rattle.template_checks.proofs.Rowwise.{ends, nexts_at, starts, stops_row, walks_row}
use Rattle.template_checks.proofs.walk.walk.Goals as goal

pub loop-at-init : goal.loop-at-init
loop-at-init c = record {
  walking = starts c.args.file _ _ _ _ _ (ap opens_of c.new-blocks.ensures) c.new-flags.ensures (ap returned_of c.new-returned.ensures) c.new-levels.ensures;
  nexts = c.requires;
}

pub loop-at-preserved : goal.loop-at-preserved
loop-at-preserved c =
    let file = c.args.file in
    let rows = c.args.rows.now in
    let row = c.index-rows-at.result in
    let nexts = nexts_at file rows c.loop-at.at row c.loop-at.left (omega arith) c.index-rows-at.is c.loop-at.invariant.nexts in
    record {
      walking =
          walks_row file rows c.loop-at.at row (opens_of c.loop-at.blocks) c.loop-at.flags (returned_of c.loop-at.returned) (returned_of c.put_returned.new.returned) c.loop-at.levels c.take_next-next.result
          (omega arith) c.index-rows-at.is c.loop-at.invariant.walking (c.take_next-next.ensures.value _ _ nexts) c.in_ok-put_returned.ensures
          (opens_of c.in_ok-blocks.blocks) c.put_holder.new.flags c.push.new.self c.mark_level.result
          c.in_default.ensures (c.in_ok-blocks.ensures file) (c.in_ok-put_holder.ensures file) c.in_ok-push.ensures.ok (c.mark_level.ensures file);
      nexts = c.take_next-next.ensures.rest _ _ nexts;
    }

pub returns-in-Some : goal.returns-in-Some
returns-in-Some c =
    let file = c.args.file in
    let rows = c.args.rows.now in
    let row = c.index-rows-at.result in
    let nexts = nexts_at file rows c.loop-at.at row c.loop-at.left (omega arith) c.index-rows-at.is c.loop-at.invariant.nexts in
    stops_row file rows c.loop-at.at row (opens_of c.loop-at.blocks) c.loop-at.flags (returned_of c.loop-at.returned) (returned_of c.put_returned.new.returned) c.loop-at.levels c.take_next-next.result
    (omega arith) c.index-rows-at.is c.loop-at.invariant.walking (c.take_next-next.ensures.value _ _ nexts) c.in_ok-put_returned.ensures (fault_by c.in-Some.wrong) c.in-Some.ensures

pub returns : goal.returns
returns c =
    ends c.args.file c.args.rows.now c.loop-at.at (opens_of c.loop-at.blocks) c.loop-at.flags (returned_of c.loop-at.returned) c.loop-at.levels (wrong_of c.left_open.result) (omega arith) c.loop-at.invariant.walking c.left_open.ensures
