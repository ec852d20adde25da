use Rattle.std.proofs.Common.{◌+◌, length, arith}
use Rattle.std.proofs.lemmas.List.{length-drop, take_rest}
use Rattle.text_pieces.proofs.NextPieces.{count_done, count_next}
use Rattle.text_pieces.proofs.between.count_places.Goals as goal

pub loop-at-preserved : goal.loop-at-preserved
loop-at-preserved c =
    let x = c.args.part.now in
    let u = c.loop-at.rest.now in
    let e = take_rest u (c.in-Some.at + length x) in
    record {
      within = rw (e, length-drop) (omega (arith, c.in-Some.ensures.within));
      same = rw e (count_next x c.args.text.now u c.loop-at.count c.in-Some.at c.in-Some.ensures.place c.loop-at.invariant.same);
    }

pub returns : goal.returns
returns c cuts h = count_done c.args.part.now c.args.text.now c.loop-at.rest.now c.loop-at.count cuts c.in_default.ensures.place c.loop-at.invariant.same (omega arith)
