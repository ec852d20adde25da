use Rattle.std.proofs.Common.{◌++◌, take, sym, ◌∙◌}
use Rattle.ytt_outside.proofs.Passing.{appends_more, front_appended, moves_front, some_left}
use Rattle.ytt_outside.proofs.host_sink.HostSinkSink.write_piece.Goals as goal

pub loop-rest-preserved : goal.loop-rest-preserved
loop-rest-preserved g c =
    let (counted, started) = c.loop-rest.invariant in
    let (done, split, appended) = started in
    let rest = c.loop-rest.rest.now in
    let n = c.in-Ok.count in
    (counted, (done ++ take n rest, moves_front _ done rest n split, appends_more _ _ _ _ _ appended c.in-Ok.ensures.bytes))

pub returns-in_default-clause-passes : goal.returns-in_default-clause-passes
returns-in_default-clause-passes g c =
    let (counted, started) = c.loop-rest.invariant in
    let (done, split, appended) = started in
    front_appended _ _ _ _ done c.loop-rest.rest.now c.write.result split appended c.write.ensures.bytes

pub returns-in_default-clause-empty : goal.returns-in_default-clause-empty
returns-in_default-clause-empty g c = λ h.
    let (counted, started) = c.loop-rest.invariant in
    let (done, split, appended) = started in
    absurd (some_left done c.loop-rest.rest.now (sym c.is_empty.ensures ∙ c.loop-rest-test.true) (sym split ∙ h))
