use Rattle.std.proofs.Common.{◌≡◌, ◌∙◌, Err, rules, arith}
use Rattle.star_grammar.specs.Reading.{IsRead}
use Rattle.star_machine.specs.Turns.{value_of}
use Rattle.star_read.proofs.Answering.{turn, stands_on, still_anchored, whole, all_read}
use Rattle.star_read.proofs.Stopping.{stopped}
use Rattle.star_read.proofs.reader.read_tokens.Goals as goal

pub returns-in_err-stand : goal.returns-in_err-stand
returns-in_err-stand c =
    let at = c.loop-token in
    let stops : c.from_residual-in_err-stand.result ≡ Err c.in_err-stand.field-0.0 = search rules in
    rw stops
    (stopped (Unit {0}) c.args.start c.args.tokens.now c.as_slice-found.result.now at.token-index c.token-item.result at.machine c.read_token.new.machine at.stand c.in_err-stand.field-0.0 _ c.as_slice-found.ensures
    c.loop-token-test.true c.token-item.is at.invariant.same at.invariant.stand_is c.in_err-stand.ensures.passes)

pub loop-token-preserved : goal.loop-token-preserved
loop-token-preserved c =
    let at = c.loop-token in
    let k = c.token-item.result in
    let after = c.read_token.new.machine in
    let went = c.in_ok-stand.ensures.passes in
    record {
      same = turn c.args.start c.as_slice-found.result.now at.token-index k at.machine.pending (value_of at.machine) c.loop-token-test.true c.token-item.is at.invariant.same after.pending (value_of after) went.1 went.2;
      stand_is = went.0 ∙ stands_on c.args.start c.as_slice-found.result.now at.token-index k at.machine.pending (value_of at.machine) c.loop-token-test.true c.token-item.is at.invariant.same at.stand at.invariant.stand_is;
      anchored = still_anchored k at.machine.pending after.pending (value_of at.machine) (value_of after) at.invariant.anchored went.1;
      weighed = c.in_ok-stand.ensures.weighed;
    }

pub unreachable-requires : goal.unreachable-requires
unreachable-requires c =
    let at = c.loop-token in
    all_read c.args.start c.as_slice-found.result.now at.token-index c.in-Some.field-0 c.pop.new.self (value_of at.machine) (rw c.as_slice-found.ensures c.requires.ended) (omega arith)
    (rw c.in-Some.ensures at at.invariant.anchored) (rw c.in-Some.ensures at at.invariant.same)

pub returns : goal.returns
returns c =
    let at = c.loop-token in
    let h : IsRead c.args.start c.as_slice-found.result.now at.machine.parts = whole c.args.start c.as_slice-found.result.now at.token-index (value_of at.machine) (omega arith) (rw c.in-None.ensures.0 at at.invariant.same) in
    rw c.as_slice-found.ensures at h
