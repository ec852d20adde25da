use Rattle.std.proofs.Common.{◌≡◌, ◌+◌, ◌-◌, ◌<◌, length, arith}
use Rattle.yaml_quotes.proofs.Escaping.{digits-over, digits-all, digits-surrogate, digits-other, digits-next, digits-large, digits-ascii}
use Rattle.yaml_quotes.proofs.escapes.number.Goals as goal

pub returns-then-at-bytes-clause-value : goal.returns-then-at-bytes-clause-value
returns-then-at-bytes-clause-value c =
    digits-over c.args.count c.loop-at.at c.loop-at.value c.args.text.now _ c.loop-at.invariant.same (omega arith) (omega (arith, c.as_bytes-bytes.ensures.len))

pub returns-in_default-clause-value : goal.returns-in_default-clause-value
returns-in_default-clause-value c =
    digits-other c.args.count c.loop-at.at c.loop-at.value c.args.text.now _ c.loop-at.invariant.same (omega arith) (omega (arith, c.as_bytes-bytes.ensures.len)) c.hex_value.result
    (rw c.as_bytes-bytes.ensures.value at c.hex_value.ensures) c.in_default.is

pub returns-then-value-gt1114111-clause-value : goal.returns-then-value-gt1114111-clause-value
returns-then-value-gt1114111-clause-value c =
    digits-large c.args.count c.loop-at.at c.loop-at.value c.args.text.now _ c.loop-at.invariant.same (omega arith) (omega (arith, c.as_bytes-bytes.ensures.len)) c.hex_value.result
    (rw c.as_bytes-bytes.ensures.value at c.hex_value.ensures) c.in-Some.digit c.in-Some.is (omega arith)

pub loop-at-preserved : goal.loop-at-preserved
loop-at-preserved c =
    let within : c.loop-at.at < length c.args.text.now = omega (arith, c.as_bytes-bytes.ensures.len) in
    let digit = rw c.as_bytes-bytes.ensures.value at c.hex_value.ensures in
    record {
      same = digits-next c.args.count c.loop-at.at c.loop-at.value c.args.text.now _ c.loop-at.invariant.same (omega arith) within c.hex_value.result digit c.in-Some.digit c.in-Some.is;
      bound = omega arith;
      within = omega arith;
      ascii = λ _.
          let here : c.loop-at.at + 1 - 1 ≡ c.loop-at.at = omega arith in
          rw here (digits-ascii c.args.count c.loop-at.at c.loop-at.value c.args.text.now _ c.loop-at.invariant.same (omega arith) within c.hex_value.result digit c.in-Some.digit c.in-Some.is);
    }

pub returns-in-Some-from_u32-clause-value : goal.returns-in-Some-from_u32-clause-value
returns-in-Some-from_u32-clause-value c =
    rw (c.in-Some-from_u32.ensures.value.1, c.behind.ensures)
    (digits-all c.args.count c.loop-at.at c.loop-at.value c.args.text.now _ c.loop-at.invariant.same (omega arith) c.in-Some-from_u32.ensures.value.0)

pub returns-in-None-clause-value : goal.returns-in-None-clause-value
returns-in-None-clause-value c =
    digits-surrogate c.args.count c.loop-at.at c.loop-at.value c.args.text.now _ c.loop-at.invariant.same (omega arith) c.in-None.ensures.value
