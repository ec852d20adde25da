use Rattle.std.proofs.Common.{◌≡◌, ◌∙◌, length, rules, sym}
use Rattle.std.proofs.lemmas.Bool.{eqb-false}
use Rattle.text_words.proofs.LineSteps.{line_shorter, lines_next}
use Rattle.text_words.proofs.line_cuts.lines.Goals as goal

some : (c : goal.In_ok-push) → length c.loop-rest.rest.now ≡ 0 → ⊥
some c = eqb-false (length c.loop-rest.rest.now) 0 (sym c.is_empty.ensures ∙ c.loop-rest-test.true)

pub loop-rest-smaller : goal.loop-rest-smaller
loop-rest-smaller c = line_shorter c.loop-rest.rest.now c.split_line.result.1.now (some c) c.split_line.ensures.rest

pub loop-rest-preserved : goal.loop-rest-preserved
loop-rest-preserved c = record {
  so =
      let parts = c.split_line.ensures in
      rw c.in_ok-push.ensures.ok (lines_next c.args.keep c.loop-rest.lines c.args.text.now c.loop-rest.rest.now c.split_line.result.1.now c.split_line.result.0 c.loop-rest.invariant.so (some c) parts.line parts.rest);
  utf8 = search rules;
}
