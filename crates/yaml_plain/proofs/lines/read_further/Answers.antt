use Rattle.std.proofs.Common.{◌≡◌, ◌+◌, ◌∙◌, sym, ap, arith, rules, suc, true, false}
use Rattle.std.proofs.lemmas.List.{take_rest}
use Rattle.yaml_spec.specs.Bytes.{is_blank}
use Rattle.yaml_text.specs.View.{cursor_of}
use Rattle.yaml_plain.specs.Lines.{further_of, further_line, wrong}
use Rattle.yaml_plain.proofs.FurtherLines.{going-start, going-empty, going-ends, going-wrong, going-over, going-last, going-more, behind-within, lines-at, lines-over}
use Rattle.yaml_plain.proofs.lines.read_further.Goals as goal
use Rattle.yaml_plain.proofs.lines.read_further.Goals.{in-Empty, in-GoesOn+in_ok-add_part-in-GoesOn+else-not-is_blank, else-loop-at-test, then-loop-at-test+in-Ends, then-loop-at-test+in-GoesOn+in_ok-add_part-in-GoesOn+then-not-is_blank}

pub loop-at-init : goal.loop-at-init
loop-at-init c = record {
  utf8 = c.utf8.first;
  few = omega arith;
  going = going-start c.args.in_flow c.args.least c.args.first.now (cursor_of c.args.here) c.new-folded.result c.new-folded.ensures;
}

pub returns-in-Wrong-clause-text : goal.returns-in-Wrong-clause-text
returns-in-Wrong-clause-text c =
    let g = rw (lines-at c.args.here.below.now c.loop-at.at c.line-item.result c.loop-at-test.true c.line-item.is) at c.loop-at.invariant.going in
    let e : further_line c.args.in_flow c.args.least c.line-item.result.text ≡ wrong = sym (rw c.as_str.ensures at c.look_further.ensures) ∙ ap further_of c.in-Wrong.is in
    rw c.refusal.ensures (going-wrong _ _ g e)

pub loop-at-preserved : goal.loop-at-preserved
loop-at-preserved c =
    let l = c.loop-at in
    let g = rw (lines-at c.args.here.below.now l.at c.line-item.result c.loop-at-test.true c.line-item.is) at l.invariant.going in
    let seen : further_line c.args.in_flow c.args.least c.line-item.result.text ≡ further_of c.look_further.result = sym (rw c.as_str.ensures at c.look_further.ensures) in
    elim c.match-look_further.branch [
      | in-Empty w ↦
          let more : l.empties + 1 ≡ suc l.empties = omega arith in
          rw (w.folded-is, w.last-is, w.end-is, w.empties-is) (record { utf8 = l.invariant.utf8; few = omega (arith, l.invariant.few); going = rw more (going-empty _ _ g (seen ∙ ap further_of w.in-Empty.is)) })
      | in-GoesOn+in_ok-add_part-in-GoesOn+else-not-is_blank w ↦
          let e = seen ∙ ap further_of w.in-GoesOn.is in
          let open_end : is_blank w.in-GoesOn.behind.now ≡ true = sym w.is_blank.ensures ∙ w.if-not-is_blank.false in
          rw (w.folded-is, w.last-is, w.end-is, w.empties-is, take_rest)
          (record { utf8 = search rules; few = omega arith; going = going-more _ _ g w.in-GoesOn.part.now w.in-GoesOn.behind.now e w.add_part.new.folded w.in_ok-add_part-in-GoesOn.ensures open_end })
    ]

pub returns-clause-text : goal.returns-clause-text
returns-clause-text c =
    let l = c.loop-at in
    elim c.loop-at-test.branch [
      | else-loop-at-test w ↦
          let g = rw (lines-over c.args.here.below.now l.at w.loop-at-test.false) at l.invariant.going in
          rw (c.in_ok-finish.ensures, w.folded-is, w.last-is, w.end-is) (going-over g)
      | then-loop-at-test+in-Ends w ↦
          let g = rw (lines-at c.args.here.below.now l.at w.line-item.result w.loop-at-test.true w.line-item.is) at l.invariant.going in
          let seen : further_line c.args.in_flow c.args.least w.line-item.result.text ≡ further_of w.look_further.result = sym (rw w.as_str.ensures at w.look_further.ensures) in
          rw (c.in_ok-finish.ensures, w.folded-is, w.last-is, w.end-is) (going-ends _ _ g (seen ∙ ap further_of w.in-Ends.is))
      | then-loop-at-test+in-GoesOn+in_ok-add_part-in-GoesOn+then-not-is_blank w ↦
          let g = rw (lines-at c.args.here.below.now l.at w.line-item.result w.loop-at-test.true w.line-item.is) at l.invariant.going in
          let seen : further_line c.args.in_flow c.args.least w.line-item.result.text ≡ further_of w.look_further.result = sym (rw w.as_str.ensures at w.look_further.ensures) in
          let over : is_blank w.in-GoesOn.behind.now ≡ false = sym w.is_blank.ensures ∙ w.if-not-is_blank.true in
          rw (c.in_ok-finish.ensures, w.folded-is, w.last-is, w.end-is, take_rest)
          (going-last _ _ g w.in-GoesOn.part.now w.in-GoesOn.behind.now (seen ∙ ap further_of w.in-GoesOn.is) w.add_part.new.folded w.in_ok-add_part-in-GoesOn.ensures over)
    ]

pub returns-clause-within : goal.returns-clause-within
returns-clause-within c =
    let l = c.loop-at in
    elim c.loop-at-test.branch [
      | else-loop-at-test w ↦ rw w.end-is l.invariant.going.within
      | then-loop-at-test+in-Ends w ↦ rw w.end-is l.invariant.going.within
      | then-loop-at-test+in-GoesOn+in_ok-add_part-in-GoesOn+then-not-is_blank w ↦
          let g = rw (lines-at c.args.here.below.now l.at w.line-item.result w.loop-at-test.true w.line-item.is) at l.invariant.going in
          let seen : further_line c.args.in_flow c.args.least w.line-item.result.text ≡ further_of w.look_further.result = sym (rw w.as_str.ensures at w.look_further.ensures) in
          rw (w.end-is, take_rest) (behind-within _ _ g w.in-GoesOn.part.now w.in-GoesOn.behind.now (seen ∙ ap further_of w.in-GoesOn.is))
    ]
