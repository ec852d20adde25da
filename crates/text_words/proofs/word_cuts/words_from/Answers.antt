use Rattle.std.proofs.Common.{◌≡◌, ◌-◌, ◌∙◌, suc, length, arith, ap, sym}
use Rattle.std.proofs.lemmas.Bool.{eqb-false}
use Rattle.text_spec.specs.Texts.{texts_of}
use Rattle.text_words.specs.Ends.{all_turned}
use Rattle.text_words.proofs.WordSteps.{words_left, words_next, words_so}
use Rattle.text_words.proofs.word_cuts.words_from.Goals as goal

pub returns-then-left-eq0 : goal.returns-then-left-eq0
returns-then-left-eq0 c =
    ap (λ ws. all_turned c.args.end (texts_of ws)) c.in_ok-push.ensures.items
    ∙ words_left c.args.end c.loop-rest.words.items c.loop-rest.rest (eqb-false _ 0 (sym c.is_empty.ensures ∙ c.loop-rest-test.true))
    ∙ (rw c.if-left-eq0.true at c.loop-rest.invariant.same)

pub loop-rest-preserved : goal.loop-rest-preserved
loop-rest-preserved c =
    let n = c.loop-rest.left - 1 in
    let some = eqb-false (length c.loop-rest.rest.now) 0 (sym c.is_empty.ensures ∙ c.loop-rest-test.true) in
    let next = c.without_space-rest-in-loop-rest in
    let more : suc n ≡ c.loop-rest.left = omega arith in
    record {
      same =
          ap (λ ws. words_so c.args.end ws n next.result.now) c.in_ok-push-2.ensures.items
          ∙ words_next c.args.end c.loop-rest.words.items n c.loop-rest.rest.now c.split_run.result.1.now next.result.now c.split_run.result.0 some c.split_run.ensures.part c.split_run.ensures.rest next.ensures
          ∙ ap (λ k. words_so c.args.end c.loop-rest.words.items k c.loop-rest.rest.now) more ∙ c.loop-rest.invariant.same;
      utf8 = next.utf8;
    }
