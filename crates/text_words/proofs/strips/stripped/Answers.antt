use Rattle.std.proofs.Common.{rules}
use Rattle.text_words.specs.Sets.{characters_in}
use Rattle.text_words.proofs.Stripping.{strips_done, strips_next}
use Rattle.text_words.proofs.strips.stripped.Goals as goal

pub loop-left-preserved : goal.loop-left-preserved
loop-left-preserved c = record {
  so = strips_next c.args.end (characters_in c.args.set.now) c.args.text.now c.loop-left.rest.now c.in-Some.left.now c.loop-left.invariant.so c.in-Some.ensures.cut c.in-Some.ensures.shorter;
  utf8 = search rules;
}

pub returns : goal.returns
returns c = strips_done c.args.end (characters_in c.args.set.now) c.args.text.now c.loop-left.rest.now c.loop-left.invariant.so c.in_default.ensures.cut
