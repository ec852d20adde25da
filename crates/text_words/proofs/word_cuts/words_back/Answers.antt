use Rattle.std.proofs.Common.{◌∙◌, ap, reverse}
use Rattle.text_spec.specs.Cutting.{words}
use Rattle.text_spec.specs.Texts.{texts_of}
use Rattle.text_words.proofs.WordSteps.{words_forward}
use Rattle.text_words.proofs.word_cuts.words_back.Goals as goal

pub returns : goal.returns
returns c =
    ap texts_of (c.from_vec.ensures ∙ c.reverse.ensures.items)
    ∙ words_forward c.in_ok-words.words.items (words c.args.count (reverse c.args.text.now)) c.in_ok-words.ensures
