use Rattle.ytt_words.proofs.Numbers.{parsed_number}
use Rattle.ytt_words.proofs.words.number_of.Goals as goal

pub returns : goal.returns
returns c = let parsed = parsed_number c.args.word.now c.parse.result c.parse.ensures.value.0 c.requires in cc

pub unreachable-requires : goal.unreachable-requires
unreachable-requires c = let parsed = parsed_number c.args.word.now c.parse.result c.parse.ensures.value.0 c.requires in cc
