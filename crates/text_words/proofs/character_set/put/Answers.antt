use Rattle.text_words.proofs.Passed.{more}
use Rattle.text_words.proofs.character_set.put.Goals as goal

pub returns-clause-more : goal.returns-clause-more
returns-clause-more c = more c.args.set.now c.insert.new.self c.args.text c.in_ok-insert.ensures.updates
