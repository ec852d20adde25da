use Rattle.text_words.proofs.Stripping.{cut_prefix, cut_suffix}
use Rattle.text_words.proofs.character_set.without.Goals as goal

pub returns-in-Front-clause-cut : goal.returns-in-Front-clause-cut
returns-in-Front-clause-cut c = rw c.in-Front.is (cut_prefix c.args.part.now c.args.text.now c.strip_prefix.result c.strip_prefix.ensures.cases)

pub returns-in-Back-clause-cut : goal.returns-in-Back-clause-cut
returns-in-Back-clause-cut c = rw c.in-Back.is (cut_suffix c.args.part.now c.args.text.now c.strip_suffix.result c.strip_suffix.ensures.cases)
