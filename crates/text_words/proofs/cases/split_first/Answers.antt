use Rattle.text_words.proofs.Bytes.{no_first}
use Rattle.text_words.proofs.cases.split_first.Goals as goal

pub returns-in-None : goal.returns-in-None
returns-in-None c = no_first c.args.text.now c.utf8.text (λ b. let no = c.in-None.ensures.variant.1 b in cc)
