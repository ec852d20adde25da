use Rattle.text_pieces.proofs.Finding.{cut_last}
use Rattle.text_pieces.proofs.cuts.cut_last.Goals as goal

pub returns : goal.returns
returns c = cut_last c.args.part.now c.args.text.now _ c.requires c.rsplit_once.ensures.cases
