use Rattle.text_pieces.proofs.Finding.{cut_first}
use Rattle.text_pieces.proofs.cuts.cut_first.Goals as goal

pub returns : goal.returns
returns c = cut_first c.args.part.now c.args.text.now _ c.requires c.split_once.ensures.cases
