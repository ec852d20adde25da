use Rattle.text_pieces.proofs.Finding.{needle_first}
use Rattle.text_pieces.proofs.places.first_place.Goals as goal

pub returns-clause-place : goal.returns-clause-place
returns-clause-place c = needle_first c.args.part.now c.args.text.now _ c.requires (rw c.as_bytes.ensures.value at c.find.ensures)
