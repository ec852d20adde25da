use Rattle.std.proofs.Common.{[], refl}
use Rattle.yaml_print.proofs.Putting.{any_start}
use Rattle.yaml_print.proofs.length.text_length.Goals as goal

pub returns : goal.returns
returns c = rw c.as_slice.ensures at (c.write_documents.ensures.behind any_start [] refl)
