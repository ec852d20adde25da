use Rattle.notes_read.proofs.Readers.{a_code_reader_exists}
use Rattle.notes_read.proofs.laws.a_code_reader_exists.Goals as goal

pub returns : goal.returns
returns c = a_code_reader_exists
