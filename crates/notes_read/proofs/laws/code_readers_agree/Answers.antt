use Rattle.notes_read.proofs.Readers.{code_readers_agree}
use Rattle.notes_read.proofs.laws.code_readers_agree.Goals as goal

pub returns : goal.returns
returns c = code_readers_agree
