use Rattle.notes_read.proofs.Saying.{marked_note, marked_alone}
use Rattle.notes_read.proofs.reader.read_marked.Goals as goal

pub returns-in-None : goal.returns-in-None
returns-in-None c =
    λ r reads. marked_note c.args.at.file r c.args.at c.args.own_line c.args.text.now c.args.marked.now c.read_note.result c.in-None.ensures c.requires (c.read_note.ensures r reads)

pub returns-then-own_line : goal.returns-then-own_line
returns-then-own_line c =
    λ r reads. marked_alone c.args.at.file r c.args.at c.args.own_line c.args.text.now c.in-Some.code.now c.read_alone.result c.in-Some.ensures.0 c.if-own_line.true c.in-Some.ensures.1 (c.read_alone.ensures r reads)
