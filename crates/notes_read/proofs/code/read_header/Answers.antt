use Rattle.star_tree.specs.Whole.{header_of}
use Rattle.star_grammar.specs.declared.start.Start.TheVariants as start
use Rattle.star_read.specs.Answers.{head_in}
use Rattle.notes_read.proofs.Reading.{gives_read}
use Rattle.notes_read.proofs.code.read_header.Goals as goal

pub returns : goal.returns
returns c =
    λ r reads. gives_read start.Header head_in (header_of c.args.at.file) c.args.at c.args.text.now c.in_ok-found.found c.read_header.result (r.header c.args.at c.args.text.now) (rw c.as_str.ensures at c.in_ok-found.ensures.cut) c.read_header.ensures (reads.header c.args.at c.args.text.now)
