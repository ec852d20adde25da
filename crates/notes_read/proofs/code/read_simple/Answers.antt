use Rattle.star_tree.specs.Whole.{instructions_of}
use Rattle.star_grammar.specs.declared.start.Start.TheVariants as start
use Rattle.star_grammar.specs.Parts.{code_in}
use Rattle.notes_read.proofs.Reading.{gives_read}
use Rattle.notes_read.proofs.code.read_simple.Goals as goal

pub returns : goal.returns
returns c =
    λ r reads. gives_read start.Line code_in (instructions_of c.args.at.file) c.args.at c.args.code.now c.in_ok-found.found c.read_line.result (r.simple c.args.at c.args.code.now) c.in_ok-found.ensures.cut c.read_line.ensures (reads.simple c.args.at c.args.code.now)
