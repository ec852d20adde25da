use Rattle.star_tree.specs.Whole.{exprs_of}
use Rattle.star_grammar.specs.declared.start.Start.TheVariants as start
use Rattle.star_grammar.specs.Parts.{exprs_in}
use Rattle.notes_read.proofs.Reading.{gives_read}
use Rattle.notes_read.proofs.code.read_args.Goals as goal

pub returns : goal.returns
returns c =
    λ r reads. gives_read start.Args exprs_in (exprs_of c.args.at.file) c.args.at c.args.code.now c.in_ok-found.found c.read_args.result (r.args c.args.at c.args.code.now) c.in_ok-found.ensures.cut c.read_args.ensures (reads.args c.args.at c.args.code.now)
