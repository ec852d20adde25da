use Rattle.star_tree.specs.Whole.{expr_of}
use Rattle.star_grammar.specs.declared.start.Start.TheVariants as start
use Rattle.star_grammar.specs.Parts.{expr_in}
use Rattle.notes_read.proofs.Reading.{gives_read}
use Rattle.text_template.proofs.pieces.read_code.Goals as goal

pub returns : goal.returns
returns c =
    λ r reads. gives_read start.Expr expr_in (expr_of c.args.at.file) c.args.at c.args.code.now c.in_ok-found.found c.read_expr.result (r.expr c.args.at c.args.code.now) c.in_ok-found.ensures.cut c.read_expr.ensures (reads.expr c.args.at c.args.code.now)
