use Rattle.text_template.specs.Cuts.{from_mark}
use Rattle.text_template.proofs.Putting.{behind_code}
use Rattle.text_template.proofs.pieces.put_code.Goals as goal

pub returns-clause-puts : goal.returns-clause-puts
returns-clause-puts c =
    let at = c.args.at in
    let marked = c.args.marked.now in
    λ r reads. behind_code r at c.in_ok-code.code.now c.in_ok-code.behind.now (from_mark r at marked) (c.in_ok-code.ensures.cut r) c.in_ok-expr.expr c.args.pieces.now c.put.new.pieces (c.in_ok-expr.ensures r reads) c.in_ok-put.ensures
