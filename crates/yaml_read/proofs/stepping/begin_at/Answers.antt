use Rattle.yaml_noted.specs.View.{comments_of}
use Rattle.yaml_read.proofs.Turns.{misfit-none}
use Rattle.yaml_read.proofs.stepping.begin_at.Goals as goal

pub returns-in-None-clause-content : goal.returns-in-None-clause-content
returns-in-None-clause-content c =
    let bs = comments_of c.args.before in
    rw (c.refusal.ensures, c.misfit.ensures bs) (misfit-none c.args.left c.args.is_list c.args.indent bs c.args.row.now c.as_slice-heads.result.now c.as_slice-heads.ensures c.in-None.ensures.cases)
