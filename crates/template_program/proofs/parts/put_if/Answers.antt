use Rattle.ytt_base.specs.Outcomes.{place_at}
use Rattle.code_spec.specs.Numbering.{number_expr}
use Rattle.code_spec.specs.Program.{begin_if}
use Rattle.star_tree.specs.Whole.{expr_of}
use Rattle.star_number.proofs.Formed.{one_part}
use Rattle.template_program.proofs.parts.put_if.Goals as goal

pub returns : goal.returns
returns c =
    let file = c.args.file in
    c.put.ensures file c.args.next.now c.number_owned.new.next (begin_if (place_at file c.args.line) (expr_of file c.args.test))
    (one_part (begin_if (place_at file c.args.line)) (number_expr (expr_of file c.args.test)) _ _ _ c.in_ok-test.ensures)
