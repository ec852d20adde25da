use Rattle.ytt_base.specs.Outcomes.{place_at}
use Rattle.code_spec.specs.Numbering.{number_expr}
use Rattle.code_spec.specs.Program.{begin_for}
use Rattle.star_tree.specs.Whole.{expr_of}
use Rattle.star_number.proofs.Formed.{two_parts}
use Rattle.template_program.proofs.parts.put_for.Goals as goal

pub returns : goal.returns
returns c =
    let file = c.args.file in
    let target = expr_of file c.args.target in
    let members = expr_of file c.args.members in
    c.put.ensures file c.args.next.now c.number_owned-2.new.next (begin_for (place_at file c.args.line) target members)
    (two_parts (begin_for (place_at file c.args.line)) (number_expr target) (number_expr members) _ _ _ _ _ c.in_ok-target.ensures c.in_ok-members.ensures)
