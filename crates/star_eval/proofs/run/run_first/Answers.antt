use Rattle.std.proofs.Common.{rules, ◌≡◌, ap, sym, ◌∙◌}
use Rattle.star_blocks.specs.Nested.{op_of, ops_of, statement_of}
use Rattle.star_blocks.specs.declared.block.Op.{the_lemmas}
use Rattle.code_spec.specs.Blocks.{op_part}
use Rattle.star_spec.specs.Flow.{go_on}
use Rattle.star_tree.specs.Whole.{part_of}
use Rattle.value_spec.specs.Outcomes.{then_do}
use Rattle.star_eval.specs.Doing.{op_through, through}
use Rattle.star_eval.specs.Frames.{around_flow}
use Rattle.star_eval.specs.Meets.{state_of}
use Rattle.star_eval.specs.View.{nodes_in, setting_of, waiting_in}
use Rattle.star_eval.proofs.Going.{goes}
use Rattle.star_eval.proofs.Says.{op_says, part_says}
use Rattle.star_eval.proofs.run.run_first.Goals as goal

pub returns-in-Code : goal.returns-in-Code
returns-in-Code c =
    let m = c.args.m.now in
    let same : op_of m.code.file c.args.first.now ≡ statement_of m.code.file c.in-Code.statement = search (rules, the_lemmas) in
    goes _ c.run_statement.result c.run_statement.new.m
    (ap (λ r. around_flow m (waiting_in m) (then_do r (go_on (through (setting_of m) (ops_of m.code.file c.args.rest.now)))))
    ((λ i. op_says (setting_of m) (statement_of m.code.file c.in-Code.statement) (nodes_in m) i (state_of m.session)) ∙ sym (ap (λ o. op_through (setting_of m) o (nodes_in m) (state_of m.session)) same)))
    c.run_statement.ensures

pub returns-in-Node : goal.returns-in-Node
returns-in-Node c =
    let m = c.args.m.now in
    let same : op_of m.code.file c.args.first.now ≡ op_part (part_of m.code.file c.in-Node.part) = search (rules, the_lemmas) in
    goes _ c.node_part.result c.node_part.new.m
    (ap (λ r. around_flow m (waiting_in m) (then_do r (go_on (through (setting_of m) (ops_of m.code.file c.args.rest.now)))))
    ((λ i. part_says (setting_of m) (part_of m.code.file c.in-Node.part) (nodes_in m) i (state_of m.session)) ∙ sym (ap (λ o. op_through (setting_of m) o (nodes_in m) (state_of m.session)) same)))
    c.node_part.ensures
