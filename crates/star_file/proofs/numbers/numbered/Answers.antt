use Rattle.std.proofs.Common.{ap, ◌∙◌, map as each, List}
use Rattle.code_spec.specs.Numbering.{Passed}
use Rattle.code_spec.specs.Program.{Instruction}
use Rattle.star_tree.specs.Whole.{instruction_of}
use Rattle.template_spec.specs.Numbered.{number_instruction}
use Rattle.star_number.proofs.Rows.{row_done, row_turn}
use Rattle.star_file.proofs.Numbering.{program_row}
use Rattle.star_file.proofs.numbers.numbered.Goals as goal

pub loop-stmt-preserved : goal.loop-stmt-preserved
loop-stmt-preserved c =
    let p = c.args.program.now in
    row_turn (instruction_of p.file) number_instruction _ p.code c.loop-stmt.code _ c.loop-stmt.stmt-index c.loop-stmt.next c.number_stmt.new.next c.stmt-item.result _
    (rw c.as_slice-stmt-items.ensures at c.loop-stmt-test.true) (rw c.as_slice-stmt-items.ensures at c.stmt-item.is) c.in_ok-number_stmt.ensures c.in_ok-push.ensures.ok c.loop-stmt.invariant

pub returns-clause-code : goal.returns-clause-code
returns-clause-code c =
    let p = c.args.program.now in
    ap (λ (q : Passed (List Instruction)). q.result)
    (row_done (instruction_of p.file) number_instruction _ p.code c.loop-stmt.code c.loop-stmt.stmt-index c.loop-stmt.next (rw c.as_slice-stmt-items.ensures at c.loop-stmt-test.false) c.loop-stmt.invariant
    ∙ program_row (each (instruction_of p.file) p.code) 0)
