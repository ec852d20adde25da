use Rattle.std.proofs.Common.{◌≡◌, drop, map as each}
use Rattle.star_number.specs.Rows.{behind, in_row}
use Rattle.star_tree.specs.Whole.{instruction_of}
use Rattle.template_spec.specs.Numbered.{number_instruction}
use Rattle.star_file.proofs.numbers.numbered.Given as goal

abbrev pub invariant-loop-stmt : goal.invariant-loop-stmt
invariant-loop-stmt l =
    let view = instruction_of l.program.file in
    behind (each view l.code) (in_row number_instruction (each view (drop l.stmt-index l.program.code)) l.next) ≡ in_row number_instruction (each view l.program.code) 0
