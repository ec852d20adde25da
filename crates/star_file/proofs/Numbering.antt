-- The statements of a program with the numbers of their functions.
use Rattle.std.proofs.Common.{◌≡◌, ℕ, List, [], ◌∷◌, refl, ap}
use Rattle.code_spec.specs.Program.{Instruction}
use Rattle.star_number.specs.Rows.{in_row}
use Rattle.star_number.proofs.Rows.{with_first}
use Rattle.template_spec.specs.Numbered.{number_instruction, number_program}

pub program_row : (is : List Instruction) (n : ℕ) → in_row number_instruction is n ≡ number_program is n
program_row [] n = refl
program_row (i ∷ is) n = ap (with_first (λ js. (number_instruction i n).result ∷ js)) (program_row is (number_instruction i n).next)
