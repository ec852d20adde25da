use Rattle.code_spec.specs.Program.{statement}
use Rattle.star_tree.specs.Whole.{instruction_of}
use Rattle.star_number.specs.Statements.{simple_of}
use Rattle.template_program.proofs.Emitting.{emits_same, simple_code, where_room}
use Rattle.template_program.proofs.parts.put_simple.Goals as goal

pub returns : goal.returns
returns c =
    let file = c.args.file in
    let stmt = instruction_of file c.args.stmt in
    where_room c.put.result _ _ (c.put.ensures file c.args.next.now c.number_simple.new.next (statement (simple_of file stmt)) c.in_ok-simple.ensures) (λ h. emits_same h (simple_code file stmt))
