use Rattle.std.proofs.Common.{true}
use Rattle.std.proofs.lemmas.Result.{err_from_is_err_and}
use Rattle.world_spec.specs.Units.{code_items, loaded}
use Rattle.file_units.proofs.Sources.{program_held, program_stop, program_whole}
use Rattle.file_units.proofs.source.read_code.Goals as goal

pub returns-in_err-program-clause-read : goal.returns-in_err-program-clause-read
returns-in_err-program-clause-read c =
    let p = err_from_is_err_and c.from_residual.result c.from_residual.ensures.1 in
    rw (p.1, p.2) (program_stop c.args.file (λ r. code_items r c.args.file c.args.bytes.now) loaded c.in_err-program.field-0.0 c.in_err-program.ensures)

pub returns-clause-read : goal.returns-clause-read
returns-clause-read c = program_held c.args.file (λ r. code_items r c.args.file c.args.bytes.now) true c.in_ok-program.program c.of_program.result c.of_program.ensures.block c.of_program.ensures.content c.in_ok-program.ensures

pub returns-clause-whole : goal.returns-clause-whole
returns-clause-whole c =
    program_whole c.args.file (λ r. code_items r c.args.file c.args.bytes.now) true c.in_ok-program.program c.of_program.result c.of_program.ensures.block c.of_program.ensures.content c.in_ok-program.ensures
