use Rattle.std.proofs.lemmas.Result.{err_from_is_err_and}
use Rattle.world_spec.specs.StarFiles.{star_items}
use Rattle.star_file.proofs.Reading.{passes_stop, program_read, program_stop}
use Rattle.star_file.proofs.program.read_star_file.Goals as goal

pub returns-in_err-program : goal.returns-in_err-program
returns-in_err-program c =
    let p = err_from_is_err_and c.from_residual.result c.from_residual.ensures.1 in
    rw (p.1, p.2) (program_stop c.args.file (λ r. star_items r c.args.file c.args.bytes.now) c.in_err-program.field-0.0 c.in_err-program.ensures.items)

pub returns-in_err-resolved : goal.returns-in_err-resolved
returns-in_err-resolved c =
    let p = err_from_is_err_and c.from_residual-in_err-resolved.result c.from_residual-in_err-resolved.ensures.1 in
    rw (p.1, p.2) (passes_stop c.args.file (λ r. star_items r c.args.file c.args.bytes.now) c.in_ok-program.program c.in_ok-program.ensures.items c.in_err-resolved.field-0.0 c.in_err-resolved.ensures.passes)

pub returns : goal.returns
returns c =
    program_read c.args.file (λ r. star_items r c.args.file c.args.bytes.now) c.in_ok-program.program c.in_ok-program.ensures.items c.in_ok-resolved.resolved _
    c.in_ok-program.ensures.file c.in_ok-resolved.ensures.passes c.in_ok-resolved.ensures.program c.in_ok-resolved.ensures.globals c.in_ok-nested.ensures.file c.in_ok-nested.ensures.blocks c.in_ok-nested.ensures.globals
