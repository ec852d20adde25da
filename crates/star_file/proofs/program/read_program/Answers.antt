use Rattle.std.proofs.Common.{IsSome, refl, sym, ap, ◌∙◌, subst}
use Rattle.std.proofs.lemmas.Result.{err_from_is_err_and}
use Rattle.code_spec.specs.Blocks.{blocks}
use Rattle.star_file.proofs.Reading.{items_read, items_stop}
use Rattle.star_file.proofs.program.read_program.Goals as goal

pub returns-in_err-program-clause-items : goal.returns-in_err-program-clause-items
returns-in_err-program-clause-items c =
    let p = err_from_is_err_and c.from_residual.result c.from_residual.ensures.1 in
    rw (p.1, p.2) (items_stop c.args.file c.args.bytes.now c.in_err-program.field-0.0 c.in_err-program.ensures.read)

pub returns-clause-items : goal.returns-clause-items
returns-clause-items c = items_read c.args.file c.args.bytes.now c.in_ok-program.program _ c.in_ok-program.ensures.read c.in_ok-program.ensures.code c.in_ok-numbered.ensures.code

pub returns-clause-closed : goal.returns-clause-closed
returns-clause-closed c = subst IsSome (sym (ap blocks c.in_ok-numbered.ensures.code ∙ c.in_ok-program.ensures.code.blocks_are)) refl
