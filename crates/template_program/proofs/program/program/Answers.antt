use Rattle.std.proofs.lemmas.Result.{err_from_is_err_and}
use Rattle.template_tree.specs.View.{template_of}
use Rattle.template_program.proofs.Passing.{one_program, texts_refuse}
use Rattle.template_program.proofs.program.program.Goals as goal

pub returns-in_err-put_items-clause-code : goal.returns-in_err-put_items-clause-code
returns-in_err-put_items-clause-code c =
    let t = c.args.template in
    let p = err_from_is_err_and c.from_residual.result c.from_residual.ensures.1 in
    rw (p.1, p.2) (texts_refuse t.file c.put_items.new.next c.new-code.result c.put_items.new.code (template_of t) c.in_err-put_items.field-0.0 c.in_err-put_items.ensures)

pub returns-clause-code : goal.returns-clause-code
returns-clause-code c =
    let t = c.args.template in
    one_program t.file c.put_items.new.next c.new-code.result c.put_items.new.code (template_of t) c.a_code_reader_exists.ensures c.code_readers_agree.ensures c.new-code.ensures c.in_ok-put_items.ensures
