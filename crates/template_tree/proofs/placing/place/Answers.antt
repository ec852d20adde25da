use Rattle.std.proofs.lemmas.Result.{err_from_is_err_and}
use Rattle.yaml_noted.specs.View.{documents_of}
use Rattle.template_tree.proofs.Placings.{given_placed, gives_placed, gives_unread}
use Rattle.template_tree.proofs.placing.place.Goals as goal

pub returns-in_err-rows-clause-template : goal.returns-in_err-rows-clause-template
returns-in_err-rows-clause-template c = λ r reads.
    let p = err_from_is_err_and c.from_residual.result c.from_residual.ensures.1 in
    let s = c.in_err-rows.field-0.0 in
    rw (p.1, p.2) (gives_unread r c.args.ignore_unknown c.args.file (documents_of c.args.docs) s (c.in_err-rows.ensures.events r reads))

pub returns-clause-template : goal.returns-clause-template
returns-clause-template c = λ r reads.
    gives_placed r c.args.ignore_unknown c.args.file (documents_of c.args.docs) c.in_ok-rows.rows c.place_rows.result (c.in_ok-rows.ensures.events r reads) c.place_rows.ensures.template

pub returns-clause-placed : goal.returns-clause-placed
returns-clause-placed c = λ keyed.
    let e = c.a_code_reader_exists.ensures in
    let ds = documents_of c.args.docs in
    given_placed e.0 c.args.ignore_unknown c.args.file ds c.place_rows.result keyed (gives_placed e.0 c.args.ignore_unknown c.args.file ds c.in_ok-rows.rows c.place_rows.result (c.in_ok-rows.ensures.events e.0 e.1) c.place_rows.ensures.template)
