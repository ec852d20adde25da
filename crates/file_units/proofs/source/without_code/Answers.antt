use Rattle.std.proofs.Common.{◌∙◌, ap}
use Rattle.std.proofs.lemmas.Result.{err_from_is_err_and}
use Rattle.star_resolve.specs.Variables.{each_once}
use Rattle.yaml_noted.specs.View.{documents_of}
use Rattle.ytt_base.specs.View.{trees_of}
use Rattle.file_units.proofs.Sources.{documents_read, documents_stop, documents_whole, library_read, library_whole}
use Rattle.file_units.proofs.source.without_code.Goals as goal

pub returns-then-library-clause-read : goal.returns-then-library-clause-read
returns-then-library-clause-read c = library_read c.args.file c.args.library (documents_of c.args.documents.now) c.new.result c.new.ensures c.in_ok-names.names c.if-library.true

pub returns-then-library-clause-whole : goal.returns-then-library-clause-whole
returns-then-library-clause-whole c = library_whole c.args.file c.args.library (documents_of c.args.documents.now) c.new.result c.new.ensures c.in_ok-names.names (c.in_ok-names.ensures ∙ ap each_once c.new-then-library.ensures)

pub returns-in_err-plain_trees-clause-read : goal.returns-in_err-plain_trees-clause-read
returns-in_err-plain_trees-clause-read c =
    let p = err_from_is_err_and c.from_residual-in_err-plain_trees.result c.from_residual-in_err-plain_trees.ensures.1 in
    rw (p.1, p.2) (documents_stop c.args.file c.args.library (documents_of c.args.documents.now) trees_of c.in_err-plain_trees.field-0.0 c.if-library.false c.in_err-plain_trees.ensures)

pub returns-clause-read : goal.returns-clause-read
returns-clause-read c = documents_read c.args.file c.args.library (documents_of c.args.documents.now) c.new.result c.new.ensures c.in_ok-plain_trees.field-0 c.if-library.false c.in_ok-plain_trees.ensures

pub returns-clause-whole : goal.returns-clause-whole
returns-clause-whole c = documents_whole c.args.file c.args.library (documents_of c.args.documents.now) c.new.result c.new.ensures c.in_ok-plain_trees.field-0
