use Rattle.std.proofs.Common.{sym}
use Rattle.yaml_flow.specs.View.{node_of}
use Rattle.yaml_rows.proofs.KeyTexts.{collection-ok, collection-err}
use Rattle.yaml_rows.proofs.keys.read_collection_key.Goals as goal

pub returns-in-Ok : goal.returns-in-Ok
returns-in-Ok c =
    let read = rw c.new.ensures at c.in-Ok.ensures.node in
    rw (collection-ok c.args.text.now (node_of (c.in-Ok._content, c.in-Ok._comments, c.in-Ok.end)) read) c.marked_by.ensures

pub returns-in-Err-Fault : goal.returns-in-Err-Fault
returns-in-Err-Fault c =
    let read = rw (c.new.ensures, c.in-Err-Fault.field-0-is) at c.in-Err-Fault.ensures.node in
    sym (collection-err c.args.text.now c.in-Err-Fault.field-0-0 read)
