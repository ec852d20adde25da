use Rattle.yaml_read.proofs.InParts.{items-put, items-kept}
use Rattle.yaml_read.proofs.documents.put_document.Goals as goal

pub returns-in_ok-push : goal.returns-in_ok-push
returns-in_ok-push c = rw c.in-Some.is (items-put c.args.items.now c.push.new.self c.in-Some.item c.in_ok-push.ensures.ok)

pub returns-in_default : goal.returns-in_default
returns-in_default c = rw c.in_default.is (items-kept c.args.items.now)
