use Rattle.star_blocks.proofs.FromEnd.{opened_if}
use Rattle.star_blocks.proofs.level.open_if.Goals as goal

pub returns-in_ok-push-in-Some : goal.returns-in_ok-push-in-Some
returns-in_ok-push-in-Some c = λ file.
    opened_if file c.args.line c.args.test c.args.reading.now.top c.args.reading.now.inner c.pop.new.self c.in-Some.level
    c.reversed.result c.push.new.self.items c.reversed-in-Some.result c.put.result _
    c.in-Some.ensures c.reversed.ensures c.in_ok-push-in-Some.ensures.items c.reversed-in-Some.ensures (c.put.ensures file)
