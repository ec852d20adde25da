use Rattle.star_text.proofs.FirstNamed.{one_behind}
use Rattle.star_text.proofs.by_name.values_by_name.Goals as goal

pub loop-field-preserved : goal.loop-field-preserved
loop-field-preserved c =
    one_behind c.loop-field.values c.insert.new.self c.as_str.result c.in-Some.field.now c.loop-field.rest.now c.in-Some.before.now c.args.named.now
    c.loop-field.invariant c.in-Some.ensures.cases.0 c.as_str.ensures c.in_ok-insert.ensures.updates
