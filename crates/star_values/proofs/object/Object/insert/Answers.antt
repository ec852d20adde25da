use Rattle.star_values.proofs.Names.{ap, contents_in, object_in, value_in}
use Rattle.star_values.proofs.Acts.{inserted}
use Rattle.star_values.proofs.object.Object.insert.Goals as goal

pub returns-clause-meaning : goal.returns-clause-meaning
returns-clause-meaning c = λ held. inserted (value_in held) c.insert_at.result c.args.at c.args.value c.in-List.items.items c.insert_at.new.items.items (object_in held c.args.self.now) c.in_ok-unlocked.ensures.0 c.in_ok-unlocked.ensures.1 (ap (contents_in held) c.in-List.is) c.insert_at.ensures
