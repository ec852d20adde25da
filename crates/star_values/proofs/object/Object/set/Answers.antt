use Rattle.star_values.proofs.Names.{ap, contents_in, object_in, value_in}
use Rattle.star_values.proofs.Acts as acts
use Rattle.star_values.proofs.object.Object.set.Goals as goal

pub returns-in-List-clause-meaning : goal.returns-in-List-clause-meaning
returns-in-List-clause-meaning c = λ held. acts.set (value_in held) c.set_at.result c.args.at c.args.value c.in-List.items.items c.set_at.new.items.items (object_in held c.args.self.now) c.in_ok-unlocked.ensures.0 c.in_ok-unlocked.ensures.1 (ap (contents_in held) c.in-List.is) c.set_at.ensures
