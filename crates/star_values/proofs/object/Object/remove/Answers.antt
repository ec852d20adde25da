use Rattle.star_values.proofs.Names.{ap, subst, contents_in, object_in, OwnsContents, value_in}
use Rattle.star_values.proofs.Acts.{given_owned, removed}
use Rattle.star_values.proofs.object.Object.remove.Goals as goal

pub returns-clause-meaning : goal.returns-clause-meaning
returns-clause-meaning c = λ held. removed (value_in held) c.remove_at.result c.args.at c.in-List.items.items c.remove_at.new.items.items (object_in held c.args.self.now) c.in_ok-unlocked.ensures.0 c.in_ok-unlocked.ensures.1 (ap (contents_in held) c.in-List.is) c.remove_at.ensures

pub returns-clause-given : goal.returns-clause-given
returns-clause-given c = λ a owned. given_owned a c.remove_at.result c.args.at c.in-List.items.items c.remove_at.new.items.items c.remove_at.ensures (subst (OwnsContents a) c.in-List.is owned)
