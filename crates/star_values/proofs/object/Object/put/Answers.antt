use Rattle.star_values.proofs.Names.{ap, subst, Identified, pairs_of, contents_in, object_in, OwnsContents}
use Rattle.star_values.proofs.Acts.{put_act, put_owned}
use Rattle.star_values.proofs.object.Object.put.Goals as goal

pub returns-clause-meaning : goal.returns-clause-meaning
returns-clause-meaning c = λ held known. put_act _ held c.args.key c.args.value c.in-Dict.pairs.entries c.put_under.new.pairs.entries (object_in held c.args.self.now) c.equal_values_are_one.ensures c.in_ok-unlocked.ensures.0 c.in_ok-unlocked.ensures.1 (ap (contents_in held) c.in-Dict.is) (subst (λ x. Identified held c.args.key (pairs_of x)) c.in-Dict.is known) c.in_ok-put_under-in-Dict.ensures.ok

pub returns-clause-owned : goal.returns-clause-owned
returns-clause-owned c = λ a owned key value is. rw (c.in_ok-put_under-in-Dict.ensures.ok) (put_owned a _ c.args.key c.args.value c.in-Dict.pairs.entries (subst (OwnsContents a) c.in-Dict.is owned) key value is)
