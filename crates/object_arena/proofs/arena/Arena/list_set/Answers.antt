use Rattle.object_arena.proofs.Names.{set_member, seen, value_of, acted, owns_kept}
use Rattle.object_arena.proofs.arena.Arena.list_set.Goals as goal

pub put_back-requires-clause-owns : goal.put_back-requires-clause-owns
put_back-requires-clause-owns c = c.set-answer.ensures.owned (seen c.take-object.new.self) c.take-object.ensures.owned (owns_kept _ _ c.args.v c.take-object.ensures.out.grows c.requires.value)

pub returns-clause-meaning : goal.returns-clause-meaning
returns-clause-meaning c = acted (λ u. u) c.set-answer.result (seen c.args.self.now) (seen c.put_back.new.self) c.args.list.at c.take-object.result c.set-answer.new.self (set_member c.args.at (value_of (seen c.args.self.now) c.args.v)) c.take-object.ensures.was (c.set-answer.ensures.meaning (seen c.args.self.now).held) (c.put_back.ensures (seen c.args.self.now) c.take-object.ensures.out)
