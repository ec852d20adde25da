use Rattle.object_arena.proofs.Names.{extend_members, seen, values_of, acted, owns_all_kept}
use Rattle.object_arena.proofs.arena.Arena.list_extend.Goals as goal

pub put_back-requires-clause-owns : goal.put_back-requires-clause-owns
put_back-requires-clause-owns c = c.extend-answer.ensures.owned (seen c.take-object.new.self) c.take-object.ensures.owned (owns_all_kept _ _ c.args.more.now c.take-object.ensures.out.grows c.requires.values)

pub returns-clause-meaning : goal.returns-clause-meaning
returns-clause-meaning c = acted (λ u. u) c.extend-answer.result (seen c.args.self.now) (seen c.put_back.new.self) c.args.list.at c.take-object.result c.extend-answer.new.self (extend_members (values_of (seen c.args.self.now) c.args.more.now)) c.take-object.ensures.was (c.extend-answer.ensures.meaning (seen c.args.self.now).held) (c.put_back.ensures (seen c.args.self.now) c.take-object.ensures.out)
