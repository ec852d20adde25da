use Rattle.object_arena.proofs.Names.{remove_member, seen, value_of, acted, owns_contents_kept}
use Rattle.object_arena.proofs.arena.Arena.list_remove.Goals as goal

pub put_back-requires-clause-owns : goal.put_back-requires-clause-owns
put_back-requires-clause-owns c = c.remove-answer.ensures.owned (seen c.take-object.new.self) c.take-object.ensures.owned

pub returns-clause-meaning : goal.returns-clause-meaning
returns-clause-meaning c = acted (value_of (seen c.args.self.now)) c.remove-answer.result (seen c.args.self.now) (seen c.put_back.new.self) c.args.list.at c.take-object.result c.remove-answer.new.self (remove_member c.args.at) c.take-object.ensures.was (c.remove-answer.ensures.meaning (seen c.args.self.now).held) (c.put_back.ensures (seen c.args.self.now) c.take-object.ensures.out)

pub returns-clause-owns : goal.returns-clause-owns
returns-clause-owns c = c.remove-answer.ensures.given (seen c.put_back.new.self) (owns_contents_kept _ _ _ (c.put_back.ensures (seen c.args.self.now) c.take-object.ensures.out).grows c.take-object.ensures.had)
