use Rattle.object_arena.proofs.Names.{empty_out, seen, acted}
use Rattle.object_arena.proofs.arena.Arena.clear.Goals as goal

pub put_back-requires-clause-owns : goal.put_back-requires-clause-owns
put_back-requires-clause-owns c = c.clear-answer.ensures.owned (seen c.take-object.new.self) c.take-object.ensures.owned

pub returns-clause-meaning : goal.returns-clause-meaning
returns-clause-meaning c = acted (λ u. u) c.clear-answer.result (seen c.args.self.now) (seen c.put_back.new.self) c.args.r.at c.take-object.result c.clear-answer.new.self (empty_out) c.take-object.ensures.was (c.clear-answer.ensures.meaning (seen c.args.self.now).held) (c.put_back.ensures (seen c.args.self.now) c.take-object.ensures.out)
