use Rattle.object_arena.proofs.Names.{cut_key, seen, value_of, acted, owns_contents_kept, identified}
use Rattle.object_arena.proofs.arena.Arena.dict_remove.Goals as goal

pub put_back-requires-clause-owns : goal.put_back-requires-clause-owns
put_back-requires-clause-owns c = c.cut-answer.ensures.owned (seen c.take-object.new.self) c.take-object.ensures.owned

pub returns-clause-meaning : goal.returns-clause-meaning
returns-clause-meaning c =
    let one = identified (seen c.args.self.now) c.take-object.result.contents c.args.key c.keys_stand_once.ensures c.requires.key c.take-object.ensures.had in
    acted (value_of (seen c.args.self.now)) c.cut-answer.result (seen c.args.self.now) (seen c.put_back.new.self) c.args.dict.at c.take-object.result c.cut-answer.new.self (cut_key (value_of (seen c.args.self.now) c.args.key)) c.take-object.ensures.was (c.cut-answer.ensures.meaning (seen c.args.self.now).held one) (c.put_back.ensures (seen c.args.self.now) c.take-object.ensures.out)

pub returns-clause-owns : goal.returns-clause-owns
returns-clause-owns c = c.cut-answer.ensures.given (seen c.put_back.new.self) (owns_contents_kept _ _ _ (c.put_back.ensures (seen c.args.self.now) c.take-object.ensures.out).grows c.take-object.ensures.had)
