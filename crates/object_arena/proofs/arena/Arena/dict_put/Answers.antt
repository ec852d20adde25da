use Rattle.object_arena.proofs.Names.{put_key, seen, value_of, acted, owns_kept, value_kept, identified, IsKey, subst, sym}
use Rattle.object_arena.proofs.arena.Arena.dict_put.Goals as goal

pub put_back-requires-clause-owns : goal.put_back-requires-clause-owns
put_back-requires-clause-owns c = c.put-answer.ensures.owned (seen c.take-object.new.self) c.take-object.ensures.owned (owns_kept _ _ c.args.key c.take-object.ensures.out.grows c.requires.owned) (owns_kept _ _ c.args.v c.take-object.ensures.out.grows c.requires.value) (subst IsKey (sym (value_kept _ _ c.args.key c.take-object.ensures.out.grows c.requires.owned)) c.requires.key)

pub returns-clause-meaning : goal.returns-clause-meaning
returns-clause-meaning c =
    let one = identified (seen c.args.self.now) c.take-object.result.contents c.args.key c.keys_stand_once.ensures c.requires.key c.take-object.ensures.had in
    acted (λ u. u) c.put-answer.result (seen c.args.self.now) (seen c.put_back.new.self) c.args.dict.at c.take-object.result c.put-answer.new.self (put_key (value_of (seen c.args.self.now) c.args.key) (value_of (seen c.args.self.now) c.args.v)) c.take-object.ensures.was (c.put-answer.ensures.meaning (seen c.args.self.now).held one) (c.put_back.ensures (seen c.args.self.now) c.take-object.ensures.out)
