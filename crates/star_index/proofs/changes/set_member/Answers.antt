use Rattle.star_index.proofs.Names.{seen}
use Rattle.star_index.proofs.ChangeRows.{change_refused}
use Rattle.star_index.proofs.changes.set_member.Goals as goal

pub returns-in-Err-clause-meaning : goal.returns-in-Err-clause-meaning
returns-in-Err-clause-meaning c n =
    change_refused c.args.place c.in-Err.stop c.stop_at.result c.args.list.at _ (seen c.args.arena.now) n c.in-Err.ensures.meaning c.stop_at.ensures
