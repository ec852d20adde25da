use Rattle.object_arena.specs.Names.{seen}
use Rattle.star_values.proofs.Growing.{owns_kept, value_kept}
use Rattle.star_calls.proofs.Dicts.{put_same}
use Rattle.star_calls.proofs.Kept.{pairs_kept}
use Rattle.star_calls.proofs.rests.put_named.Goals as goal

pub put_pair-requires-clause-pairs : goal.put_pair-requires-clause-pairs
put_pair-requires-clause-pairs c = (pairs_kept (seen c.args.arena.now) (seen c.new_text.new.self) c.args.pairs.now.entries c.in_ok-key.ensures.made.grows c.requires.pairs).0

pub put_pair-requires-clause-value : goal.put_pair-requires-clause-value
put_pair-requires-clause-value c = owns_kept (seen c.args.arena.now) (seen c.new_text.new.self) c.args.value c.in_ok-key.ensures.made.grows c.requires.value

pub returns-clause-pairs : goal.returns-clause-pairs
returns-clause-pairs c =
    let a = seen c.args.arena.now in
    let b = seen c.new_text.new.self in
    let made = c.in_ok-key.ensures.made in
    put_same c.put_pair.result _ _ _ _ _ _ _ made.value (value_kept a b c.args.value made.grows c.requires.value) (pairs_kept a b c.args.pairs.now.entries made.grows c.requires.pairs).1 c.put_pair.ensures.pairs
