use Rattle.star_index.proofs.KeyLevels.{is_key}
use Rattle.star_values.specs.View.{value_of}
use Rattle.star_eval.specs.View.{arena_in}
use Rattle.star_eval.proofs.comprehensions.pair.Goals as goal

pub put_pair-requires-clause-key : goal.put_pair-requires-clause-key
put_pair-requires-clause-key c = is_key 100 (value_of (arena_in c.args.m.now) c.args.both.0) c.in-Ok.ensures.key
