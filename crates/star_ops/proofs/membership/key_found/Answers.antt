use Rattle.star_index.proofs.KeyLevels.{is_key}
use Rattle.star_ops.proofs.membership.key_found.Goals as goal

pub value_under-requires-clause-key : goal.value_under-requires-clause-key
value_under-requires-clause-key c = is_key 100 _ c.in_ok-key_size.ensures.key
