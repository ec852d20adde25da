use Rattle.star_index.proofs.Names.{max_depth, seen, sym, value_of, within_unless_offence}
use Rattle.star_index.proofs.keys.absent_field.Goals as goal

pub missing-requires-clause-key : goal.missing-requires-clause-key
missing-requires-clause-key c = within_unless_offence max_depth (value_of (seen c.args.arena.now) c.args.key) (sym c.in-None.ensures.offence)
