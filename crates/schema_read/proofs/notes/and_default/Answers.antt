use Rattle.star_values.specs.Objects.{seen}
use Rattle.schema_read.proofs.notes.and_default.Goals as goal

pub converted-requires : goal.converted-requires
converted-requires c = c.in-Some.ensures.owned (seen c.args.arena.now) c.requires
