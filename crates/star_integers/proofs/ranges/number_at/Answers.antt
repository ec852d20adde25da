use Rattle.star_integers.proofs.Progressions.{number_of}
use Rattle.star_integers.proofs.ranges.number_at.Goals as goal

pub returns : goal.returns
returns c = number_of c.args.start c.args.step c.cast_signed.result c.args.place c.ranges.start c.ranges.step c.ranges.place.fits c.requires c.cast_signed.ensures
