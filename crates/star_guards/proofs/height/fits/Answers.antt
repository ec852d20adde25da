use Rattle.std.proofs.lemmas.Bool.{le-leb, leb-true}
use Rattle.star_guards.proofs.height.fits.Goals as goal

-- answered, so that another height is refused at once
pub returns : goal.returns
returns c = (leb-true c.args.high 100, le-leb c.args.high 100)
