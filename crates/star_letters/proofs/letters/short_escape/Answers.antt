use Rattle.std.proofs.Common.{refl}
use Rattle.star_letters.proofs.letters.short_escape.Goals as goal

-- answered, so that another byte is refused at once
pub returns-in-110 : goal.returns-in-110
returns-in-110 c = rw c.in-110.is refl
