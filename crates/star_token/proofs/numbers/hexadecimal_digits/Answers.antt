use Rattle.star_token.proofs.Digits.{hexadecimal_all}
use Rattle.star_token.proofs.numbers.hexadecimal_digits.Goals as goal

pub returns-clause-all : goal.returns-clause-all
returns-clause-all c = rw (c.before-2.ensures, c.hexadecimal_size.ensures) (hexadecimal_all c.args.text.now)
