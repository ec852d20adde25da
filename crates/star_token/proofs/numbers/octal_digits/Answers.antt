use Rattle.star_token.proofs.Digits.{octal_all}
use Rattle.star_token.proofs.numbers.octal_digits.Goals as goal

pub returns-clause-all : goal.returns-clause-all
returns-clause-all c = rw (c.before-2.ensures, c.octal_size.ensures) (octal_all c.args.text.now)
