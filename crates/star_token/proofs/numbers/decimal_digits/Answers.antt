use Rattle.star_token.proofs.Digits.{decimal_all}
use Rattle.star_token.proofs.numbers.decimal_digits.Goals as goal

pub returns-clause-all : goal.returns-clause-all
returns-clause-all c = rw (c.before-2.ensures, c.decimal_size.ensures) (decimal_all c.args.text.now)
