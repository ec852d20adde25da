use Rattle.std.proofs.lemmas.Str.{IsUtf8-from_ascii}
use Rattle.star_token.proofs.Digits.{digits_ascii}
use Rattle.star_token.proofs.numbers.integer_of.Goals as goal

pub unreachable-requires : goal.unreachable-requires
unreachable-requires c = c.in-Err.ensures.cases.0 (IsUtf8-from_ascii _ (digits_ascii c.args.base _ c.requires.base.1 c.requires.all))
