use Rattle.std.proofs.Common.{ap, take, ◌∙◌}
use Rattle.std.proofs.lemmas.Str.{IsUtf8-from_ascii}
use Rattle.star_token.proofs.Digits.{word_ascii}
use Rattle.star_token.proofs.words.word_at.Goals as goal

pub unreachable-requires : goal.unreachable-requires
unreachable-requires c =
    let word = c.before-front.ensures ∙ ap (λ n. take n c.args.text.now) c.word_size.ensures in
    c.in-Err.ensures.cases.0 (IsUtf8-from_ascii _ (rw word (word_ascii c.args.text.now)))
