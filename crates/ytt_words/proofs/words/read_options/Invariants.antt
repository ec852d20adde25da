use Rattle.std.proofs.Common.{◌≡◌, ◌+◌, [], length, map, string_bytes}
use Rattle.ytt_spec.specs.Words.{asked_from}
use Rattle.ytt_words.specs.Asks.{seen_verb}
use Rattle.ytt_words.proofs.Walk.{Reading}
use Rattle.ytt_words.proofs.words.read_options.Given as goal

-- these options were read
abbrev pub invariant-loop-word : goal.invariant-loop-word
invariant-loop-word l =
    (l.number + length l.rest ≡ l.fn.first + length l.fn.words)
    × Reading (seen_verb l.fn.verb) l.values l.number (map string_bytes l.rest) (asked_from (seen_verb l.fn.verb) l.fn.first [] (map string_bytes l.fn.words))

abbrev pub decreases-loop-word : goal.decreases-loop-word
decreases-loop-word l = length l.rest
