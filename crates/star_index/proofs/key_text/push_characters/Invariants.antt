use Rattle.star_steps.proofs.Names.{◌≡◌, ◌++◌}
use Rattle.star_index.proofs.Names.{encode_utf8_all, quoted_bytes, string_bytes}
use Rattle.star_index.proofs.key_text.push_characters.Given as goal

abbrev pub invariant-loop-c : goal.invariant-loop-c
invariant-loop-c l = string_bytes l.shown ≡ string_bytes l.initial.shown ++ quoted_bytes (encode_utf8_all l.yielded)
