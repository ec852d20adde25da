-- Runs of letters and digits are text.
use Rattle.std.proofs.Common.{◌≡◌, ℕ, ◌<◌, List, [], ◌∷◌, arith, true}
use Rattle.std.proofs.lemmas.Bool.{and_parts}
use Rattle.std.proofs.lemmas.Bool.Decides.{nat_tests}
use Rattle.std.proofs.lemmas.Str.Ascii.{IsAscii-nil, IsAscii-cons}
use Rattle.std.proofs.lemmas.Str.{IsUtf8-from_ascii}
use Rattle.std.specs.Str.{IsAscii, IsUtf8}
use Rattle.std.specs.List.{list_all}
use Rattle.yaml_spec.specs.Bytes.{is_letter_or_digit}

letter_or_digit_below : (b : ℕ) → is_letter_or_digit b ≡ true → b < 128
letter_or_digit_below b h = grind (arith, nat_tests)

pub run_ascii : (bs : List ℕ) → list_all is_letter_or_digit bs ≡ true → IsAscii bs
run_ascii [] h = IsAscii-nil
run_ascii (b ∷ bs) h = let p = and_parts (is_letter_or_digit b) (list_all is_letter_or_digit bs) h in IsAscii-cons b bs (letter_or_digit_below b p.0) (run_ascii bs p.1)

pub run_utf8 : (bs : List ℕ) → list_all is_letter_or_digit bs ≡ true → IsUtf8 bs
run_utf8 bs h = IsUtf8-from_ascii bs (run_ascii bs h)
