-- The number that 1 to 8 digits write.
use Rattle.std.proofs.Common.{◌≡◌, ◌≤◌, ℕ, ◌&&◌, true, nat_le, List, length, Result, Ok, arith}
use Rattle.std.proofs.lemmas.Bool.Decides.{nat_tests}
use Rattle.std.proofs.lemmas.Str.Parse.{IsNumeralModel, digits_value_short, numerals_by_value, parse_gives, tells_all_ascii_digits}
use Rattle.std.specs.Cmp.{first_so, second_so}
use Rattle.std.specs.Str.{all_ascii_digits}
use Rattle.std.specs.Str.Parse.{ParsesUnsigned, digits_value}
use Rattle.ytt_spec.specs.Words.{is_number, number_of}

digits : IsNumeralModel (λ ds. all_ascii_digits ds ≡ true) (digits_value 10)
digits = numerals_by_value _ tells_all_ascii_digits

at_least : (m n : ℕ) → nat_le m n ≡ true → m ≤ n
at_least m n h = grind (arith, nat_tests)

-- it is parsed as that number
pub parsed_number : {E : Type 0} (word : List ℕ) (r : Result ℕ E) → ParsesUnsigned 64 10 word r → is_number word ≡ true → r ≡ Ok (number_of word)
parsed_number word r h is =
    let all = second_so (nat_le 1 (length word) && nat_le (length word) 8) (all_ascii_digits word) is in
    let sizes = first_so (nat_le 1 (length word) && nat_le (length word) 8) (all_ascii_digits word) is in
    let some = at_least 1 (length word) (first_so (nat_le 1 (length word)) (nat_le (length word) 8) sizes) in
    let few = at_least (length word) 8 (second_so (nat_le 1 (length word)) (nat_le (length word) 8) sizes) in
    let small = digits_value_short digits word 8 all few in
    parse_gives digits 64 word r h all (omega (arith, some)) (omega (arith, small))
