-- Runs of digits and letters at the front.
use Rattle.std.proofs.Common.{◌≡◌, ℕ, ◌+◌, ◌<◌, ◌≤◌, List, [], ◌∷◌, length, take, Bool, true, false, cond, refl, arith}
use Rattle.std.specs.Prelude.{suc, slice_index}
use Rattle.std.specs.Char.{digit_value, is_ascii_digit, is_ascii_hexdigit}
use Rattle.std.specs.List.{prefix_len}
use Rattle.std.specs.Str.{IsAscii}
use Rattle.std.specs.Str.Parse.{AllDigits}
use Rattle.std.proofs.lemmas.Bool.Decides.{nat_tests}
use Rattle.std.proofs.lemmas.Str.Ascii.{IsAscii-nil, IsAscii-cons}
use Rattle.star_grammar.specs.Pieces.{in_word, is_octal, run_at, word_at}

-- one more byte of a run
run_more : (c n : ℕ) (cs : List ℕ) → take (1 + n) (c ∷ cs) ≡ c ∷ take n cs
run_more c n cs = let e : 1 + n ≡ suc n = omega arith in rw e refl

all_small : (base : ℕ) (p : ℕ → Bool) → ((c : ℕ) → p c ≡ true → digit_value c < base) → (t : List ℕ) → AllDigits base (run_at p t)
all_small base p small [] = tt
all_small base p small (c ∷ cs) = on (p c) refl (all_small base p small cs)
  where
    on : (b : Bool) → p c ≡ b → AllDigits base (run_at p cs) → AllDigits base (take (cond b (1 + prefix_len p cs) 0) (c ∷ cs))
    on true e ih = rw run_more (small c e, ih)
    on false e ih = tt

decimal_small : (c : ℕ) → is_ascii_digit c ≡ true → digit_value c < 10
decimal_small c e = grind (arith, nat_tests)

octal_small : (c : ℕ) → is_octal c ≡ true → digit_value c < 8
octal_small c e = grind (arith, nat_tests)

hexadecimal_small : (c : ℕ) → is_ascii_hexdigit c ≡ true → digit_value c < 16
hexadecimal_small c e = grind (arith, nat_tests)

pub decimal_all : (t : List ℕ) → AllDigits 10 (run_at is_ascii_digit t)
decimal_all t = all_small 10 is_ascii_digit decimal_small t

pub octal_all : (t : List ℕ) → AllDigits 8 (run_at is_octal t)
octal_all t = all_small 8 is_octal octal_small t

pub hexadecimal_all : (t : List ℕ) → AllDigits 16 (run_at is_ascii_hexdigit t)
hexadecimal_all t = all_small 16 is_ascii_hexdigit hexadecimal_small t

-- a run whose first byte is of its kind isn't empty
pub run_some : (p : ℕ → Bool) (t : List ℕ) → p (slice_index t 0) ≡ true → p 0 ≡ false → 0 < length (run_at p t)
run_some p [] e z = absurd (grind arith)
run_some p (c ∷ cs) e z = rw (e, run_more c (prefix_len p cs) cs) (omega arith)

word_small : (c : ℕ) → in_word c ≡ true → c < 128
word_small c e = grind (arith, nat_tests)

pub word_ascii : (t : List ℕ) → IsAscii (word_at t)
word_ascii [] = IsAscii-nil
word_ascii (c ∷ cs) = on (in_word c) refl (word_ascii cs)
  where
    on : (b : Bool) → in_word c ≡ b → IsAscii (word_at cs) → IsAscii (take (cond b (1 + prefix_len in_word cs) 0) (c ∷ cs))
    on true e ih = rw run_more (IsAscii-cons c (word_at cs) (word_small c e) ih)
    on false e ih = IsAscii-nil

value_ascii : (c : ℕ) → digit_value c < 36 → c < 128
value_ascii c lt = grind (arith, nat_tests)

-- digits are ASCII in every base
pub digits_ascii : (base : ℕ) (ds : List ℕ) → base ≤ 36 → AllDigits base ds → IsAscii ds
digits_ascii base [] le all = IsAscii-nil
digits_ascii base (c ∷ cs) le all = IsAscii-cons c cs (value_ascii c (omega (arith, all.0))) (digits_ascii base cs le all.1)
