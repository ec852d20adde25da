-- The classes and runs of the code, as tests of bytes.
use Rattle.std.specs.Prelude.{ℕ, Bool}
use Rattle.text_spec.specs.Classes.{is_digit, is_letter, is_letter_or_digit, is_space}
use Rattle.text_spec.specs.Cutting.{is_line_byte, is_word}
use Rattle.text_words.specs.declared.class.Class.{Class}
use Rattle.text_words.specs.declared.class.Class.TheVariants as class
use Rattle.text_words.specs.declared.runs.Run.{Run}
use Rattle.text_words.specs.declared.runs.Run.TheVariants as run

abbrev pub test_of : Class → ℕ → Bool
test_of class.LetterOrDigit b = is_letter_or_digit b
test_of class.Letter b = is_letter b
test_of class.Digit b = is_digit b
test_of class.Space b = is_space b

abbrev pub run_test : Run → ℕ → Bool
run_test run.Space b = is_space b
run_test run.Word b = is_word b
run_test run.Line b = is_line_byte b
