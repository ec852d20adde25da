-- From the code's types to the definitions': kinds, operands, methods, answers.
use Rattle.std.specs.Prelude.{◌≡◌, ◌<◌, ◌≤◌, length, ◌^◌, ℕ, Bool, List, MatchOption, Option, map as each}
use Rattle.std.specs.Borrow.{Bor}
use Rattle.code_spec.specs.Code.{Name}
use Rattle.operator_spec.specs.Operators.{begins_with}
use Rattle.text_spec.specs.Answers as plain
use Rattle.text_spec.specs.Classes.{capitalized, is_all, is_cased, is_digit, is_letter, is_letter_or_digit, is_lower, is_space, is_upper, lowered, uppered}
use Rattle.text_spec.specs.Cutting.{joined_by, pieces, pieces_back, without_prefix, without_suffix, words, words_back}
use Rattle.text_spec.specs.Methods as plain_method
use Rattle.text_spec.specs.Methods.{Method, by_lines, changing, edge_row, join_row, of_one, partition_back_row, partition_row, partitioning, replacing, searching, splitting, stripped, stripped_back, stripped_front, stripping, testing, without_row}
use Rattle.text_spec.specs.Places.{ends_with}
use Rattle.text_spec.specs.Signatures as read
use Rattle.text_spec.specs.Texts.{texts_of}
use Rattle.star_text.specs.declared.answers.Answer.{Answer}
use Rattle.star_text.specs.declared.answers.Answer.TheVariants as answer
use Rattle.star_text.specs.declared.answers.Made.{Made}
use Rattle.star_text.specs.declared.answers.Made.TheVariants as made
use Rattle.star_text.specs.declared.kinds.Kind.{Kind}
use Rattle.star_text.specs.declared.kinds.Kind.TheVariants as kind
use Rattle.star_text.specs.declared.kinds.Kinds.{Kinds}
use Rattle.star_text.specs.declared.kinds.Operand.{Operand}
use Rattle.star_text.specs.declared.kinds.Operand.TheVariants as operand
use Rattle.star_text.specs.declared.kinds.Operands.{Operands}
use Rattle.star_text.specs.declared.table.End.{End}
use Rattle.star_text.specs.declared.table.End.TheVariants as end
use Rattle.star_text.specs.declared.table.Letters.{Letters}
use Rattle.star_text.specs.declared.table.Letters.TheVariants as letters
use Rattle.star_text.specs.declared.table.Sought.{Sought}
use Rattle.star_text.specs.declared.table.Sought.TheVariants as sought
use Rattle.star_text.specs.declared.table.Test.{Test}
use Rattle.star_text.specs.declared.table.Test.TheVariants as test
use Rattle.star_text.specs.declared.table.TextMethod.{TextMethod}
use Rattle.star_text.specs.declared.table.TextMethod.TheVariants as text_method

-- ---- arguments

abbrev pub kind_of : Kind → read.Kind
kind_of kind.Nothing = read.no_kind
kind_of kind.Text = read.text_kind
kind_of kind.Separator = read.separator
kind_of kind.OptionalText = read.optional_text
kind_of kind.OptionalSeparator = read.optional_separator
kind_of kind.OptionalInteger = read.optional_integer
kind_of kind.OptionalBool = read.optional_bool
kind_of kind.TextOrTexts = read.text_or_texts
kind_of kind.TextMembers = read.text_members

abbrev pub kinds_of : Kinds → read.Kinds
kinds_of ks = record { first = kind_of ks.first; second = kind_of ks.second; third = kind_of ks.third }

abbrev pub operand_of : Operand → read.Operand
operand_of operand.Absent = read.absent
operand_of (operand.Text t) = read.of_text t.now
operand_of (operand.Integer z) = read.of_integer z
operand_of (operand.Bool b) = read.of_bool b
operand_of (operand.Texts ts) = read.of_texts (texts_of ts)

abbrev pub operands_of : Operands → read.Operands
operands_of os = record { first = operand_of os.first; second = operand_of os.second; third = operand_of os.third }

-- ---- methods

abbrev pub sought_of : Sought → plain_method.Sought
sought_of sought.HowOften = plain_method.how_often
sought_of sought.First = plain_method.first
sought_of sought.Last = plain_method.last

-- the test whether a text stands at an end
abbrev pub at_end : End → (part text : List ℕ) → Bool
at_end end.Front = begins_with
at_end end.Back = ends_with
at_end end.Both = begins_with

abbrev pub stripped_at : End → List (List ℕ) → List ℕ → List ℕ
stripped_at end.Front = stripped_front
stripped_at end.Back = stripped_back
stripped_at end.Both = stripped

abbrev pub changed_by : Letters → List ℕ → List ℕ
changed_by letters.Lower = lowered
changed_by letters.Upper = uppered
changed_by letters.Capital = capitalized

abbrev pub passes : Test → List ℕ → Bool
passes test.LetterOrDigit = is_all is_letter_or_digit
passes test.Letter = is_all is_letter
passes test.Digit = is_all is_digit
passes test.Space = is_all is_space
passes test.Lower = is_cased is_lower is_upper
passes test.Upper = is_cased is_upper is_lower

abbrev pub method_of : TextMethod → Method
method_of (text_method.Search w must_be) = searching (sought_of w) must_be
method_of text_method.AtFront = of_one read.text_or_texts (edge_row begins_with)
method_of text_method.AtBack = of_one read.text_or_texts (edge_row ends_with)
method_of text_method.WithoutPrefix = of_one read.text_kind (without_row without_prefix)
method_of text_method.WithoutSuffix = of_one read.text_kind (without_row without_suffix)
method_of text_method.Replace = replacing
method_of text_method.Join = of_one read.text_members join_row
method_of text_method.Partition = partitioning partition_row
method_of text_method.PartitionBack = partitioning partition_back_row
method_of text_method.Split = splitting words pieces
method_of text_method.SplitBack = splitting words_back pieces_back
method_of text_method.Lines = by_lines
method_of (text_method.Strip e) = stripping (stripped_at e)
method_of (text_method.Change l) = changing (changed_by l)
method_of (text_method.Ask t) = testing (passes t)

-- names with the methods that they are
abbrev pub named_methods : List (Bor (List ℕ) × TextMethod) → List (Name × Method)
named_methods ms = each (λ m. (m.0.now, method_of m.1)) ms

-- where a method cuts at its first argument that isn't empty
abbrev pub IsSeparated : TextMethod → read.Operands → Type 0
IsSeparated text_method.Partition os = 0 < length (read.text_in os.first)
IsSeparated text_method.PartitionBack os = 0 < length (read.text_in os.first)
IsSeparated _ os = Unit {0}

-- ---- counts

-- a count, or none for one that has more than 128 bits
abbrev pub IsCount : Option ℕ → ℕ → Type 0
IsCount o n = MatchOption o (2 ^ 128 ≤ n) (λ k. k ≡ n)

-- a number of steps, or none for one past every budget
abbrev pub IsCost : Option ℕ → ℕ → Type 0
IsCost o n = MatchOption o (2 ^ 64 ≤ n) (λ k. k ≡ n)

-- ---- answers

abbrev pub answer_of : Answer → plain.Answer
answer_of (answer.Part t) = plain.one_text t.now
answer_of (answer.Whole t) = plain.one_text t
answer_of (answer.Joined x ts) = plain.one_text (joined_by x.now (texts_of ts))
answer_of (answer.Test b) = plain.one_test b
answer_of (answer.Number z) = plain.one_number z
answer_of (answer.List ts) = plain.text_list (texts_of ts)
answer_of (answer.Tuple ts) = plain.text_tuple (texts_of ts)
answer_of answer.Nowhere = plain.nowhere

abbrev pub made_of : Made → plain.Answer
made_of (made.Text t) = plain.one_text t
made_of (made.Test b) = plain.one_test b
made_of (made.Number z) = plain.one_number z
made_of (made.List ts) = plain.text_list ts
made_of (made.Tuple ts) = plain.text_tuple ts
made_of made.Nowhere = plain.nowhere
