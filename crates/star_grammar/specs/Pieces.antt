-- What stands at the front of a text of code: the longest token, bytes that are none, or what is no token.
use Rattle.std.specs.Prelude.{pos, ℕ, zero, suc, ◌+◌, ◌-◌, ◌*◌, ◌^◌, ◌/◌, ◌%◌, Bool, true, false, not, ◌&&◌, ◌||◌, ◌==◌, nat_le, nat_lt, if◌then◌else◌, List, [], ◌∷◌, ◌++◌, length, take, drop, slice_index, Option, Some, None, option_and_then, bytes_eq, codes, count_by}
use Rattle.std.specs.Char.{is_ascii_digit, is_ascii_alphabetic, is_ascii_alphanumeric, is_ascii_hexdigit}
use Rattle.std.specs.List.{prefix_len}
use Rattle.std.specs.Option.{option_map}
use Rattle.std.specs.Str.{is_utf8}
use Rattle.std.specs.Str.Parse.{digits_value}
use Rattle.ytt_base.specs.declared.fault.FaultKind.TheVariants as fault
use Rattle.star_grammar.specs.declared.token.Form.{Form}
use Rattle.star_grammar.specs.declared.token.Letter.{Letter}
use Rattle.star_grammar.specs.declared.token.Said.{Said}
use Rattle.star_grammar.specs.declared.token.Said.TheVariants as said
use Rattle.star_grammar.specs.declared.token.Mark.{Mark}
use Rattle.star_grammar.specs.declared.token.Mark.TheVariants as mark
use Rattle.star_grammar.specs.declared.token.Origin.{Origin}
use Rattle.star_grammar.specs.declared.token.Origin.TheVariants as origin
use Rattle.star_grammar.specs.declared.token.Piece.{Piece}
use Rattle.star_grammar.specs.declared.token.Piece.TheVariants as piece
use Rattle.star_grammar.specs.declared.token.TokenKind.TheVariants as token

abbrev pub no_code : Piece
no_code = piece.Refused fault.CodeForm

-- the first byte, or 0
abbrev pub first : List ℕ → ℕ
first t = slice_index t 0

-- ---- tokens whose text is always the same

-- keywords in expressions
abbrev pub joining_word : List ℕ → Option Mark
joining_word w =
    if bytes_eq (codes "and") w then Some mark.And
    else if bytes_eq (codes "else") w then Some mark.Else
    else if bytes_eq (codes "for") w then Some mark.For
    else if bytes_eq (codes "if") w then Some mark.If
    else if bytes_eq (codes "in") w then Some mark.In
    else if bytes_eq (codes "lambda") w then Some mark.Lambda
    else if bytes_eq (codes "not") w then Some mark.Not
    else if bytes_eq (codes "or") w then Some mark.Or
    else None

-- keywords that begin statements
abbrev pub leading_word : List ℕ → Option Mark
leading_word w =
    if bytes_eq (codes "break") w then Some mark.Break
    else if bytes_eq (codes "continue") w then Some mark.Continue
    else if bytes_eq (codes "def") w then Some mark.Def
    else if bytes_eq (codes "elif") w then Some mark.Elif
    else if bytes_eq (codes "end") w then Some mark.End
    else if bytes_eq (codes "load") w then Some mark.Load
    else if bytes_eq (codes "pass") w then Some mark.Pass
    else if bytes_eq (codes "return") w then Some mark.Return
    else None

abbrev pub keyword : List ℕ → Option Mark
keyword w = elim (joining_word w) [ None ↦ leading_word w | Some m ↦ Some m ]

-- words that are no names
abbrev pub refused_words : List (List ℕ)
refused_words =
    codes "as" ∷ codes "class" ∷ codes "del" ∷ codes "except" ∷ codes "finally" ∷ codes "from" ∷ codes "global" ∷ codes "import"
    ∷ codes "is" ∷ codes "nonlocal" ∷ codes "raise" ∷ codes "try" ∷ codes "while" ∷ codes "with" ∷ codes "yield" ∷ []

abbrev pub is_among : List (List ℕ) → List ℕ → Bool
is_among [] t = false
is_among (x ∷ xs) t = if bytes_eq x t then true else is_among xs t

-- operators of one byte: + - * % ~ & | ^ < > =
abbrev pub operator_mark : ℕ → Option Mark
operator_mark b =
    if b == 43 then Some mark.Plus
    else if b == 45 then Some mark.Minus
    else if b == 42 then Some mark.Star
    else if b == 37 then Some mark.Percent
    else if b == 126 then Some mark.Tilde
    else if b == 38 then Some mark.Ampersand
    else if b == 124 then Some mark.Bar
    else if b == 94 then Some mark.Caret
    else if b == 60 then Some mark.Less
    else if b == 62 then Some mark.Greater
    else if b == 61 then Some mark.Assign
    else None

-- punctuation: , : ; . ( ) [ ] { }
abbrev pub punctuation : ℕ → Option Mark
punctuation b =
    if b == 44 then Some mark.Comma
    else if b == 58 then Some mark.Colon
    else if b == 59 then Some mark.Semicolon
    else if b == 46 then Some mark.Dot
    else if b == 40 then Some mark.Open
    else if b == 41 then Some mark.Close
    else if b == 91 then Some mark.OpenBracket
    else if b == 93 then Some mark.CloseBracket
    else if b == 123 then Some mark.OpenBrace
    else if b == 125 then Some mark.CloseBrace
    else None

-- a byte before `=`: = ! < > + - * % & | ^
abbrev pub assigning : ℕ → Option Mark
assigning b =
    if b == 61 then Some mark.Equal
    else if b == 33 then Some mark.Unequal
    else if b == 60 then Some mark.AtMost
    else if b == 62 then Some mark.AtLeast
    else if b == 43 then Some mark.PlusAssign
    else if b == 45 then Some mark.MinusAssign
    else if b == 42 then Some mark.StarAssign
    else if b == 37 then Some mark.PercentAssign
    else if b == 38 then Some mark.AmpersandAssign
    else if b == 124 then Some mark.BarAssign
    else if b == 94 then Some mark.CaretAssign
    else None

-- a byte that stands twice: * / < >
abbrev pub doubled : ℕ → Option Mark
doubled b =
    if b == 42 then Some mark.Stars
    else if b == 47 then Some mark.DoubleSlash
    else if b == 60 then Some mark.ShiftLeft
    else if b == 62 then Some mark.ShiftRight
    else None

-- a byte that stands twice before `=`: / < >
abbrev pub doubled_assigning : ℕ → Option Mark
doubled_assigning b =
    if b == 47 then Some mark.DoubleSlashAssign
    else if b == 60 then Some mark.ShiftLeftAssign
    else if b == 62 then Some mark.ShiftRightAssign
    else None

abbrev pub single : ℕ → Option Mark
single b = elim (operator_mark b) [ None ↦ punctuation b | Some m ↦ Some m ]

abbrev pub only_if : Bool → Option Mark → Option Mark
only_if b m = if b then m else None

abbrev pub is_double : List ℕ → Bool
is_double t = slice_index t 1 == first t

abbrev pub is_double_assign : List ℕ → Bool
is_double_assign t = is_double t && (slice_index t 2 == 61)

abbrev pub mark_piece : Mark → ℕ → Piece
mark_piece m size = piece.Whole (token.Mark m) size 0

-- `/` and `/=` divide to floats
abbrev pub short_piece : ℕ → Piece
short_piece b = elim (single b) [
  | None ↦ (if b == 47 then piece.Refused fault.FloatRefused else no_code)
  | Some m ↦ mark_piece m 1
]

abbrev pub middle_piece : List ℕ → Piece
middle_piece t = elim (only_if (slice_index t 1 == 61) (assigning (first t))) [ None ↦ short_piece (first t) | Some m ↦ mark_piece m 2 ]

abbrev pub double_piece : List ℕ → Piece
double_piece t = elim (only_if (is_double t) (doubled (first t))) [ None ↦ middle_piece t | Some m ↦ mark_piece m 2 ]

-- the longest operator or punctuation
abbrev pub operator_piece : List ℕ → Piece
operator_piece t = elim (only_if (is_double_assign t) (doubled_assigning (first t))) [ None ↦ double_piece t | Some m ↦ mark_piece m 3 ]

-- ---- names

abbrev pub begins_word : ℕ → Bool
begins_word b = is_ascii_alphabetic b || (b == 95)

abbrev pub in_word : ℕ → Bool
in_word b = is_ascii_alphanumeric b || (b == 95)

-- the longest run of letters, digits and `_` at the front
abbrev pub word_at : List ℕ → List ℕ
word_at t = take (prefix_len in_word t) t

abbrev pub word_token : List ℕ → Piece
word_token w = elim (keyword w) [
  | None ↦ (if is_among refused_words w then no_code else piece.Whole (token.Name w) (length w) 0)
  | Some m ↦ mark_piece m (length w)
]

abbrev pub word_piece : List ℕ → Piece
word_piece t = word_token (word_at t)

-- ---- integers

abbrev pub greatest_integer : ℕ
greatest_integer = 2 ^ 127 - 1

abbrev pub is_octal : ℕ → Bool
is_octal b = nat_le 48 b && nat_le b 55

abbrev pub integer_piece : (base : ℕ) → (digits : List ℕ) → (size : ℕ) → Piece
integer_piece base ds size = if nat_le (digits_value base ds) greatest_integer then piece.Whole (token.Int (pos (digits_value base ds))) size 0 else piece.Refused fault.IntWide

-- the longest run of such digits at the front
abbrev pub run_at : (ℕ → Bool) → List ℕ → List ℕ
run_at p t = take (prefix_len p t) t

-- `e` or `E`, a sign or none, and a digit
abbrev pub is_exponent : List ℕ → Bool
is_exponent t = (first t == 101 || first t == 69)
    && (is_ascii_digit (slice_index t 1) || ((slice_index t 1 == 43 || slice_index t 1 == 45) && is_ascii_digit (slice_index t 2)))

-- no leading zero but `0` itself
abbrev pub is_decimal : List ℕ → Bool
is_decimal ds = length ds == 1 || not (first ds == 48)

abbrev pub decimal_piece : (digits rest : List ℕ) → Piece
decimal_piece ds rest =
    if first rest == 46 || is_exponent rest then piece.Refused fault.FloatRefused
    else if is_decimal ds then integer_piece 10 ds (length ds)
    else no_code

-- `0`, this letter and a digit
abbrev pub is_prefixed : ℕ → (ℕ → Bool) → List ℕ → Bool
is_prefixed letter p t = first t == 48 && slice_index t 1 == letter && p (slice_index t 2)

-- a digit, or a point before one
abbrev pub begins_number : List ℕ → Bool
begins_number t = is_ascii_digit (first t) || ((first t == 46) && is_ascii_digit (slice_index t 1))

abbrev pub rest_of : (front text : List ℕ) → List ℕ
rest_of ds t = drop (length ds) t

abbrev pub number_piece : List ℕ → Piece
number_piece t =
    if is_prefixed 120 is_ascii_hexdigit t then integer_piece 16 (run_at is_ascii_hexdigit (drop 2 t)) (2 + length (run_at is_ascii_hexdigit (drop 2 t)))
    else if is_prefixed 111 is_octal t then integer_piece 8 (run_at is_octal (drop 2 t)) (2 + length (run_at is_octal (drop 2 t)))
    else decimal_piece (run_at is_ascii_digit t) (rest_of (run_at is_ascii_digit t) t)

-- ---- texts

abbrev pub hex1 : ℕ → Option ℕ
hex1 b =
    if is_ascii_digit b then Some (b - 48)
    else if nat_le 97 b && nat_le b 102 then Some (b - 87)
    else if nat_le 65 b && nat_le b 70 then Some (b - 55)
    else None

abbrev pub both : ℕ → Option ℕ → Option ℕ → Option ℕ
both base a b = option_and_then (λ x. option_map (λ y. x * base + y) b) a

-- the value of so many hexadecimal digits at the front
unfoldable pub hex2 : List ℕ → Option ℕ
hex2 t = both 16 (hex1 (first t)) (hex1 (slice_index t 1))

unfoldable pub hex4 : List ℕ → Option ℕ
hex4 t = both 256 (hex2 t) (hex2 (drop 2 t))

unfoldable pub hex8 : List ℕ → Option ℕ
hex8 t = both 65536 (hex4 t) (hex4 (drop 4 t))

abbrev pub letter : Said → ℕ → Letter
letter said size = record { said = said; size = size }

-- a character of this number, up to a greatest one; surrogates are none
abbrev pub is_character : (most : ℕ) → ℕ → Bool
is_character most c = nat_le c most && not (nat_le 55296 c && nat_le c 57343)

abbrev pub numbered : (most size : ℕ) → Option ℕ → Option Letter
numbered most size None = None
numbered most size (Some c) = if is_character most c then Some (letter (said.Char c) size) else None

-- the byte that a letter behind a backslash stands for
abbrev pub short_escape : ℕ → Option ℕ
short_escape b =
    if b == 97 then Some 7
    else if b == 98 then Some 8
    else if b == 102 then Some 12
    else if b == 110 then Some 10
    else if b == 114 then Some 13
    else if b == 116 then Some 9
    else if b == 118 then Some 11
    else if b == 92 then Some 92
    else if b == 39 then Some 39
    else if b == 34 then Some 34
    else None

-- an escape by a number, whose first letter is this one and whose digits follow
abbrev pub long_escape : ℕ → List ℕ → Option Letter
long_escape b t =
    if b == 120 then numbered 127 4 (hex2 t)
    else if b == 117 then numbered 65535 6 (hex4 t)
    else if b == 85 then numbered 1114111 10 (hex8 t)
    else None

-- what stands behind a backslash
abbrev pub escape : (lines : Bool) → List ℕ → Option Letter
escape lines t =
    if first t == 10 then (if lines then Some (letter said.Nothing 2) else None)
    else elim (short_escape (first t)) [
      | None ↦ long_escape (first t) (drop 1 t)
      | Some c ↦ Some (letter (said.Byte c) 2)
    ]

-- the letter at the front of a text that isn't closed there
abbrev pub letter_at : Form → List ℕ → Option Letter
letter_at f t =
    if first t == 10 then (if f.lines then Some (letter (said.Byte 10) 1) else None)
    else if (first t == 92) && not f.raw then escape f.lines (drop 1 t)
    else Some (letter (said.Byte (first t)) 1)

-- in UTF-8
abbrev pub bytes_of : Said → List ℕ
bytes_of said.Nothing = []
bytes_of (said.Byte b) = b ∷ []
bytes_of (said.Char c) =
    if nat_lt c 128 then c ∷ []
    else if nat_lt c 2048 then (192 + c / 64) ∷ (128 + c % 64) ∷ []
    else if nat_lt c 65536 then (224 + c / 4096) ∷ (128 + c / 64 % 64) ∷ (128 + c % 64) ∷ []
    else (240 + c / 262144 % 8) ∷ (128 + c / 4096 % 64) ∷ (128 + c / 64 % 64) ∷ (128 + c % 64) ∷ []

-- the closing quote, or three of them
abbrev pub closes : Form → List ℕ → Bool
closes f t = (first t == f.quote) && (not f.triple || ((slice_index t 1 == f.quote) && (slice_index t 2 == f.quote)))

abbrev pub quotes : Form → ℕ
quotes f = if f.triple then 3 else 1

-- the bytes of a text, and how many are left behind its closing quotes
pub record Span : Type 0 where
  pub bytes : List ℕ
  pub left : ℕ

abbrev pub span : List ℕ → ℕ → Span
span bytes left = record { bytes = bytes; left = left }

abbrev pub joined : List ℕ → Span → Span
joined bytes s = span (bytes ++ s.bytes) s.left

-- A text behind its opening quotes, from this many bytes on, with its closing quotes; none where it is open or a letter is wrong.
abbrev pub quoted_from : ℕ → Form → List ℕ → Option Span
quoted_from n f [] = None
quoted_from (suc n) f (b ∷ bs) = quoted_from n f bs
quoted_from zero f (b ∷ bs) =
    if closes f (b ∷ bs) then Some (span [] (length (b ∷ bs) - quotes f))
    else option_and_then (λ (l : Letter). option_map (joined (bytes_of l.said)) (quoted_from (l.size - 1) f bs)) (letter_at f (b ∷ bs))

abbrev pub quoted : Form → List ℕ → Option Span
quoted f t = quoted_from 0 f t

-- how many line ends are in the first bytes
abbrev pub line_ends : ℕ → List ℕ → ℕ
line_ends n t = count_by (λ b. b == 10) (take n t)

-- a text of such a span behind its opening quotes, which stand behind so many bytes
abbrev pub text_token : (before : ℕ) → List ℕ → Option Span → Piece
text_token before t None = no_code
text_token before t (Some s) = if is_utf8 s.bytes then piece.Whole (token.Text s.bytes) (before + (length t - s.left)) (line_ends (length t - s.left) t) else no_code

abbrev pub is_triple : List ℕ → Bool
is_triple t = (slice_index t 1 == first t) && (slice_index t 2 == first t)

-- only texts in three quotes, in a file, hold line ends
abbrev pub holds_lines : Origin → Bool
holds_lines origin.File = true
holds_lines origin.Comment = false

abbrev pub form : (raw triple lines : Bool) → (quote : ℕ) → Form
form raw triple lines quote = record { raw = raw; triple = triple; lines = lines; quote = quote }

-- a text whose quote is the first byte here, behind so many bytes
abbrev pub text_piece : Origin → (raw : Bool) → (before : ℕ) → List ℕ → Piece
text_piece o raw before t =
    if is_triple t then text_token (before + 3) (drop 3 t) (quoted (form raw true (holds_lines o) (first t)) (drop 3 t))
    else text_token (before + 1) (drop 1 t) (quoted (form raw false false (first t)) (drop 1 t))

-- ---- the longest at the front

abbrev pub is_blank : ℕ → Bool
is_blank b = (b == 32) || (b == 9)

abbrev pub is_quote : ℕ → Bool
is_quote b = (b == 34) || (b == 39)

abbrev pub no_line_end : ℕ → Bool
no_line_end b = not (b == 10)

-- a comment up to the line's end, in a file
abbrev pub comment_piece : Origin → List ℕ → Piece
comment_piece origin.File t = piece.Blank (prefix_len no_line_end t)
comment_piece origin.Comment t = no_code

-- `r` before a quote
abbrev pub is_raw : List ℕ → Bool
is_raw t = (first t == 114) && is_quote (slice_index t 1)

abbrev pub other_piece : List ℕ → Piece
other_piece t =
    if begins_word (first t) then word_piece t
    else if begins_number t then number_piece t
    else operator_piece t

abbrev pub front : Origin → List ℕ → Piece
front o t =
    let b = first t in
    if is_blank b then piece.Blank 1
    else if b == 10 then piece.LineEnd
    else if b == 35 then comment_piece o t
    else if is_quote b then text_piece o false 0 t
    else if is_raw t then text_piece o true 1 (drop 1 t)
    else other_piece t
