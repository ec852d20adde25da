-- Scalars in quotes by pieces: bytes that stand for themselves, and what comes behind them (YAML 1.2.2, 5.7 and 7.3).
use Rattle.std.specs.Prelude.{ℕ, zero, suc, ◌+◌, ◌*◌, ◌<◌, ◌≤◌, Bool, true, false, not, ◌||◌, ◌==◌, if◌then◌else◌, List, [], ◌∷◌, ◌++◌, length, drop, Some, None, encode_utf8}
use Rattle.yaml_spec.specs.Bytes.{quote, apostrophe, backslash, first, is_hex_digit, digit_value, trim_end}
use Rattle.yaml_spec.specs.Quotes.{Scan, open_end, closed, wrong, line_ends, prepend, scan, escaped, escape_digits, is_scalar_value}

-- the line ends, or an escaped break; the closing quote with the text behind it; a character and the text behind it; a wrong escape
pub data Turn : Type 0 where
  ends : Bool → Turn
  closes : List ℕ → Turn
  gives : ℕ → List ℕ → Turn
  fails : Turn

-- the byte stands for itself in quotes
abbrev pub is_plain : Bool → ℕ → Bool
is_plain is_double b = if is_double then not (b == quote || b == backslash) else not (b == apostrophe)

-- so many hexadecimal digits behind those that write this number
unfoldable pub number_at : ℕ → ℕ → List ℕ → Turn
number_at zero c bs = if is_scalar_value c then gives c bs else fails
number_at (suc n) c [] = fails
number_at (suc n) c (b ∷ bs) = elim (is_hex_digit b) [ true ↦ number_at n (c * 16 + digit_value b) bs | false ↦ fails ]

-- behind a backslash
unfoldable pub escape_at : List ℕ → Turn
escape_at [] = ends true
escape_at (b ∷ bs) =
    elim (escaped b) [ Some c ↦ gives c bs | None ↦ elim (escape_digits b) [ Some n ↦ number_at n 0 bs | None ↦ fails ] ]

-- at a quote, a backslash or the line's end
abbrev pub double_at : List ℕ → Turn
double_at [] = ends false
double_at (b ∷ bs) = if b == quote then closes bs else escape_at bs

-- at an apostrophe or the line's end
abbrev pub single_at : List ℕ → Turn
single_at [] = ends false
single_at (b ∷ bs) = if first bs == apostrophe then gives apostrophe (drop 1 bs) else closes bs

abbrev pub turn_at : Bool → List ℕ → Turn
turn_at is_double t = if is_double then double_at t else single_at t

-- fewer than so many bytes are left behind it
abbrev pub LeavesBelow : ℕ → Turn → Type 0
LeavesBelow n (ends joined) = Unit {0}
LeavesBelow n (closes t) = length t < n
LeavesBelow n (gives c t) = length t < n
LeavesBelow n fails = Unit {0}

-- at most so many bytes are left behind a closing quote
abbrev pub LeavesWithin : ℕ → Scan → Type 0
LeavesWithin n (open_end p) = Unit {0}
LeavesWithin n (closed u t) = length t ≤ n
LeavesWithin n wrong = Unit {0}

-- what a line holds, where this piece stands before what comes behind it
abbrev pub after_piece : Bool → List ℕ → Turn → Scan
after_piece is_double p (ends joined) = line_ends (if joined then p else trim_end p) joined
after_piece is_double p (closes t) = closed p t
after_piece is_double p (gives c t) = prepend (p ++ encode_utf8 c) (scan is_double t)
after_piece is_double p fails = wrong
