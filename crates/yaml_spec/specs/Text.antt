-- The text of documents, in one layout, with the first style that fits each string (YAML 1.2.2, 7.3, 8.1.2 and 8.2).
use Rattle.std.specs.Prelude.{ℕ, zero, suc, ◌+◌, ◌/◌, ◌%◌, Bool, true, false, not, ◌&&◌, ◌||◌, ◌==◌, nat_lt, if◌then◌else◌, List, [], ◌∷◌, ◌++◌, length, take, replicate, codes, bytes_eq, chars, encode_utf8}
use Rattle.std.specs.List.{list_all}
use Rattle.std.specs.Fmt.{signed_decimal}
use Rattle.yaml_spec.specs.Bytes.{tab, line_feed, carriage_return, space, quote, hash, apostrophe, percent, comma, dash, colon, greater, question, at_sign, left_bracket, right_bracket, left_brace, right_brace, backslash, bar, is_one_of, is_white, is_between, first, is_empty}
use Rattle.yaml_spec.specs.Lines.{is_printable, start_line}
use Rattle.ytt_base.specs.Trees.{Scalar, null, boolean, integer, string, Tree, scalar, list, map, Trees, no_trees, tree, Pairs, no_pairs, pair}
use Rattle.yaml_spec.specs.Scalars.{form, is_string_form}

-- so many spaces
abbrev pub spaces : ℕ → List ℕ
spaces n = replicate n space

-- the break at the end of a line
abbrev pub line_end : List ℕ
line_end = line_feed ∷ []

-- ---- the styles of a string

-- characters that are written by an escape: 85, A0, 2028, 2029, FEFF
abbrev pub is_hidden : ℕ → Bool
is_hidden c = is_one_of (0x85 ∷ 0xA0 ∷ 0x2028 ∷ 0x2029 ∷ 0xFEFF ∷ []) c

-- a character that is written as itself
abbrev pub is_shown : ℕ → Bool
is_shown c = is_printable c && not (is_hidden c)

-- characters that begin no plain string
abbrev pub start_marks : List ℕ
start_marks =
    space ∷ dash ∷ question ∷ colon ∷ comma ∷ left_bracket ∷ right_bracket ∷ left_brace ∷ right_brace ∷ hash ∷ 38 ∷ 42 ∷ 33 ∷ bar
    ∷ greater ∷ apostrophe ∷ quote ∷ percent ∷ at_sign ∷ 60 ∷ 61 ∷ 96 ∷ []

-- the two bytes stand somewhere side by side
abbrev pub has_pair : ℕ → ℕ → List ℕ → Bool
has_pair a b [] = false
has_pair a b (x ∷ []) = false
has_pair a b (x ∷ y ∷ t) = (x == a && y == b) || has_pair a b (y ∷ t)

-- the last byte; 0 where there is none
abbrev pub last : List ℕ → ℕ
last [] = 0
last (x ∷ []) = x
last (x ∷ y ∷ t) = last (y ∷ t)

-- the string reads back as itself without quotes
unfoldable pub fits_plain : List ℕ → Bool
fits_plain s =
    is_string_form (form s) && list_all is_shown (chars s) && not (is_one_of start_marks (first s))
    && not (bytes_eq (take 3 s) (codes "...")) && not (is_one_of (space ∷ colon ∷ []) (last s))
    && not (has_pair colon space s) && not (has_pair space hash s)

-- the lines of a string, also the empty one behind a break at its end
abbrev pub pieces : List ℕ → List (List ℕ)
pieces [] = [] ∷ []
pieces (b ∷ bs) = elim (b == line_feed) [ true ↦ [] ∷ pieces bs | false ↦ start_line b (pieces bs) ]

-- no line begins or ends with white space
abbrev pub are_trimmed : List (List ℕ) → Bool
are_trimmed [] = true
are_trimmed (l ∷ ls) = not (is_white (first l)) && not (is_white (last l)) && are_trimmed ls

-- a line break occurs
abbrev pub has_break : List ℕ → Bool
has_break s = is_one_of s line_feed

-- a character that a literal may hold
abbrev pub is_literal_char : ℕ → Bool
is_literal_char c = c == line_feed || c == tab || is_shown c

-- the string reads back as itself in literal style
unfoldable pub fits_literal : List ℕ → Bool
fits_literal s =
    has_break s && not (first s == line_feed) && list_all is_literal_char (chars s) && are_trimmed (pieces s)

-- the number of breaks at the end
abbrev pub final_breaks : List (List ℕ) → ℕ
final_breaks [] = 0
final_breaks (l ∷ ls) = if is_empty l && final_breaks ls + 1 == length (l ∷ ls) then suc (final_breaks ls) else final_breaks ls

-- `|-` without a final break, `|` with one, `|+` with more
abbrev pub literal_header : ℕ → List ℕ
literal_header zero = codes "|-"
literal_header (suc zero) = codes "|"
literal_header (suc (suc n)) = codes "|+"

-- a line of the scalar under an indent, with its break
abbrev pub literal_line : ℕ → List ℕ → List ℕ
literal_line n l = (if is_empty l then [] else spaces n ++ l) ++ line_end

-- the lines of the scalar; an empty last one has no break
abbrev pub literal_lines : ℕ → List (List ℕ) → List ℕ
literal_lines n [] = []
literal_lines n (l ∷ []) = if is_empty l then [] else literal_line n l
literal_lines n (l ∷ m ∷ ls) = literal_line n l ++ literal_lines n (m ∷ ls)

-- the literal style at this indent, with the break at its end
abbrev pub literal_text : ℕ → List ℕ → List ℕ
literal_text n s = literal_header (final_breaks (pieces s)) ++ (line_end ++ literal_lines n (pieces s))

-- a digit of base 16, in capitals
abbrev pub hex_digit : ℕ → ℕ
hex_digit n = if nat_lt n 10 then 48 + n else 55 + n

-- two such digits
abbrev pub hex2 : ℕ → List ℕ
hex2 c = hex_digit ((c / 16) % 16) ∷ hex_digit (c % 16) ∷ []

-- a character in double quotes
abbrev pub quoted_char : ℕ → List ℕ
quoted_char c =
    if c == quote then codes "\\\"" else if c == backslash then codes "\\\\"
    else if c == line_feed then codes "\\n" else if c == tab then codes "\\t" else if c == carriage_return then codes "\\r"
    else if nat_lt c 0x20 || is_between 0x7F 0xA0 c then codes "\\x" ++ hex2 c
    else if is_one_of (0x2028 ∷ 0x2029 ∷ 0xFEFF ∷ 0xFFFE ∷ 0xFFFF ∷ []) c then codes "\\u" ++ (hex2 (c / 256) ++ hex2 c)
    else encode_utf8 c

-- characters in double quotes
abbrev pub quoted_chars : List ℕ → List ℕ
quoted_chars [] = []
quoted_chars (c ∷ cs) = quoted_char c ++ quoted_chars cs

-- in double quotes, on one line (7.3.1)
abbrev pub quoted_text : List ℕ → List ℕ
quoted_text s = quote ∷ (quoted_chars (chars s) ++ quote ∷ [])

-- ---- keys and values

-- a string on one line
abbrev pub string_text : List ℕ → List ℕ
string_text s = if fits_plain s then s else quoted_text s

-- a key, and a scalar that is no literal
abbrev pub key_text : Scalar → List ℕ
key_text null = codes "null"
key_text (boolean b) = if b then codes "true" else codes "false"
key_text (integer z) = signed_decimal z
key_text (string s) = string_text s

-- a value, with the break at its end; the lines of a literal stand at this indent
abbrev pub scalar_text : ℕ → Scalar → List ℕ
scalar_text n (string s) = if not (fits_plain s) && fits_literal s then literal_text n s else string_text s ++ line_end
scalar_text n s = key_text s ++ line_end

-- ---- collections

-- `indent` is that of the collection, and `lead` what stands before its first item
abbrev mutual
  -- behind `key:` at this indent
  pub pair_text : ℕ → Tree → List ℕ
  pair_text n (scalar s) = space ∷ scalar_text (n + 2) s
  pair_text n (list no_trees) = codes " []\n"
  pair_text n (list (tree t ts)) = line_feed ∷ list_text (spaces n) n (tree t ts)
  pair_text n (map no_pairs) = codes " {}\n"
  pair_text n (map (pair k t ps)) = line_feed ∷ map_text (spaces (n + 2)) (n + 2) (pair k t ps)

  -- behind `- ` at this indent, or in a document (where the indent is two less)
  pub node_text : ℕ → Tree → List ℕ
  node_text n (scalar s) = scalar_text n s
  node_text n (list no_trees) = codes "[]\n"
  node_text n (list (tree t ts)) = list_text [] n (tree t ts)
  node_text n (map no_pairs) = codes "{}\n"
  node_text n (map (pair k t ps)) = map_text [] n (pair k t ps)

  pub list_text : List ℕ → ℕ → Trees → List ℕ
  list_text lead n no_trees = []
  list_text lead n (tree t ts) = lead ++ (codes "- " ++ (node_text (n + 2) t ++ list_text (spaces n) n ts))

  pub map_text : List ℕ → ℕ → Pairs → List ℕ
  map_text lead n no_pairs = []
  map_text lead n (pair k t ps) = lead ++ (key_text k ++ (colon ∷ (pair_text n t ++ map_text (spaces n) n ps)))

-- a document; a literal stands at indent 2
abbrev pub document_text : Tree → List ℕ
document_text (scalar s) = scalar_text 2 s
document_text t = node_text 0 t

-- the documents, with a line `---` between two
abbrev pub Text : Trees → List ℕ
Text no_trees = []
Text (tree t no_trees) = document_text t
Text (tree t (tree u ts)) = document_text t ++ (codes "---\n" ++ Text (tree u ts))
