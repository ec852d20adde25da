-- The methods of texts.
use Rattle.std.specs.Prelude.{ℕ, suc, ◌+◌, ◌-◌, min, nat_lt, ℤ, pos, negsuc, int_lt, Bool, true, false, ◌||◌, List, [], ◌∷◌, length, take, drop, Option, Some, None, option_map, bytes_eq, codes, if◌then◌else◌}
use Rattle.ytt_base.specs.declared.fault.FaultKind.TheVariants as kind
use Rattle.ytt_base.specs.declared.fault.Place.{Place}
use Rattle.code_spec.specs.Code.{Name}
use Rattle.operator_spec.specs.Operators.{begins_with}
use Rattle.value_spec.specs.Binding.{bound_values, none_for_each, parameters_named}
use Rattle.value_spec.specs.Outcomes.{Computation, fail_with, or_fail, reads, ◌>>=◌}
use Rattle.value_spec.specs.Values.{Value, text_value, Arguments}
use Rattle.text_spec.specs.Answers.{Answer, one_text, one_test, one_number, text_list, text_tuple, nowhere, give_answer, paid_answer}
use Rattle.text_spec.specs.Classes.{capitalized, characters, is_all, is_cased, is_digit, is_letter, is_letter_or_digit, is_lower, is_space, is_upper, lowered, uppered}
use Rattle.text_spec.specs.Cutting.{joined_by, lines, pieces, pieces_back, pieces_between, strip_back, strip_front, white_space, without_prefix, without_suffix, words, words_back}
use Rattle.text_spec.specs.Fields.{format}
use Rattle.text_spec.specs.Places.{bounds, ends_with, first_of, first_place, last_of, last_place}
use Rattle.text_spec.specs.Signatures.{Kind, no_kind, text_kind, separator, optional_text, optional_separator, optional_integer, optional_bool, text_or_texts, text_members, Kinds, Operand, of_text, Operands, bool_in, integer_or, read_operands, text_in, texts_in}

-- ---- searches

-- what is sought: how often a text occurs, its first place or its last
pub data Sought : Type 0 where
  how_often : Sought
  first : Sought
  last : Sought

-- a number as a place: counted from the end where it is negative, and no further than the ends
abbrev pub place_of : (count : ℕ) → ℤ → ℕ
place_of n (pos i) = min i n
place_of n (negsuc i) = n - suc i

-- the first place from one to another at which the text occurs, the last, and how many occurrences stand there apart
abbrev pub first_between : (part text : List ℕ) → (from to : ℕ) → Option ℕ
first_between [] t a b = first_of (bounds (b - a) a (drop a t))
first_between (x ∷ xs) t a b = option_map (λ i. a + i) (first_place (x ∷ xs) (drop a (take b t)))

abbrev pub last_between : (part text : List ℕ) → (from to : ℕ) → Option ℕ
last_between [] t a b = last_of (bounds (b - a) a (drop a t))
last_between (x ∷ xs) t a b = option_map (λ i. a + i) (last_place (x ∷ xs) (drop a (take b t)))

abbrev pub count_between : (part text : List ℕ) → (from to : ℕ) → ℕ
count_between [] t a b = length (bounds (b - a) a (drop a t))
count_between (x ∷ xs) t a b = length (pieces (x ∷ xs) (length t) (drop a (take b t))) - 1

-- nothing is found where a search begins behind the text, or behind its own end
abbrev pub begins_behind : (count : ℕ) → (from to : ℤ) → Bool
begins_behind n a b = int_lt (pos n) a || nat_lt (place_of n b) (place_of n a)

-- the answer of a place: -1 or nothing where there is none
abbrev pub place_answer : (must_be : Bool) → Option ℕ → Answer
place_answer must_be (Some i) = one_number (pos i)
place_answer true None = nowhere
place_answer false None = one_number (negsuc 0)

abbrev pub sought_in : Sought → (must_be : Bool) → (part text : List ℕ) → (from to : ℕ) → Answer
sought_in how_often must_be x t a b = one_number (pos (count_between x t a b))
sought_in first must_be x t a b = place_answer must_be (first_between x t a b)
sought_in last must_be x t a b = place_answer must_be (last_between x t a b)

abbrev pub sought_nowhere : Sought → (must_be : Bool) → Answer
sought_nowhere how_often must_be = one_number (pos 0)
sought_nowhere _ must_be = place_answer must_be None

abbrev pub sought_from : Sought → (must_be : Bool) → (part text : List ℕ) → (from to : ℤ) → Answer
sought_from w must_be x t a b =
    if begins_behind (length t) a b then sought_nowhere w must_be else sought_in w must_be x t (place_of (length t) a) (place_of (length t) b)

-- ---- what the rows answer

abbrev pub search_row : Sought → (must_be : Bool) → List ℕ → Operands → Answer
search_row w must_be t os = sought_from w must_be (text_in os.first) t (integer_or (pos 0) os.second) (integer_or (pos (length t)) os.third)

abbrev pub some_of : (List ℕ → Bool) → List (List ℕ) → Bool
some_of f [] = false
some_of f (x ∷ xs) = f x || some_of f xs

abbrev pub edge_row : (List ℕ → List ℕ → Bool) → List ℕ → Operands → Answer
edge_row f t os = one_test (some_of (λ x. f x t) (texts_in os.first))

abbrev pub without_row : (List ℕ → List ℕ → List ℕ) → List ℕ → Operands → Answer
without_row f t os = one_text (f (text_in os.first) t)

-- how many at most: as many as the text can have, where no number is given or a negative one
abbrev pub limit_of : (most : ℕ) → ℤ → ℕ
limit_of n (pos k) = min k n
limit_of n (negsuc k) = n

abbrev pub limit_in : List ℕ → Operand → ℕ
limit_in t o = limit_of (suc (length t)) (integer_or (negsuc 0) o)

abbrev pub replace_row : List ℕ → Operands → Answer
replace_row t os = one_text (joined_by (text_in os.second) (pieces_between (text_in os.first) (limit_in t os.third) t))

abbrev pub join_row : List ℕ → Operands → Answer
join_row t os = one_text (joined_by t (texts_in os.first))

-- the text around a place of another, or the whole of it on one side
abbrev pub parts_at : (part text : List ℕ) → (otherwise : Answer) → Option ℕ → Answer
parts_at x t otherwise None = otherwise
parts_at x t otherwise (Some i) = text_tuple (take i t ∷ x ∷ drop (i + length x) t ∷ [])

abbrev pub partition_row : List ℕ → Operands → Answer
partition_row t os = parts_at (text_in os.first) t (text_tuple (t ∷ [] ∷ [] ∷ [])) (first_place (text_in os.first) t)

abbrev pub partition_back_row : List ℕ → Operands → Answer
partition_back_row t os = parts_at (text_in os.first) t (text_tuple ([] ∷ [] ∷ t ∷ [])) (last_place (text_in os.first) t)

abbrev pub split_by : List (List ℕ) → (List ℕ → List (List ℕ)) → (separator : List ℕ) → List (List ℕ)
split_by words cut [] = words
split_by words cut (b ∷ x) = cut (b ∷ x)

-- into words where no separator is given, which is never empty
abbrev pub split_row : (words : ℕ → List ℕ → List (List ℕ)) → (cut : List ℕ → ℕ → List ℕ → List (List ℕ)) → List ℕ → Operands → Answer
split_row words cut t os = text_list (split_by (words (limit_in t os.second) t) (λ x. cut x (limit_in t os.second) t) (text_in os.first))

abbrev pub lines_row : List ℕ → Operands → Answer
lines_row t os = text_list (lines (bool_in os.first) (length t) t)

-- the characters that are stripped: those of a text, or white space
abbrev pub set_of : Operand → List (List ℕ)
set_of (of_text x) = characters x
set_of _ = white_space

abbrev pub strip_row : (List (List ℕ) → List ℕ → List ℕ) → List ℕ → Operands → Answer
strip_row f t os = one_text (f (set_of os.first) t)

abbrev pub stripped_front : List (List ℕ) → List ℕ → List ℕ
stripped_front cs t = strip_front (length t) cs t

abbrev pub stripped_back : List (List ℕ) → List ℕ → List ℕ
stripped_back cs t = strip_back (length t) cs t

abbrev pub stripped : List (List ℕ) → List ℕ → List ℕ
stripped cs t = stripped_back cs (stripped_front cs t)

-- ---- the table

-- what a method takes, as what, and what it answers
pub record Method : Type 0 where
  pub needed : List Name
  pub optional : List Name
  pub kinds : Kinds
  pub answer : List ℕ → Operands → Answer

abbrev pub kinds_of : (first second third : Kind) → Kinds
kinds_of a b c = record { first = a; second = b; third = c }

abbrev pub method_with : (needed optional : List Name) → Kinds → (List ℕ → Operands → Answer) → Method
method_with xs ys ks f = record { needed = xs; optional = ys; kinds = ks; answer = f }

abbrev pub searching : Sought → (must_be : Bool) → Method
searching w must_be = method_with (codes "sub" ∷ []) (codes "start" ∷ codes "end" ∷ []) (kinds_of text_kind optional_integer optional_integer) (search_row w must_be)

abbrev pub of_one : Kind → (List ℕ → Operands → Answer) → Method
of_one k f = method_with (codes "x" ∷ []) [] (kinds_of k no_kind no_kind) f

abbrev pub replacing : Method
replacing = method_with (codes "a" ∷ codes "b" ∷ []) (codes "n" ∷ []) (kinds_of text_kind text_kind optional_integer) replace_row

abbrev pub partitioning : (List ℕ → Operands → Answer) → Method
partitioning f = method_with (codes "sep" ∷ []) [] (kinds_of separator no_kind no_kind) f

abbrev pub splitting : (ℕ → List ℕ → List (List ℕ)) → (List ℕ → ℕ → List ℕ → List (List ℕ)) → Method
splitting words cut = method_with [] (codes "sep" ∷ codes "n" ∷ []) (kinds_of optional_separator optional_integer no_kind) (split_row words cut)

abbrev pub by_lines : Method
by_lines = method_with [] (codes "keep" ∷ []) (kinds_of optional_bool no_kind no_kind) lines_row

abbrev pub stripping : (List (List ℕ) → List ℕ → List ℕ) → Method
stripping f = method_with [] (codes "chars" ∷ []) (kinds_of optional_text no_kind no_kind) (strip_row f)

abbrev pub without_arguments : (List ℕ → Answer) → Method
without_arguments f = method_with [] [] (kinds_of no_kind no_kind no_kind) (λ t os. f t)

abbrev pub changing : (List ℕ → List ℕ) → Method
changing f = without_arguments (λ t. one_text (f t))

abbrev pub testing : (List ℕ → Bool) → Method
testing f = without_arguments (λ t. one_test (f t))

abbrev pub text_methods : List (Name × Method)
text_methods =
    (codes "count", searching how_often false) ∷ (codes "find", searching first false) ∷ (codes "rfind", searching last false)
    ∷ (codes "index", searching first true) ∷ (codes "rindex", searching last true)
    ∷ (codes "startswith", of_one text_or_texts (edge_row begins_with)) ∷ (codes "endswith", of_one text_or_texts (edge_row ends_with))
    ∷ (codes "removeprefix", of_one text_kind (without_row without_prefix)) ∷ (codes "removesuffix", of_one text_kind (without_row without_suffix))
    ∷ (codes "replace", replacing)
    ∷ (codes "join", of_one text_members join_row)
    ∷ (codes "partition", partitioning partition_row) ∷ (codes "rpartition", partitioning partition_back_row)
    ∷ (codes "split", splitting words pieces) ∷ (codes "rsplit", splitting words_back pieces_back)
    ∷ (codes "splitlines", by_lines)
    ∷ (codes "strip", stripping stripped) ∷ (codes "lstrip", stripping stripped_front) ∷ (codes "rstrip", stripping stripped_back)
    ∷ (codes "lower", changing lowered) ∷ (codes "upper", changing uppered) ∷ (codes "capitalize", changing capitalized)
    ∷ (codes "isalnum", testing (is_all is_letter_or_digit)) ∷ (codes "isalpha", testing (is_all is_letter))
    ∷ (codes "isdigit", testing (is_all is_digit)) ∷ (codes "isspace", testing (is_all is_space))
    ∷ (codes "islower", testing (is_cased is_lower is_upper)) ∷ (codes "isupper", testing (is_cased is_upper is_lower))
    ∷ []

abbrev pub method_in : Name → List (Name × Method) → Option Method
method_in x [] = None
method_in x (m ∷ ms) = if bytes_eq x m.0 then Some m.1 else method_in x ms

-- ---- a call

-- each argument is read, and the answer stands behind its cost
abbrev pub method_answer : {H : Type 0} → Place → Method → List ℕ → List Value → Computation H Answer
method_answer p m t vs = reads (λ store. read_operands store m.kinds vs) >>= or_fail kind.ValueKind p >>= λ os. paid_answer p (text_value t ∷ vs) (m.answer t os)

-- the arguments are bound before
abbrev pub method_row : {H : Type 0} → Place → Method → List ℕ → Arguments → Computation H Value
method_row p m t args = do
  vs ← bound_values p (parameters_named m.needed m.optional) (none_for_each m.optional) args
  a ← method_answer p m t vs
  give_answer p a

abbrev pub row_of : {H : Type 0} → Place → Name → Option Method → List ℕ → Arguments → Computation H Value
row_of p x None t args = fail_with kind.KeyMissing p x
row_of p x (Some m) t args = method_row p m t args

-- a method of a text
abbrev pub text_method : {H : Type 0} → Place → Name → List ℕ → Arguments → Computation H Value
text_method p x t args = if bytes_eq x (codes "format") then format p t args else row_of p x (method_in x text_methods) t args
