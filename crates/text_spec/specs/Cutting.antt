-- What a text is cut into: at another text, at the bounds of its characters, into words, into lines; what is cut off its ends.
use Rattle.std.specs.Prelude.{ℕ, zero, suc, ◌+◌, ◌-◌, ◌==◌, Bool, not, ◌&&◌, ◌||◌, List, [], ◌∷◌, ◌++◌, length, take, drop, reverse, Option, Some, None, if◌then◌else◌}
use Rattle.operator_spec.specs.Operators.{begins_with}
use Rattle.text_spec.specs.Classes.{behind, characters, front, is_space}
use Rattle.text_spec.specs.Places.{ends_with, first_place, last_place}

-- ---- at a text that isn't empty

-- what stands before a place, and what the rest is cut into
abbrev pub cut_once : (separator text : List ℕ) → Option ℕ → (List ℕ → List (List ℕ)) → List (List ℕ)
cut_once x t None rest = t ∷ []
cut_once x t (Some i) rest = take i t ∷ rest (drop (i + length x) t)

-- what stands between the first places of a text, so many at most
abbrev pub pieces : (separator : List ℕ) → (cuts : ℕ) → List ℕ → List (List ℕ)
pieces x zero t = t ∷ []
pieces x (suc n) t = cut_once x t (first_place x t) (pieces x n)

-- what the text before a place is cut into, and then what stands behind it
abbrev pub cut_once_back : (separator text : List ℕ) → Option ℕ → (List ℕ → List (List ℕ)) → List (List ℕ)
cut_once_back x t None rest = t ∷ []
cut_once_back x t (Some i) rest = rest (take i t) ++ (drop (i + length x) t ∷ [])

-- what stands between the last places, so many at most
abbrev pub pieces_back : (separator : List ℕ) → (cuts : ℕ) → List ℕ → List (List ℕ)
pieces_back x zero t = t ∷ []
pieces_back x (suc n) t = cut_once_back x t (last_place x t) (pieces_back x n)

-- ---- at the bounds of characters

abbrev pub joined : List (List ℕ) → List ℕ
joined [] = []
joined (c ∷ cs) = c ++ joined cs

-- behind each of the first so many characters
abbrev pub cut_behind : (cuts : ℕ) → (characters : List (List ℕ)) → List (List ℕ)
cut_behind zero cs = joined cs ∷ []
cut_behind (suc n) [] = [] ∷ []
cut_behind (suc n) (c ∷ cs) = c ∷ cut_behind n cs

-- before the first character too
abbrev pub cut_at_bounds : (cuts : ℕ) → (characters : List (List ℕ)) → List (List ℕ)
cut_at_bounds zero cs = joined cs ∷ []
cut_at_bounds (suc n) cs = [] ∷ cut_behind n cs

-- the pieces between the first so many places of a text, which may be empty
abbrev pub pieces_between : (separator : List ℕ) → (cuts : ℕ) → List ℕ → List (List ℕ)
pieces_between [] n t = cut_at_bounds n (characters t)
pieces_between (x ∷ xs) n t = pieces (x ∷ xs) n t

abbrev pub more_joined : (between : List ℕ) → List (List ℕ) → List ℕ
more_joined x [] = []
more_joined x (t ∷ ts) = x ++ (t ++ more_joined x ts)

-- texts in one, with this one between them
abbrev pub joined_by : (between : List ℕ) → List (List ℕ) → List ℕ
joined_by x [] = []
joined_by x (t ∷ ts) = t ++ more_joined x ts

-- ---- words, which stand between runs of white space

abbrev pub is_word : ℕ → Bool
is_word b = not (is_space b)

-- a text that isn't empty
abbrev pub unless_empty : List ℕ → List (List ℕ)
unless_empty [] = []
unless_empty (b ∷ t) = (b ∷ t) ∷ []

-- so many words at most, and then what is left from the next word on, of a text that begins with none of its white space
abbrev pub words_at : (count : ℕ) → List ℕ → List (List ℕ)
words_at n [] = []
words_at zero (b ∷ t) = (b ∷ t) ∷ []
words_at (suc n) (b ∷ t) = front is_word (b ∷ t) ∷ words_at n (behind is_space (behind is_word (b ∷ t)))

abbrev pub words : (count : ℕ) → List ℕ → List (List ℕ)
words n t = words_at n (behind is_space t)

abbrev pub each_reversed : List (List ℕ) → List (List ℕ)
each_reversed [] = []
each_reversed (t ∷ ts) = reverse t ∷ each_reversed ts

-- the same from the end
abbrev pub words_back : (count : ℕ) → List ℕ → List (List ℕ)
words_back n t = reverse (each_reversed (words n (reverse t)))

-- ---- lines, which end with LF, CR or CRLF

abbrev pub is_line_byte : ℕ → Bool
is_line_byte b = not (b == 10 || b == 13)

-- how many bytes end a line, of what stands behind it
abbrev pub end_length : List ℕ → ℕ
end_length [] = 0
end_length (b ∷ []) = 1
end_length (b ∷ c ∷ t) = if b == 13 && c == 10 then 2 else 1

-- a line, with its end where that is kept
abbrev pub line_with : (keep : Bool) → (line rest : List ℕ) → List ℕ
line_with keep line rest = if keep then line ++ take (end_length rest) rest else line

-- the first so many lines; behind the last end there is no further one
abbrev pub lines : (keep : Bool) → (count : ℕ) → List ℕ → List (List ℕ)
lines keep n [] = []
lines keep zero (b ∷ t) = []
lines keep (suc n) (b ∷ t) =
    line_with keep (front is_line_byte (b ∷ t)) (behind is_line_byte (b ∷ t))
    ∷ lines keep n (drop (end_length (behind is_line_byte (b ∷ t))) (behind is_line_byte (b ∷ t)))

-- ---- what is cut off the ends

-- how long the first character of the set is that the text begins with
abbrev pub first_in : (set : List (List ℕ)) → List ℕ → Option ℕ
first_in [] t = None
first_in (c ∷ cs) t = if begins_with c t then Some (length c) else first_in cs t

-- the same where the text ends
abbrev pub last_in : (set : List (List ℕ)) → List ℕ → Option ℕ
last_in [] t = None
last_in (c ∷ cs) t = if ends_with c t then Some (length c) else last_in cs t

-- without so many bytes, and then as the rest says
abbrev pub cut_front : List ℕ → Option ℕ → (List ℕ → List ℕ) → List ℕ
cut_front t None rest = t
cut_front t (Some k) rest = rest (drop k t)

abbrev pub cut_back : List ℕ → Option ℕ → (List ℕ → List ℕ) → List ℕ
cut_back t None rest = t
cut_back t (Some k) rest = rest (take (length t - k) t)

-- so many characters at most, as long as they are of the set
abbrev pub strip_front : (count : ℕ) → (set : List (List ℕ)) → List ℕ → List ℕ
strip_front zero cs t = t
strip_front (suc n) cs t = cut_front t (first_in cs t) (strip_front n cs)

abbrev pub strip_back : (count : ℕ) → (set : List (List ℕ)) → List ℕ → List ℕ
strip_back zero cs t = t
strip_back (suc n) cs t = cut_back t (last_in cs t) (strip_back n cs)

-- white space, as characters
abbrev pub white_space : List (List ℕ)
white_space = (32 ∷ []) ∷ (9 ∷ []) ∷ (10 ∷ []) ∷ (11 ∷ []) ∷ (12 ∷ []) ∷ (13 ∷ []) ∷ []

-- the text without a text that it begins with, or ends with
abbrev pub without_prefix : (part text : List ℕ) → List ℕ
without_prefix x t = if begins_with x t then drop (length x) t else t

abbrev pub without_suffix : (part text : List ℕ) → List ℕ
without_suffix x t = if ends_with x t then take (length t - length x) t else t
