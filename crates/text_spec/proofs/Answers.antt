-- What each method answers is in UTF-8 where the text and its arguments are.
use Rattle.std.proofs.Common.{◌≡◌, ℕ, ◌+◌, ◌<◌, ℤ, pos, Bool, true, false, if◌then◌else◌, List, [], ◌∷◌, ◌++◌, length, take, drop, Option, Some, None, IsUtf8, refl, arith, rules}
use Rattle.std.proofs.lemmas.Str.{IsUtf8-nil}
use lib.Utf8.{encode, scalar}
use Rattle.code_spec.specs.Code.{Name}
use Rattle.text_spec.specs.Answers.{Answer, one_text, text_list, text_tuple}
use Rattle.text_spec.specs.Cutting.{pieces, pieces_back, white_space, words, words_back}
use Rattle.text_spec.specs.Methods.{Method, Sought, begins_behind, first_between, last_between, place_of, limit_in, parts_at, place_answer, set_of, sought_from, sought_in, sought_nowhere, split_by, stripped, stripped_back, stripped_front, partitioning, searching, splitting, stripping, text_methods}
use Rattle.text_spec.specs.Methods.{how_often, first, last}
use Rattle.text_spec.specs.Places.{first_place, last_place}
use Rattle.text_spec.specs.Signatures.{Kind, Kinds, separator, optional_separator, integer_or, Operand, absent, of_text, of_integer, of_bool, of_texts, Operands, bool_in, text_in, texts_in}
use Rattle.text_spec.proofs.Characters.{capitalized_utf8, characters_whole, lowered_utf8, pieces_between_utf8, uppered_utf8}
use Rattle.text_spec.proofs.Cuts.{around_utf8, first_is, last_is}
use Rattle.text_spec.proofs.Utf8.{AreUtf8, joined_by_utf8, lines_utf8, pieces_back_utf8, pieces_utf8, strip_back_utf8, strip_front_utf8, without_prefix_utf8, without_suffix_utf8, words_back_utf8, words_utf8}

abbrev pub OperandUtf8 : Operand → Type 0
OperandUtf8 (of_text t) = IsUtf8 t
OperandUtf8 (of_texts ts) = AreUtf8 ts
OperandUtf8 _ = Unit {0}

pub record OperandsUtf8 (os : Operands) : Type 0 where
  pub first : OperandUtf8 os.first
  pub second : OperandUtf8 os.second
  pub third : OperandUtf8 os.third

abbrev pub AnswerUtf8 : Answer → Type 0
AnswerUtf8 (one_text t) = IsUtf8 t
AnswerUtf8 (text_list ts) = AreUtf8 ts
AnswerUtf8 (text_tuple ts) = AreUtf8 ts
AnswerUtf8 _ = Unit {0}

-- ---- operands

text_utf8 : (o : Operand) → OperandUtf8 o → IsUtf8 (text_in o)
text_utf8 absent h = IsUtf8-nil
text_utf8 (of_text t) h = h
text_utf8 (of_integer z) h = IsUtf8-nil
text_utf8 (of_bool b) h = IsUtf8-nil
text_utf8 (of_texts ts) h = IsUtf8-nil

texts_utf8 : (o : Operand) → OperandUtf8 o → AreUtf8 (texts_in o)
texts_utf8 absent h = tt
texts_utf8 (of_text t) h = tt
texts_utf8 (of_integer z) h = tt
texts_utf8 (of_bool b) h = tt
texts_utf8 (of_texts ts) h = h

white_utf8 : AreUtf8 white_space
unfolding encode scalar
white_utf8 =
    let one = λ (b : ℕ). b ∷ [] in
    ((one 32, (refl, refl)), ((one 9, (refl, refl)), ((one 10, (refl, refl)), ((one 11, (refl, refl)), ((one 12, (refl, refl)), ((one 13, (refl, refl)), tt))))))

set_utf8 : (o : Operand) → OperandUtf8 o → AreUtf8 (set_of o)
set_utf8 absent h = white_utf8
set_utf8 (of_text t) h = (characters_whole t h).utf8
set_utf8 (of_integer z) h = white_utf8
set_utf8 (of_bool b) h = white_utf8
set_utf8 (of_texts ts) h = white_utf8

-- ---- rows

place_utf8 : (must_be : Bool) (o : Option ℕ) → AnswerUtf8 (place_answer must_be o)
place_utf8 true None = tt
place_utf8 false None = tt
place_utf8 true (Some i) = tt
place_utf8 false (Some i) = tt

search_utf8 : (w : Sought) (must_be : Bool) (x t : List ℕ) (a b : ℤ) → AnswerUtf8 (sought_from w must_be x t a b)
search_utf8 w must_be x t a b = by (begins_behind (length t) a b) where
  nowhere_utf8 : (w : Sought) → AnswerUtf8 (sought_nowhere w must_be)
  nowhere_utf8 how_often = tt
  nowhere_utf8 first = place_utf8 must_be None
  nowhere_utf8 last = place_utf8 must_be None

  in_utf8 : (w : Sought) (i j : ℕ) → AnswerUtf8 (sought_in w must_be x t i j)
  in_utf8 how_often i j = tt
  in_utf8 first i j = place_utf8 must_be (first_between x t i j)
  in_utf8 last i j = place_utf8 must_be (last_between x t i j)

  by : (h : Bool) → AnswerUtf8 (if h then sought_nowhere w must_be else sought_in w must_be x t (place_of (length t) a) (place_of (length t) b))
  by true = nowhere_utf8 w
  by false = in_utf8 w (place_of (length t) a) (place_of (length t) b)

-- the separator isn't empty
parts_utf8 : (x t : List ℕ) (otherwise : Answer) (o : Option ℕ) → IsUtf8 x → AnswerUtf8 otherwise → ((i : ℕ) → o ≡ Some i → IsUtf8 (take i t) × IsUtf8 (drop (i + length x) t)) → AnswerUtf8 (parts_at x t otherwise o)
parts_utf8 x t otherwise None u h k = h
parts_utf8 x t otherwise (Some i) u h k = let sides = k i refl in (sides.0, (u, (sides.1, tt)))

split_utf8 : (ws : List (List ℕ)) (cut : List ℕ → List (List ℕ)) (x : List ℕ) → IsUtf8 x → AreUtf8 ws → ((y : List ℕ) → IsUtf8 y → 0 < length y → AreUtf8 (cut y)) → AreUtf8 (split_by ws cut x)
split_utf8 ws cut [] u h k = h
split_utf8 ws cut (b ∷ x) u h k = k (b ∷ x) u (search (rules, arith))

-- ---- the table

-- what is read as a separator isn't empty
abbrev pub Fits : Kind → Operand → Type 0
Fits separator o = 0 < length (text_in o)
Fits optional_separator o = Unit {0}
Fits _ o = Unit {0}

pub record OperandsFit (ks : Kinds) (os : Operands) : Type 0 where
  pub first : Fits ks.first os.first
  pub utf8 : OperandsUtf8 os

-- a method answers so
abbrev pub AnswersUtf8 : Method → Type 0
AnswersUtf8 m = (t : List ℕ) (os : Operands) → IsUtf8 t → OperandsFit m.kinds os → AnswerUtf8 (m.answer t os)

abbrev pub AllAnswerUtf8 : List (Name × Method) → Type 0
AllAnswerUtf8 [] = Unit {0}
AllAnswerUtf8 (m ∷ ms) = AnswersUtf8 m.1 × AllAnswerUtf8 ms

sought : (w : Sought) (must_be : Bool) → AnswersUtf8 (searching w must_be)
sought w must_be t os u h = search_utf8 w must_be (text_in os.first) t (integer_or (pos 0) os.second) (integer_or (pos (length t)) os.third)

words_or_pieces : (ws : ℕ → List ℕ → List (List ℕ)) (cut : List ℕ → ℕ → List ℕ → List (List ℕ)) → ((n : ℕ) (t : List ℕ) → IsUtf8 t → AreUtf8 (ws n t)) → ((x : List ℕ) → IsUtf8 x → 0 < length x → (n : ℕ) (t : List ℕ) → IsUtf8 t → AreUtf8 (cut x n t)) → AnswersUtf8 (splitting ws cut)
words_or_pieces ws cut k l t os u h =
    let n = limit_in t os.second in
    split_utf8 (ws n t) (λ x. cut x n t) (text_in os.first) (text_utf8 os.first h.utf8.first) (k n t u) (λ y v i. l y v i n t u)

stripped_utf8 : (f : List (List ℕ) → List ℕ → List ℕ) → ((cs : List (List ℕ)) (t : List ℕ) → AreUtf8 cs → IsUtf8 t → IsUtf8 (f cs t)) → AnswersUtf8 (stripping f)
stripped_utf8 f k t os u h = k (set_of os.first) t (set_utf8 os.first h.utf8.first) u

parted : (place : List ℕ → List ℕ → Option ℕ) (otherwise : List ℕ → Answer) → ((x t : List ℕ) (i : ℕ) → place x t ≡ Some i → t ≡ take i t ++ (x ++ drop (length x) (drop i t))) → ((t : List ℕ) → IsUtf8 t → AnswerUtf8 (otherwise t)) →
    AnswersUtf8 (partitioning (λ t os. parts_at (text_in os.first) t (otherwise t) (place (text_in os.first) t)))
parted place otherwise is k t os u h =
    let x = text_in os.first in
    let v = text_utf8 os.first h.utf8.first in
    parts_utf8 x t (otherwise t) (place x t) v (k t u) (λ i e. around_utf8 x t i v h.first u (is x t i e))

pub methods_utf8 : AllAnswerUtf8 text_methods
methods_utf8 = (
  sought how_often false,
  (
    sought first false,
    (
      sought last false,
      (
        sought first true,
        (
          sought last true,
          (
            λ t os u h. tt,
            (
              λ t os u h. tt,
              (
                λ t os u h. without_prefix_utf8 (text_in os.first) t (text_utf8 os.first h.utf8.first) u,
                (
                  λ t os u h. without_suffix_utf8 (text_in os.first) t (text_utf8 os.first h.utf8.first) u,
                  (
                    λ t os u h. joined_by_utf8 (text_in os.second) _ (text_utf8 os.second h.utf8.second) (pieces_between_utf8 (text_in os.first) (limit_in t os.third) t (text_utf8 os.first h.utf8.first) u),
                    (
                      λ t os u h. joined_by_utf8 t (texts_in os.first) u (texts_utf8 os.first h.utf8.first),
                      (
                        parted first_place (λ t. text_tuple (t ∷ [] ∷ [] ∷ [])) first_is (λ t u. (u, (IsUtf8-nil, (IsUtf8-nil, tt)))),
                        (
                          parted last_place (λ t. text_tuple ([] ∷ [] ∷ t ∷ [])) last_is (λ t u. (IsUtf8-nil, (IsUtf8-nil, (u, tt)))),
                          (
                            words_or_pieces words pieces words_utf8 pieces_utf8,
                            (
                              words_or_pieces words_back pieces_back words_back_utf8 pieces_back_utf8,
                              (
                                λ t os u h. lines_utf8 (bool_in os.first) (length t) t u,
                                (
                                  stripped_utf8 stripped (λ cs t u w. strip_back_utf8 _ cs _ u (strip_front_utf8 (length t) cs t u w)),
                                  (
                                    stripped_utf8 stripped_front (λ cs t u w. strip_front_utf8 (length t) cs t u w),
                                    (
                                      stripped_utf8 stripped_back (λ cs t u w. strip_back_utf8 (length t) cs t u w),
                                      (
                                        λ t os u h. lowered_utf8 t u,
                                        (
                                          λ t os u h. uppered_utf8 t u,
                                          (
                                            λ t os u h. capitalized_utf8 t u,
                                            (λ t os u h. tt, (λ t os u h. tt, (λ t os u h. tt, (λ t os u h. tt, (λ t os u h. tt, (λ t os u h. tt, tt)))))),
                                          ),
                                        ),
                                      ),
                                    ),
                                  ),
                                ),
                              ),
                            ),
                          ),
                        ),
                      ),
                    ),
                  ),
                ),
              ),
            ),
          ),
        ),
      ),
    ),
  ),
)
