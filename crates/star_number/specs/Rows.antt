-- The numbers of lambdas in what stands in lists.
use Rattle.std.specs.Prelude.{◌≡◌, ℕ, List, [], ◌∷◌, ◌++◌, Result, IfOk}
use Rattle.code_spec.specs.Numbering.{Pass, Passed, keep, over_one, over_two, number_expr}
use Rattle.star_tree.specs.Whole.{Clause, for_part, if_part, Entry, Parameter, named_part, default_part, bare_part, star_part, stars_part, Piece, written_part, expr_part}

-- the result, where there is one, is seen as what the pass gives from a number on, with the number behind it
abbrev pub Numbers : {T A E : Type 0} → (T → A) → Pass A → Result T E → (before after : ℕ) → Type 0
Numbers view pass result before after = IfOk result (λ x. record { result = view x; next = after } ≡ pass before)

-- a pass over each, in their order
abbrev pub in_row : {A : Type 0} → (A → Pass A) → List A → Pass (List A)
in_row f [] = keep []
in_row f (x ∷ xs) = over_two (λ y ys. y ∷ ys) (f x) (in_row f xs)

-- what a pass gives, behind others
abbrev pub behind : {A : Type 0} → List A → Passed (List A) → Passed (List A)
behind xs p = record { result = xs ++ p.result; next = p.next }

abbrev pub number_clause : Clause → Pass Clause
number_clause (for_part t m) = over_two for_part (number_expr t) (number_expr m)
number_clause (if_part e) = over_one if_part (number_expr e)

abbrev pub number_entry : Entry → Pass Entry
number_entry e = over_two (λ k v. record { key = k; value = v }) (number_expr e.key) (number_expr e.value)

abbrev pub number_piece : Piece → Pass Piece
number_piece (written_part t) = keep (written_part t)
number_piece (expr_part e) = over_one expr_part (number_expr e)

abbrev pub number_parameter : Parameter → Pass Parameter
number_parameter (named_part x) = keep (named_part x)
number_parameter (default_part x e) = over_one (default_part x) (number_expr e)
number_parameter bare_part = keep bare_part
number_parameter (star_part x) = keep (star_part x)
number_parameter (stars_part x) = keep (stars_part x)
