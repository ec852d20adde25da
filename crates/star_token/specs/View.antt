-- What spans of the program stand for, and keywords in a row.
use Rattle.std.specs.Prelude.{ℕ, List, [], ◌∷◌, Option, Some, None, bytes_eq, map as each, if◌then◌else◌}
use Rattle.std.specs.Borrow.{Bor}
use Rattle.star_grammar.specs.Pieces as plain
use Rattle.star_grammar.specs.declared.token.Mark.{Mark}
use Rattle.star_token.specs.declared.texts.Span.{Span}

abbrev pub span_of : Span → plain.Span
span_of s = plain.span s.bytes.items s.left

-- words with the marks that they are
abbrev pub words_of : List (Bor (List ℕ) × Mark) → List (List ℕ × Mark)
words_of ws = each (λ w. (w.0.now, w.1)) ws

abbrev pub mark_among : List ℕ → List (List ℕ × Mark) → Option Mark
mark_among w [] = None
mark_among w (x ∷ xs) = if bytes_eq x.0 w then Some x.1 else mark_among w xs
