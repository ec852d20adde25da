-- The pieces of a text with expressions in it, one behind another.
use Rattle.std.proofs.Common.{◌≡◌, List, ◌++◌, ℕ, Some, None, Option, append-nil, append_assoc, refl, ap, sym, ◌∙◌}
use Rattle.ytt_base.specs.declared.fault.Place.{Place}
use Rattle.code_spec.specs.Code.{Expr, Pieces, no_pieces, text_piece, expr_piece}
use Rattle.star_spec.specs.Eval.{eval_pieces, shown_row}
use Rattle.value_spec.specs.Outcomes.{give, ◌>>=◌}
use Rattle.value_spec.specs.Values.{text_value}
use Rattle.star_eval.specs.Doing.{Setting, all_calls, evaluated, next_shown, pieces_then, written_before}
use Rattle.star_eval.specs.Waiting.{shown_piece, value_goes}
use Rattle.star_eval.proofs.Chaining.{chained}

-- the parts of what may stand there
abbrev expr_at : Expr → Option (Expr × Pieces) → Expr
expr_at x None = x
expr_at x (Some p) = p.0

abbrev pieces_at : Pieces → Option (Expr × Pieces) → Pieces
pieces_at ps None = ps
pieces_at ps (Some p) = p.1

module _ (c : Setting) (p : Place) where
  -- a text behind what there is so far, whatever it is
  text_goes : (t : List ℕ) (ps : Pieces) (before : List ℕ) → pieces_then c p (text_piece t ps) before ≡ pieces_then c p ps (before ++ t)
  text_goes t ps before =
      chained (eval_pieces (all_calls c) p ps c.env) (λ more. give (t ++ more)) (λ more. give (text_value (before ++ more)))
      ∙ (λ i. eval_pieces (all_calls c) p ps c.env >>= λ more. give (text_value (sym (append_assoc before t more) i)))

  -- an expression, whose value is shown behind it
  expr_goes : (e : Expr) (ps : Pieces) (before : List ℕ) → pieces_then c p (expr_piece e ps) before ≡ (evaluated c e >>= value_goes c (shown_piece p ps before))
  expr_goes e ps before =
      chained (evaluated c e) (λ v. shown_row p v >>= λ t. eval_pieces (all_calls c) p ps c.env >>= λ more. give (t ++ more)) (λ more. give (text_value (before ++ more)))
      ∙ (λ i. evaluated c e >>= λ v. chained (shown_row p v) (λ t. eval_pieces (all_calls c) p ps c.env >>= λ more. give (t ++ more)) (λ more. give (text_value (before ++ more))) i)
      ∙ (λ i. evaluated c e >>= λ v. shown_row p v >>= λ t. text_goes t ps before i)

  pub one_shown : (ps : Pieces) (e : Expr) (rest : Pieces) (before : List ℕ) → next_shown ps ≡ Some (e, rest) → pieces_then c p ps before ≡ (evaluated c e >>= value_goes c (shown_piece p rest (before ++ written_before ps)))
  one_shown no_pieces e rest before h = cc
  one_shown (text_piece t ps) e rest before h =
      text_goes t ps before
      ∙ one_shown ps e rest (before ++ t) h
      ∙ (λ i. evaluated c e >>= value_goes c (shown_piece p rest (append_assoc before t (written_before ps) i)))
  one_shown (expr_piece d ps) e rest before h =
      let same : d ≡ e = ap (expr_at d) h in
      let behind : ps ≡ rest = ap (pieces_at ps) h in
      expr_goes d ps before ∙ (λ i. evaluated c (same i) >>= value_goes c (shown_piece p (behind i) (sym (append-nil before) i)))

  pub none_shown : (ps : Pieces) (before : List ℕ) → next_shown ps ≡ None → pieces_then c p ps before ≡ give (text_value (before ++ written_before ps))
  none_shown no_pieces before h = refl
  none_shown (text_piece t ps) before h = text_goes t ps before ∙ none_shown ps (before ++ t) h ∙ (λ i. give (text_value (append_assoc before t (written_before ps) i)))
  none_shown (expr_piece e ps) before h = cc
