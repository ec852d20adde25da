-- Bytes that are a text, and those that are none.
use Rattle.std.proofs.Common.{◌≡◌, ℕ, ◌+◌, ◌-◌, List, length, Bool, true, false, Some, refl, sym, ap, ◌∙◌}
use Rattle.std.specs.Str.{IsUtf8, is_utf8}
use Rattle.std.proofs.lemmas.Bool.{cond-true, cond-false}
use Rattle.std.proofs.lemmas.Str.{IsUtf8-from_is_utf8, is_utf8-from_IsUtf8}
use Rattle.star_grammar.specs.declared.token.Piece.TheVariants as piece
use Rattle.star_grammar.specs.declared.token.TokenKind.TheVariants as token
use Rattle.star_grammar.specs.Pieces.{no_code, span, line_ends, text_token}

not_utf8 : (bs : List ℕ) → (IsUtf8 bs → ⊥) → is_utf8 bs ≡ false
not_utf8 bs is_none = on (is_utf8 bs) refl
  where
    on : (b : Bool) → is_utf8 bs ≡ b → b ≡ false
    on true e = absurd (is_none (IsUtf8-from_is_utf8 bs e))
    on false e = refl

pub no_text : (before left : ℕ) (t bs : List ℕ) → (IsUtf8 bs → ⊥) → no_code ≡ text_token before t (Some (span bs left))
no_text before left t bs is_none = sym (cond-false _ _ _ (not_utf8 bs is_none))

pub a_text : (before left size ends : ℕ) (t bs text : List ℕ) → IsUtf8 bs → text ≡ bs → size ≡ before + (length t - left) → ends ≡ line_ends (length t - left) t
    → piece.Whole (token.Text text) size ends ≡ text_token before t (Some (span bs left))
a_text before left size ends t bs text is e s l =
    ap (λ x. piece.Whole (token.Text x) size ends) e ∙ ap (λ x. piece.Whole (token.Text bs) x ends) s ∙ ap (λ x. piece.Whole (token.Text bs) (before + (length t - left)) x) l
    ∙ sym (cond-true _ _ _ (is_utf8-from_IsUtf8 bs is))
