-- Pieces that are put behind others, one after another.
use Rattle.std.proofs.Common.{◌≡◌, ℕ, zero, true, false, ◌==◌, List, [], ◌∷◌, ◌++◌, length, Result, Ok, Err, OnOk, refl, sym, ap, ◌∙◌, arith, codes}
use Rattle.std.proofs.lemmas.Bool.{eqb-true}
use Rattle.std.proofs.lemmas.List.{map-append}
use Rattle.std.specs.Prelude.{map as each}
use Rattle.ytt_base.specs.declared.fault.Fault.{Fault}
use Rattle.ytt_base.specs.declared.fault.Place.{Place}
use Rattle.ytt_base.specs.declared.fault.Stop.{Stop}
use Rattle.ytt_base.specs.declared.fault.Stop.TheVariants as stop
use Rattle.ytt_base.specs.declared.text.Memory.{Memory}
use Rattle.ytt_base.specs.Outcomes.{Gives, Outcome, ◌>>=◌}
use Rattle.code_spec.specs.Code.{Pieces, no_pieces, text_piece, expr_piece}
use Rattle.code_spec.specs.CodeReading.{CodeReader}
use Rattle.star_grammar.specs.CodeReaders.{IsCodeReader}
use Rattle.star_tree.specs.declared.code.Expr as held
use Rattle.star_tree.specs.declared.code.Piece.{Piece}
use Rattle.star_tree.specs.declared.code.Piece.TheVariants as piece
use Rattle.star_tree.specs.Listed.{piece_of, pieces_of}
use Rattle.star_tree.specs.Whole as whole
use Rattle.star_tree.specs.Whole.{expr_of, pieces_from}
use Rattle.star_tree.proofs.Forms.{piece_of-Shown, piece_of-Written}
use Rattle.text_template_spec.specs.TextPieces.{pieces_in, text_from, with_text}
use Rattle.text_template.specs.Cuts.{PutsCode, PutsText, behind, code_then, from_mark, in_front}
use Rattle.text_template.proofs.Cutting.{First, Nowhere, mark_at, text_plain}

-- one more
last_piece : (ps : List whole.Piece) (p : whole.Piece) (qs : Pieces) → in_front (pieces_from (ps ++ p ∷ [])) qs ≡ in_front (pieces_from ps) (in_front (pieces_from (p ∷ [])) qs)
last_piece [] p qs = refl
last_piece (whole.written_part t ∷ ps) p qs = ap (text_piece t) (last_piece ps p qs)
last_piece (whole.expr_part e ∷ ps) p qs = ap (expr_piece e) (last_piece ps p qs)

pushed : (file : ℕ) (old new : List Piece) (p : Piece) (q : whole.Piece) (qs : Pieces) → new ≡ old ++ p ∷ [] → piece_of file p ≡ q → in_front (pieces_of file new) qs ≡ in_front (pieces_of file old) (in_front (pieces_from (q ∷ [])) qs)
pushed file old new p q qs e f =
    ap (λ (l : List Piece). in_front (pieces_of file l) qs) e
    ∙ ap (λ l. in_front (pieces_from l) qs) (map-append (piece_of file) old (p ∷ []))
    ∙ last_piece (each (piece_of file) old) (piece_of file p) qs
    ∙ ap (λ x. in_front (pieces_of file old) (in_front (pieces_from (x ∷ [])) qs)) f

pub pushed_text : (file : ℕ) (old new : List Piece) (t : List ℕ) (qs : Pieces) → new ≡ old ++ piece.Written t ∷ [] → in_front (pieces_of file new) qs ≡ in_front (pieces_of file old) (text_piece t qs)
pushed_text file old new t qs e = pushed file old new (piece.Written t) (whole.written_part t) qs e (piece_of-Written file t)

pub pushed_code : (file : ℕ) (old new : List Piece) (x : held.Expr) (qs : Pieces) → new ≡ old ++ piece.Shown x ∷ [] → in_front (pieces_of file new) qs ≡ in_front (pieces_of file old) (expr_piece (expr_of file x) qs)
pushed_code file old new x qs e = pushed file old new (piece.Shown x) (whole.expr_part (expr_of file x)) qs e (piece_of-Shown file x)

-- an empty text is no piece
pub some_text : (t : List ℕ) (qs : Pieces) → (length t == 0) ≡ false → text_piece t qs ≡ with_text t qs
some_text [] qs e = cc
some_text (b ∷ t) qs e = refl

pub no_text : (t : List ℕ) (qs : Pieces) → (length t == 0) ≡ true → qs ≡ with_text t qs
no_text [] qs e = refl
no_text (b ∷ t) qs e = absurd (omega (arith, eqb-true (length (b ∷ t)) 0 e))

module _ (file : ℕ) (t : List ℕ) (old new : List Piece) where
  pub text_put : (u : List ℕ) (result : Result (Unit {0}) Memory) → (length t == 0) ≡ false → u ≡ t → OnOk result (new ≡ old ++ piece.Written u ∷ []) → PutsText file t old new result
  text_put u (Ok x) some e h = λ qs. pushed_text file old new u qs h ∙ ap (λ v. in_front (pieces_of file old) (text_piece v qs)) e ∙ ap (in_front (pieces_of file old)) (some_text t qs some)
  text_put u (Err s) some e h = tt

-- ---- what is read behind pieces

behind_one : (o : Outcome Pieces) (f : Pieces → Pieces) (old new : Pieces) → ((qs : Pieces) → in_front new qs ≡ in_front old (f qs)) → behind old (o >>= (λ qs. Ok (f qs))) ≡ behind new o
behind_one (Ok qs) f old new h = ap Ok (sym (h qs))
behind_one (Err e) f old new h = refl

-- a text, and then what follows it
pub behind_text : (t : List ℕ) (o : Outcome Pieces) (old new : Pieces) → ((qs : Pieces) → in_front new qs ≡ in_front old (with_text t qs)) → behind old (o >>= (λ qs. Ok (with_text t qs))) ≡ behind new o
behind_text t o old new h = behind_one o (with_text t) old new h

module _ (r : CodeReader) (p : Place) (code more : List ℕ) (pieces : Outcome Pieces) (cut : pieces ≡ code_then r p code more) where
  -- an expression, and then what follows it
  pub behind_code : (x : held.Expr) (old new : List Piece) → r.expr p code ≡ Ok (expr_of p.file x) → new ≡ old ++ piece.Shown x ∷ [] → behind (pieces_of p.file old) pieces ≡ behind (pieces_of p.file new) (text_from r p zero [] more)
  behind_code x old new read e =
      ap (behind (pieces_of p.file old)) (cut ∙ ap (λ o. o >>= (λ e. text_from r p zero [] more >>= (λ ps. Ok (expr_piece e ps)))) read)
      ∙ behind_one (text_from r p zero [] more) (expr_piece (expr_of p.file x)) (pieces_of p.file old) (pieces_of p.file new) (λ qs. pushed_code p.file old new x qs e)

  pub code_stops : (f : Fault) → r.expr p code ≡ Err f → pieces ≡ Err f
  code_stops f read = cut ∙ ap (λ o. o >>= (λ e. text_from r p zero [] more >>= (λ ps. Ok (expr_piece e ps)))) read

-- ---- a text, mark by mark

nothing_more : (ps : Pieces) → in_front ps no_pieces ≡ ps
nothing_more no_pieces = refl
nothing_more (text_piece t ps) = ap (text_piece t) (nothing_more ps)
nothing_more (expr_piece e ps) = ap (expr_piece e) (nothing_more ps)

behind_none : (o : Outcome Pieces) → o ≡ behind no_pieces o
behind_none (Ok qs) = refl
behind_none (Err e) = refl

module _ (r : CodeReader) (p : Place) (text : List ℕ) where
  pub none_before : (ps : List Piece) → ps ≡ [] → pieces_in r p text ≡ behind (pieces_of p.file ps) (text_from r p zero [] text)
  unfolding pieces_in
  none_before ps e = behind_none (text_from r p zero [] text) ∙ ap (λ (l : List Piece). behind (pieces_of p.file l) (text_from r p zero [] text)) (sym e)

  module _ (rest : List ℕ) (old mid : List Piece) (before : pieces_in r p text ≡ behind (pieces_of p.file old) (text_from r p zero [] rest)) where
    -- up to the next mark
    pub up_to_mark : (written marked : List ℕ) → First (codes "(@") rest written marked → ((qs : Pieces) → in_front (pieces_of p.file mid) qs ≡ in_front (pieces_of p.file old) (with_text written qs))
        → pieces_in r p text ≡ behind (pieces_of p.file mid) (from_mark r p marked)
    up_to_mark written marked f put =
        before ∙ ap (behind (pieces_of p.file old)) (mark_at r p rest written marked f) ∙ behind_text written (from_mark r p marked) (pieces_of p.file old) (pieces_of p.file mid) put

    -- up to the text's end
    pub up_to_end : Nowhere (codes "(@") rest → ((qs : Pieces) → in_front (pieces_of p.file mid) qs ≡ in_front (pieces_of p.file old) (with_text rest qs)) → pieces_in r p text ≡ Ok (pieces_of p.file mid)
    up_to_end none put =
        before ∙ ap (behind (pieces_of p.file old)) (text_plain r p [] rest none) ∙ ap Ok (sym (put no_pieces) ∙ nothing_more (pieces_of p.file mid))

-- a fault in the code of a mark
pub fault_behind : {X : Type 0} (view : X → Pieces) (r : CodeReader) → IsCodeReader r → (p : Place) (marked : List ℕ) (old new : List Piece) (s : Stop) (whole : Outcome Pieces) → whole ≡ behind (pieces_of p.file old) (from_mark r p marked)
    → PutsCode p marked old new (Err s) → Gives view (Err s) whole
fault_behind view r reads p marked old new (stop.Fault f) whole e h = e ∙ ap (behind (pieces_of p.file old)) (h r reads)
fault_behind view r reads p marked old new stop.Memory whole e h = tt
