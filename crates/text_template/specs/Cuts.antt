-- How a text is cut at its marks: what the calls say of what is left of it.
use Rattle.std.specs.Prelude.{◌≡◌, ℕ, zero, true, false, List, [], ◌∷◌, codes, Result, Ok, Err, OnOk}
use Rattle.std.specs.Borrow.{Bor}
use Rattle.ytt_base.specs.declared.fault.FaultKind.TheVariants as kind
use Rattle.ytt_base.specs.declared.fault.Place.{Place}
use Rattle.ytt_base.specs.declared.fault.Stop.{Stop}
use Rattle.ytt_base.specs.declared.fault.Stop.TheVariants as stop
use Rattle.ytt_base.specs.declared.text.Memory.{Memory}
use Rattle.ytt_base.specs.Outcomes.{Outcome, ◌>>=◌, fault_at}
use Rattle.yaml_spec.specs.Refusals.{refused}
use Rattle.code_spec.specs.Code.{Pieces, no_pieces, text_piece, expr_piece}
use Rattle.code_spec.specs.CodeReading.{CodeReader}
use Rattle.star_grammar.specs.CodeReaders.{IsCodeReader}
use Rattle.star_tree.specs.declared.code.Piece.{Piece}
use Rattle.star_tree.specs.Listed.{pieces_of}
use Rattle.template_spec.specs.Comments.{begins}
use Rattle.text_template_spec.specs.TextPieces.{code_from, text_from, with_text}

-- pieces in front of others
abbrev pub in_front : Pieces → Pieces → Pieces
in_front no_pieces qs = qs
in_front (text_piece t ps) qs = text_piece t (in_front ps qs)
in_front (expr_piece e ps) qs = expr_piece e (in_front ps qs)

-- these in front of what is read next
abbrev pub behind : Pieces → Outcome Pieces → Outcome Pieces
behind ps o = o >>= (λ qs. Ok (in_front ps qs))

-- ---- the code of a mark

-- the pieces of a text from behind a `(@` on
abbrev pub from_mark : CodeReader → Place → (marked : List ℕ) → Outcome Pieces
from_mark r p t = elim (begins (40 ∷ 64 ∷ t) (codes "(@=")) [ false ↦ refused kind.TextForm p | true ↦ code_from r p 2 [] (64 ∷ t) ]

-- an expression, and then the pieces of what stands behind it
abbrev pub code_then : CodeReader → Place → (code more : List ℕ) → Outcome Pieces
code_then r p code more = r.expr p code >>= (λ e. text_from r p zero [] more >>= (λ ps. Ok (expr_piece e ps)))

-- the two are code and what stands behind it, of which the pieces are; or the text isn't of the form
abbrev pub Cuts : Place → (CodeReader → Outcome Pieces) → Result (Bor (List ℕ) × Bor (List ℕ)) Stop → Type 0
Cuts p pieces (Ok c) = (r : CodeReader) → pieces r ≡ code_then r p c.0.now c.1.now
Cuts p pieces (Err s) = (s ≡ stop.Fault (fault_at kind.TextForm p)) × ((r : CodeReader) → pieces r ≡ refused kind.TextForm p)

abbrev pub ClosesCode : Place → (code : List ℕ) → Result (Bor (List ℕ) × Bor (List ℕ)) Stop → Type 0
ClosesCode p t result = Cuts p (λ r. code_from r p zero [] t) result

abbrev pub CutsCode : Place → (marked : List ℕ) → Result (Bor (List ℕ) × Bor (List ℕ)) Stop → Type 0
CutsCode p t result = Cuts p (λ r. from_mark r p t) result

-- ---- pieces behind others

abbrev pub PutsText : (file : ℕ) → List ℕ → (old new : List Piece) → Result (Unit {0}) Memory → Type 0
PutsText file t old new result = OnOk result ((qs : Pieces) → in_front (pieces_of file new) qs ≡ in_front (pieces_of file old) (with_text t qs))

-- The pieces with one more, in front of those of what is left, are those before it, in front of those of the mark; or the mark's first
-- fault. Want of memory says nothing.
abbrev pub PutsCode : Place → (marked : List ℕ) → (old new : List Piece) → Result (Bor (List ℕ)) Stop → Type 0
PutsCode p t old new (Ok more) =
    (r : CodeReader) → IsCodeReader r → behind (pieces_of p.file old) (from_mark r p t) ≡ behind (pieces_of p.file new) (text_from r p zero [] more.now)
PutsCode p t old new (Err (stop.Fault f)) = (r : CodeReader) → IsCodeReader r → from_mark r p t ≡ Err f
PutsCode p t old new (Err stop.Memory) = Unit {0}
