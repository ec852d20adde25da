use Rattle.std.proofs.Common.{◌≡◌, ◌++◌, ℕ, length}
use Rattle.std.specs.Prelude.{string_bytes}
use Rattle.star_tree.specs.Listed.{pieces_of}
use Rattle.star_eval.specs.Doing.{next_shown, written_before}
use Rattle.star_eval.proofs.templates.next_shown.Given as goal

-- what is put already and what is left decide
abbrev pub invariant-loop-piece : goal.invariant-loop-piece
invariant-loop-piece l = record {
  shown : (file : ℕ) → next_shown (pieces_of file l.rest) ≡ next_shown (pieces_of file l.pieces);
  text : (file : ℕ) → string_bytes l.text ++ written_before (pieces_of file l.rest) ≡ string_bytes l.initial.text ++ written_before (pieces_of file l.pieces);
}

abbrev pub decreases-loop-piece : goal.decreases-loop-piece
decreases-loop-piece l = length l.rest
