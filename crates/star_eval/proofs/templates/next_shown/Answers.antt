use Rattle.std.proofs.Common.{◌++◌, ◌∷◌, Some, append-nil, append_assoc, ap, sym, map as each, ◌∙◌}
use Rattle.std.proofs.lemmas.List.{nil_from_length}
use Rattle.std.specs.Prelude.{string_bytes}
use Rattle.star_tree.proofs.Forms.{piece_of-Shown, piece_of-Written}
use Rattle.star_tree.specs.Listed.{piece_of, pieces_of}
use Rattle.star_tree.specs.Whole.{expr_of, pieces_from}
use Rattle.star_eval.specs.Doing.{next_shown, written_before}
use Rattle.star_eval.proofs.templates.next_shown.Goals as goal

pub returns-in-Shown-clause-shown : goal.returns-in-Shown-clause-shown
returns-in-Shown-clause-shown c = λ file.
    ap (λ e. Some (expr_of file e, pieces_of file c.in-Some.more.now)) c.get.ensures
    ∙ sym (ap (λ p. next_shown (pieces_from (p ∷ each (piece_of file) c.in-Some.more.now))) (ap (piece_of file) c.in-Shown.is ∙ piece_of-Shown file c.in-Shown.expr))
    ∙ sym (ap (λ ps. next_shown (pieces_of file ps)) c.in-Some.ensures.cases.0)
    ∙ c.loop-piece.invariant.shown file

pub returns-in-Shown-clause-text : goal.returns-in-Shown-clause-text
returns-in-Shown-clause-text c = λ file.
    let before = string_bytes c.loop-piece.text in
    sym (append-nil before)
    ∙ sym (ap (λ p. before ++ written_before (pieces_from (p ∷ each (piece_of file) c.in-Some.more.now))) (ap (piece_of file) c.in-Shown.is ∙ piece_of-Shown file c.in-Shown.expr))
    ∙ sym (ap (λ ps. before ++ written_before (pieces_of file ps)) c.in-Some.ensures.cases.0)
    ∙ c.loop-piece.invariant.text file

pub loop-piece-preserved : goal.loop-piece-preserved
loop-piece-preserved c =
    let before = string_bytes c.loop-piece.text in
    record {
      shown = λ file.
          sym (ap (λ p. next_shown (pieces_from (p ∷ each (piece_of file) c.in-Some.more.now))) (ap (piece_of file) c.in-Written.is ∙ piece_of-Written file c.in-Written.written))
          ∙ sym (ap (λ ps. next_shown (pieces_of file ps)) c.in-Some.ensures.cases.0)
          ∙ c.loop-piece.invariant.shown file;
      text = λ file.
          let behind = written_before (pieces_of file c.in-Some.more.now) in
          ap (λ t. t ++ behind) (c.in_ok-push_str-in-Written.ensures.bytes ∙ ap (λ t. before ++ t) c.as_str.ensures)
          ∙ append_assoc before c.in-Written.written behind
          ∙ sym (ap (λ p. before ++ written_before (pieces_from (p ∷ each (piece_of file) c.in-Some.more.now))) (ap (piece_of file) c.in-Written.is ∙ piece_of-Written file c.in-Written.written))
          ∙ sym (ap (λ ps. before ++ written_before (pieces_of file ps)) c.in-Some.ensures.cases.0)
          ∙ c.loop-piece.invariant.text file;
    }

pub returns-clause-shown : goal.returns-clause-shown
returns-clause-shown c = λ file.
    sym (ap (λ ps. next_shown (pieces_of file ps)) (nil_from_length c.loop-piece.rest.now c.in_default.ensures.cases))
    ∙ c.loop-piece.invariant.shown file

pub returns-clause-text : goal.returns-clause-text
returns-clause-text c = λ file.
    let before = string_bytes c.loop-piece.text in
    sym (append-nil before)
    ∙ sym (ap (λ ps. before ++ written_before (pieces_of file ps)) (nil_from_length c.loop-piece.rest.now c.in_default.ensures.cases))
    ∙ c.loop-piece.invariant.text file
