use Rattle.std.proofs.Common.{refl}
use Rattle.text_words.proofs.LineSteps.{line_behind, line_cut, line_kept}
use Rattle.text_words.proofs.line_cuts.split_line.Goals as goal
use Rattle.text_words.proofs.line_cuts.split_line.Goals.{then-keep, else-keep}

pub split_at-requires : goal.split_at-requires
split_at-requires c =
    let parts = c.split_run.ensures in
    rw (c.end_len.ensures, c.as_bytes.ensures.value) (line_cut c.args.text.now c.split_run.result.0.now c.split_run.result.1.now parts.part parts.rest (rw c.as_bytes.ensures.value at c.as_bytes.ensures.utf8))

pub returns-clause-line : goal.returns-clause-line
returns-clause-line c =
    let parts = c.split_run.ensures in
    rw (← c.split_run.ensures.part, ← c.split_run.ensures.rest)
    (elim c.if-keep.branch [
      | then-keep w ↦
          rw (w.result-is, w.if-keep.true, c.split_at.ensures.front, c.end_len.ensures, c.as_bytes.ensures.value)
          (line_kept c.args.text.now c.split_run.result.0.now c.split_run.result.1.now parts.part parts.rest)
      | else-keep w ↦ rw (w.result-is, w.if-keep.false) refl
    ])

pub returns-clause-rest : goal.returns-clause-rest
returns-clause-rest c =
    let parts = c.split_run.ensures in
    rw (← parts.rest, c.split_at.ensures.back, c.end_len.ensures, c.as_bytes.ensures.value) (line_behind c.args.text.now c.split_run.result.0.now c.split_run.result.1.now parts.part parts.rest)
