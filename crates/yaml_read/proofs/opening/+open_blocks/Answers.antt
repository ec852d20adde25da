use Rattle.std.proofs.Common.{◌≡◌, ◌-◌, Err, refl, rules, arith, sym, ◌∙◌, ap}
use Rattle.yaml_rows.specs.View.{row_of}
use Rattle.yaml_noted.specs.View.{comments_of}
use Rattle.yaml_entries.specs.View.{begun_of, frames_of, note_of, opened_of}
use Rattle.ytt_laws.proofs.Chains.{gives_first, gives_same}
use Rattle.yaml_read.proofs.Openings.{more_blocks, last_block, last_opened}
use Rattle.yaml_read.proofs.opening.+open_blocks.Goals as goal

pub returns-then-goes_on-clause-content : goal.returns-then-goes_on-clause-content
returns-then-goes_on-clause-content t c =
    gives_same opened_of c.open_blocks.result _ _
    (more_blocks (frames_of c.args.outer) (frames_of c.in_ok-frames.frames) c.args.left (c.args.left - 1) c.args.indent c.args.heads.now c.in-Some.head.now c.in-Some.behind.now c.index-behind-0.result c.args.row.now
    (comments_of c.args.before) (comments_of c.new-none.result) (note_of c.bare_note-note.result)
    c.in-Some.ensures.cases.0 (omega arith) c.if-head.false (sym c.goes_on.ensures ∙ c.if-goes_on.true) (ap comments_of c.new-none.ensures)
    (c.bare_note-note.ensures (row_of (comments_of c.args.before) c.args.row.now) refl refl) c.in_ok-frames.ensures)
    c.open_blocks.ensures.content

pub returns-in_err-note-clause-content : goal.returns-in_err-note-clause-content
returns-in_err-note-clause-content t c =
    let stopped : c.from_residual-in_err-note.result ≡ Err c.in_err-note.field-0.0 = search rules in
    gives_same opened_of _ _ _
    (last_block (frames_of c.args.outer) c.args.left (c.args.left - 1) c.args.indent c.args.heads.now c.in-Some.head.now c.in-Some.behind.now c.args.row.now (comments_of c.args.before)
    c.in-Some.ensures.cases.0 (omega arith) c.requires.heads c.if-head.false (sym c.goes_on.ensures ∙ c.if-goes_on.false))
    (gives_first begun_of opened_of _ _ _ _ stopped c.in_err-note.ensures.content)

pub returns-clause-content : goal.returns-clause-content
returns-clause-content t c =
    last_block (frames_of c.args.outer) c.args.left (c.args.left - 1) c.args.indent c.args.heads.now c.in-Some.head.now c.in-Some.behind.now c.args.row.now (comments_of c.args.before)
    c.in-Some.ensures.cases.0 (omega arith) c.requires.heads c.if-head.false (sym c.goes_on.ensures ∙ c.if-goes_on.false)
    ∙ last_opened (frames_of c.args.outer) (frames_of c.in_ok-frames-2.frames) (c.args.left - 1) c.args.indent _ c.is_dash-is_list.result _ (begun_of c.in_ok-note.field-0)
    c.in_ok-note.ensures.content (ap frames_of c.in_ok-note.ensures.frames) c.is_dash-is_list.ensures c.in_ok-frames-2.ensures
