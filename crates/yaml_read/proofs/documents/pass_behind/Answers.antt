use Rattle.std.proofs.Common.{Err, ap, sym, ◌∙◌, ◌≡◌, length, [], refl, arith, subst}
use Rattle.std.proofs.lemmas.Result.{err_from_is_err_and}
use Rattle.ytt_base.specs.Outcomes.{Gives}
use Rattle.ytt_base.specs.Trees.{max_depth}
use Rattle.yaml_spec.proofs.HeldLines.{plain_lines-length}
use Rattle.yaml_spec.specs.Read.{marker_row}
use Rattle.yaml_spec.specs.Rows.{Row, passing, row_value}
use Rattle.yaml_noted.specs.View.{comments_of}
use Rattle.yaml_rows.specs.View.{value_of}
use Rattle.ytt_laws.proofs.Chains.{gives_next, gives_same, gives_stop}
use Rattle.yaml_read.specs.Documents.{passed_behind}
use Rattle.yaml_read.specs.Segments.{segment_of}
use Rattle.yaml_read.specs.View.{passed_of}
use Rattle.yaml_read.proofs.Explicit.{behind_passes, pass_on}
use Rattle.yaml_read.proofs.documents.pass_behind.Goals as goal

pub row_value-requires-clause-fits : goal.row_value-requires-clause-fits
row_value-requires-clause-fits c =
    let line = ap (λ (r : Row). r.place.line) c.requires.row in
    let below : length c.args.row.now.below.now ≡ length c.args.segment.lines.now =
    sym (plain_lines-length c.args.row.now.below.now) ∙ ap (λ (r : Row). length r.below) c.requires.row ∙ plain_lines-length c.args.segment.lines.now in
    omega (arith, c.requires.fits.marker, line, below)

pub returns-in_err-value : goal.returns-in_err-value
returns-in_err-value c =
    let s = segment_of c.args.segment in
    let r = marker_row s in
    let p = err_from_is_err_and c.from_residual.result c.from_residual.ensures.1 in
    let read = subst (λ (r : Row). Gives value_of (Err c.in_err-value.field-0.0) (row_value max_depth r)) c.requires.row (c.in_err-value.ensures [] (ap passing c.requires.row ∙ sym (ap comments_of c.new.ensures))) in
    let stopped = gives_stop value_of passed_of (pass_on s r) c.in_err-value.field-0.0 (row_value max_depth r) read in
    rw (p.1, p.2) (gives_same passed_of (Err c.in_err-value.field-0.0) (passed_behind s r) _ (behind_passes s r refl c.requires.some) stopped)

pub pass_lines-requires : goal.pass_lines-requires
pass_lines-requires c = record { fits = c.requires.fits.lines }

pub returns : goal.returns
returns c =
    let s = segment_of c.args.segment in
    let r = marker_row s in
    let line = ap (λ (r : Row). r.place.line) c.requires.row in
    let read = sym (ap (row_value max_depth) c.requires.row) ∙ c.in_ok-value.ensures [] (ap passing c.requires.row ∙ sym (ap comments_of c.new.ensures)) in
    let passed = rw (c.saturating_sub-skip.ensures, line) at c.pass_lines.ensures in
    gives_same passed_of c.pass_lines.result (passed_behind s r) _ (behind_passes s r refl c.requires.some)
    (gives_next passed_of (pass_on s r) c.pass_lines.result (value_of c.in_ok-value.value) (row_value max_depth r) read passed)
