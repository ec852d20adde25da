use Rattle.std.proofs.Common.{◌∙◌, sym, ap, string_bytes}
use Rattle.std.proofs.lemmas.List.{nil_from_length}
use Rattle.yaml_spec.specs.Bytes.{skip_white}
use Rattle.yaml_spec.specs.Held.{plain_line, plain_lines}
use Rattle.yaml_text.specs.View.{cursor_of}
use Rattle.yaml_quotes.specs.Joining.{part_of}
use Rattle.yaml_quotes.specs.View.{scan_of}
use Rattle.yaml_quotes.proofs.QuotedLines.{reading-start, reading-wrong, reading-closed, reading-end, reading-more}
use Rattle.yaml_quotes.proofs.quote.read_quote.Goals as goal

pub lines-init : goal.lines-init
lines-init c =
    reading-start c.args.open_place c.opening-is_double.result.0 (cursor_of c.args.cursor) c.new-folded.result c.opening-is_double.result.1.now c.opening-is_double.ensures.double c.opening-is_double.ensures.behind c.new-folded.ensures

pub returns-in-Wrong-clause-quote : goal.returns-in-Wrong-clause-quote
returns-in-Wrong-clause-quote c =
    rw c.refusal.ensures (reading-wrong (cursor_of c.lines.here) c.lines.invariant (sym c.in_ok-scan_line.ensures.held ∙ ap scan_of c.in-Wrong.is))

pub returns-in-Closed-clause-quote : goal.returns-in-Closed-clause-quote
returns-in-Closed-clause-quote c =
    rw (c.in_ok-finish-in-Closed.ensures, c.as_str.ensures.value)
    (reading-closed (cursor_of c.lines.here) c.lines.invariant (string_bytes c.in-Closed.text) c.in-Closed.behind.now (sym c.in_ok-scan_line.ensures.held ∙ ap scan_of c.in-Closed.is))

pub returns-in_default-clause-quote : goal.returns-in_default-clause-quote
returns-in_default-clause-quote c =
    rw c.refusal-in_default.ensures
    (reading-end (cursor_of c.lines.here) c.lines.invariant (part_of (string_bytes c.in-Open.text) c.in-Open.joined) (sym c.in_ok-scan_line.ensures.held ∙ ap scan_of c.in-Open.is) (ap plain_lines (nil_from_length c.lines.here.below.now c.in_default.ensures.cases)))

pub lines-preserved : goal.lines-preserved
lines-preserved c =
    let next = c.skip_white.ensures ∙ ap skip_white c.as_str-in-lines.ensures in
    reading-more (cursor_of c.lines.here) c.lines.invariant (part_of (string_bytes c.in-Open.text) c.in-Open.joined) (plain_line c.in-Some.line.now) (plain_lines c.in-Some.below.now) c.add.new.self c.skip_white.result.now
    (sym c.in_ok-scan_line.ensures.held ∙ ap scan_of c.in-Open.is) (ap plain_lines c.in-Some.ensures.cases.0) next (rw c.as_str-in-Open.ensures.value at c.in_ok-add-in-Open.ensures)
