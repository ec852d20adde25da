use Rattle.std.proofs.Common.{ap, sym, ◌∙◌}
use Rattle.yaml_noted.specs.View.{comments_of}
use Rattle.yaml_spec.specs.Held.{plain_line, plain_lines}
use Rattle.yaml_spec.specs.Rows.{Row}
use Rattle.yaml_read.specs.Passing.{pass_behind, pass_from}
use Rattle.yaml_entries.specs.View.{frames_of, hole_of}
use Rattle.yaml_read.proofs.Starts.{leads-same, pass-start, row-fits, row-value}
use Rattle.yaml_read.proofs.pass.pass_start.Goals as goal

pub pass_row-requires-clause-fits : goal.pass_row-requires-clause-fits
pass_row-requires-clause-fits c = row-fits c.in_ok-row.row c.args.stop c.args.state.is_owned c.args.state.least (plain_line c.args.line.now) c.args.below.now c.in_ok-row.ensures.row c.in_ok-row.ensures.bound c.requires.fits

pub pass_row-requires-clause-value : goal.pass_row-requires-clause-value
pass_row-requires-clause-value c = row-value c.in_ok-row.row c.args.stop c.args.state.is_owned c.args.state.least (plain_line c.args.line.now) c.args.below.now c.in_ok-row.ensures.row c.requires.text c.requires.content

pub returns : goal.returns
returns c =
    let s = c.args.state in
    let ls = plain_lines c.args.below.now in
    leads-same (pass_from c.args.stop ls) c.pass_row.result _ _
    (pass-start c.args.stop s.is_owned s.skip s.least (comments_of s.comments) (frames_of s.frames) (hole_of s.hole) (plain_line c.args.line.now) ls c.requires.now c.requires.text c.requires.content
    ∙ ap (λ (r : Row). pass_behind c.args.stop ls r (frames_of s.frames) (hole_of s.hole)) (sym (c.in_ok-row.ensures.row (comments_of s.comments))))
    (c.pass_row.ensures c.args.stop ls)
