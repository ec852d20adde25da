use Rattle.std.proofs.Common.{ap, refl, arith}
use Rattle.yaml_spec.proofs.HeldLines.{plain_lines-length}
use Rattle.yaml_read.proofs.Segmenting.{first_marked, marked, none_is}
use Rattle.yaml_read.proofs.segments.split_segment.Goals as goal

pub returns-in_default-clause-segment : goal.returns-in_default-clause-segment
returns-in_default-clause-segment c = rw (none_is c.args.lines.now c.in_default.ensures.cases) refl

pub returns-clause-segment : goal.returns-clause-segment
returns-clause-segment c =
    let here = rw c.in-Some.ensures.cases.0 at c.requires.marked in
    rw (c.in-Some.ensures.cases.0, c.split_front.ensures.front, c.first_line.ensures, c.split_front.ensures.next) (ap (λ s. s.1) (marked c.in-Some.marker.now c.in-Some.below.now here))

pub returns-clause-fits : goal.returns-clause-fits
returns-clause-fits c =
    let here = rw c.in-Some.ensures.cases.0 at c.requires.marked in
    let fit = rw c.in-Some.ensures.cases.0 at c.requires.fits in
    let more = c.split_front.ensures.fits fit.1 in
    record {
      is_marker = first_marked c.in-Some.marker.now c.in-Some.below.now here;
      marker = omega (arith, fit.0, c.split_front.ensures.shorter, plain_lines-length c.in-Some.below.now);
      lines = more.0;
      next = more.1;
    }
