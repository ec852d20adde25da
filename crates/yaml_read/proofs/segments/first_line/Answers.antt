use Rattle.std.proofs.Common.{sym, refl}
use Rattle.yaml_read.proofs.Segmenting.{first_is, none_is}
use Rattle.yaml_read.proofs.segments.first_line.Goals as goal

pub returns-in-Some : goal.returns-in-Some
returns-in-Some c =
    let marked = rw c.in-Some.ensures.cases.0 at c.requires in
    rw c.in-Some.ensures.cases.0 (sym (first_is c.in-Some.line.now c.in-Some.field-0-1.now marked))

pub returns-in-None : goal.returns-in-None
returns-in-None c = rw (none_is c.args.lines.now c.in-None.ensures.cases) refl
