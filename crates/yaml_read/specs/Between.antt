-- What stands between documents.
use Rattle.std.specs.Prelude.{◌==◌, List, ◌++◌, Some, None, Ok, if◌then◌else◌}
use Rattle.ytt_base.specs.declared.fault.Fault.{Fault}
use Rattle.ytt_base.specs.declared.fault.FaultKind.TheVariants as kind
use Rattle.ytt_base.specs.Outcomes.{Outcome, ◌>>=◌, fault_at}
use Rattle.yaml_spec.specs.Bytes.{first, percent}
use Rattle.yaml_spec.specs.Lines.{Line}
use Rattle.yaml_spec.specs.Noted.{Comment}
use Rattle.yaml_spec.specs.Read.{Segment, comments_of, ended, first_content, outside}

-- the fault of a line that cannot stand there
abbrev pub outside_fault : Line → Fault
outside_fault l = fault_at (if first l.text == percent then kind.YamlOut else kind.YamlForm) l.place

-- these comments, and those of lines without content
abbrev pub only_comments : List Comment → List Line → Outcome (List Comment)
only_comments before ls = elim (first_content ls) [ Some l ↦ outside l | None ↦ Ok (before ++ comments_of ls) ]

-- these comments, and those of what follows `...`
abbrev pub ended_behind : List Comment → Segment → Outcome (List Comment)
ended_behind before s = ended s >>= (λ cs. Ok (before ++ cs))
