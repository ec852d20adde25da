-- Lines that are UTF-8.
use Rattle.std.specs.Prelude.{ℕ, if◌then◌else◌, List, Some, None, Ok}
use Rattle.std.specs.Str.{is_utf8}
use Rattle.ytt_base.specs.declared.fault.FaultKind.TheVariants as kind
use Rattle.ytt_base.specs.declared.fault.Place.{Place}
use Rattle.ytt_base.specs.Outcomes.{Outcome}
use Rattle.yaml_spec.specs.Lines.{Line, first_failing}
use Rattle.yaml_spec.specs.Refusals.{refused}

-- one line
abbrev pub utf8_line : Place → List ℕ → Outcome Line
utf8_line place text = if is_utf8 text then Ok (record { place = place; text = text }) else refused kind.NotUtf8 place

-- the lines, or the first that isn't UTF-8
abbrev pub utf8_lines : List Line → Outcome (List Line)
utf8_lines ls = elim (first_failing is_utf8 ls) [ Some p ↦ refused kind.NotUtf8 p | None ↦ Ok ls ]
