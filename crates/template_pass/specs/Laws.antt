-- What the passes by levels give is what placing says.
use Rattle.std.specs.Prelude.{◌≡◌, ℕ, Bool, List, Ok, None}
use Rattle.yaml_spec.specs.Noted.{Documents}
use Rattle.code_spec.specs.CodeReading.{CodeReader}
use Rattle.template_spec.specs.Events.{Event, events}
use Rattle.template_spec.specs.Misplaced.{placing_fault}
use Rattle.template_spec.specs.Nesting.{template_of}
use Rattle.template_pass.specs.Building.{template_by_levels}
use Rattle.template_pass.specs.Levels.{fault_by_levels}
use Rattle.template_pass.specs.Rows.{AreRows, Row}

-- the first fault of placing is the one that the pass by levels finds
abbrev pub FaultIsByLevels : Type 0
FaultIsByLevels =
    (r : CodeReader) (ignore : Bool) (file : ℕ) (ds : Documents) (es : List Event) (rs : List Row) →
    events r ignore file ds ≡ Ok es → AreRows ds es rs → fault_by_levels file rs ≡ placing_fault file es

-- and where nothing is wrong, the template is the one that they build
abbrev pub TemplateIsByLevels : Type 0
TemplateIsByLevels =
    (r : CodeReader) (ignore : Bool) (file : ℕ) (ds : Documents) (es : List Event) (rs : List Row) →
    events r ignore file ds ≡ Ok es → AreRows ds es rs → placing_fault file es ≡ None → template_by_levels file rs ≡ template_of file es ds.items
