-- How many columns an indent is.
use Rattle.std.specs.Prelude.{ℕ, ◌+◌, Option, Some, None}
use denote.Ref.{Bor}
use Rattle.yaml_print.specs.declared.indent.Indent.{Indent, fold-Indent}
use Rattle.yaml_print.specs.declared.indent.Indent.TheOpen.{Indent-F}

abbrev pub inside : Option (Bor ℕ) → ℕ
inside None = 0
inside (Some outer) = outer.now + 2

abbrev pub width_step : Indent-F ℕ → ℕ
width_step i = inside i.outer

-- two columns for each indent around it
abbrev pub width : Indent → ℕ
width = fold-Indent ℕ width_step
