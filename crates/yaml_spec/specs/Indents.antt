-- The indents that a program keeps with its lines.
use Rattle.std.specs.Prelude.{◌≡◌, List}
use Rattle.std.specs.List.{All}
use Rattle.ytt_base.specs.declared.line.Line as held
use Rattle.yaml_spec.specs.Bytes.{indent}

-- the number of the line's leading spaces
abbrev pub HasIndent : held.Line → Type 0
HasIndent l = l.indent ≡ indent l.text

abbrev pub HaveIndents : List held.Line → Type 0
HaveIndents ls = All HasIndent ls
