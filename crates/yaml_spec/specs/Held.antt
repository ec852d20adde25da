-- Lines as the program holds them, seen as plain data. Their text tells their indent.
use Rattle.std.specs.Prelude.{List, map as each}
use Rattle.ytt_base.specs.declared.line.Line as held
use Rattle.yaml_spec.specs.Lines.{Line}

abbrev pub plain_line : held.Line → Line
plain_line l = record { place = l.place; text = l.text }

abbrev pub plain_lines : List held.Line → List Line
plain_lines ls = each plain_line ls
