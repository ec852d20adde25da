-- A string that was read by its position, as plain data.
use Rattle.std.specs.Prelude.{ℕ, ◌<◌, List}
use Rattle.yaml_spec.specs.Bytes.{first}
use Rattle.yaml_spec.specs.Positions.{Quoted}
use Rattle.yaml_scalar.specs.declared.position.Quoted as held

abbrev pub quoted_of : held.Quoted → Quoted
quoted_of q = record { text = q.text; line = q.line; column = q.column }

-- an ASCII character begins the text
abbrev pub BeginsAscii : List ℕ → Type 0
BeginsAscii t = (0 < first t) × (first t < 128)
