-- A place in a text as the program holds it, seen as plain data.
use Rattle.yaml_spec.specs.Held.{plain_lines}
use Rattle.yaml_spec.specs.Quotes.{Cursor}
use Rattle.yaml_text.specs.declared.cursor.Cursor as held

abbrev pub cursor_of : held.Cursor → Cursor
cursor_of c = record { place = c.place; text = c.text.now; below = plain_lines c.below.now }
