-- What stands on a line of a scalar in quotes, as plain data.
use Rattle.yaml_spec.specs.Quotes.{Scan, open_end, closed, wrong}
use Rattle.std.specs.Prelude.{string_bytes}
use Rattle.yaml_quotes.specs.declared.scan.Scan as found
use Rattle.yaml_quotes.specs.declared.scan.Scan.TheVariants as scan
use Rattle.yaml_quotes.specs.declared.escapes.Turn as seen
use Rattle.yaml_quotes.specs.declared.escapes.Turn.TheVariants as turn
use Rattle.yaml_quotes.specs.Turns.{Turn, ends, closes, gives, fails}

abbrev pub scan_of : found.Scan → Scan
scan_of (scan.Open text joined) = open_end (record { text = string_bytes text; joined = joined })
scan_of (scan.Closed text behind) = closed (string_bytes text) behind.now
scan_of scan.Wrong = wrong

abbrev pub turn_of : seen.Turn → Turn
turn_of (turn.LineEnd joined) = ends joined
turn_of (turn.Closed behind) = closes behind.now
turn_of (turn.Char c behind) = gives c behind.now
turn_of turn.Wrong = fails
