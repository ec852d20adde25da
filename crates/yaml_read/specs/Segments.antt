-- A marker with the lines up to the next one, and the lines from that on.
use Rattle.std.specs.Prelude.{◌≡◌, true, ◌||◌, ◌+◌, ◌<◌, ◌^◌, List, [], length}
use Rattle.ytt_base.specs.declared.line.Line as held
use Rattle.yaml_spec.specs.Held.{plain_line, plain_lines}
use Rattle.yaml_spec.specs.Read as plain
use Rattle.yaml_spec.specs.Read.{is_start, is_stop, segments}
use Rattle.yaml_read.specs.declared.segments.Segment.{Segment}
use Rattle.yaml_read.specs.Lines.{FitLines}

abbrev pub segment_of : Segment → plain.Segment
segment_of s = record { marker = plain_line s.marker.now; lines = plain_lines s.lines.now; stop = s.stop }

-- no line stands before the first marker
abbrev pub BeginsWithMarker : List held.Line → Type 0
BeginsWithMarker ls = let cut = segments (plain_lines ls) in cut.0 ≡ []

-- its marker is one, and the numbers of its lines, and of those from the next marker on, fit
pub record FitSegment (s : Segment) : Type 0 where
  pub is_marker : (is_start (plain_line s.marker.now) || is_stop (plain_line s.marker.now)) ≡ true
  pub marker : s.marker.now.place.line + length s.lines.now < 2 ^ 32
  pub lines : FitLines (plain_lines s.lines.now)
  pub next : FitLines (plain_lines s.next.now)
