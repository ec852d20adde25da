use Rattle.std.proofs.Common.{◌≡◌, length, false}
use Rattle.yaml_noted.specs.View.{comments_of, items_of}
use Rattle.yaml_spec.specs.Held.{plain_lines}
use Rattle.yaml_spec.specs.Read.{segments}
use Rattle.yaml_read.specs.Documents.{documents_behind}
use Rattle.yaml_read.specs.Lines.{FitLines}
use Rattle.yaml_read.specs.Segments.{BeginsWithMarker}
use Rattle.yaml_read.proofs.documents.read_segments.Given as goal

abbrev pub invariant-segments : goal.invariant-segments
invariant-segments l = record {
  marked : BeginsWithMarker l.rest;
  fits : FitLines (plain_lines l.rest);
  gives : documents_behind (items_of l.items) l.is_closed (comments_of l.comments) (segments (plain_lines l.rest)).1
      ≡ documents_behind (items_of l.initial.items) false (comments_of l.initial.comments) (segments (plain_lines l.lines)).1;
}

abbrev pub decreases-segments : goal.decreases-segments
decreases-segments l = length l.rest
