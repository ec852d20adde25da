use Rattle.ytt_base.specs.Outcomes.{place_at}
use Rattle.yaml_noted.specs.View.{comment_of}
use Rattle.notes_read.proofs.Saying.{said_marked}
use Rattle.notes_read.proofs.reader.read_comment.Goals as goal

pub returns-in-Some : goal.returns-in-Some
returns-in-Some c = record {
  said = λ r reads. said_marked c.args.file r c.args.ignore_unknown (place_at c.args.file c.args.comment.now.line) (comment_of c.args.comment.now) c.read_marked.result (rw c.as_str-text.ensures at c.in-Some.ensures.0) (rw c.as_str-text.ensures at (c.read_marked.ensures r reads));
}
