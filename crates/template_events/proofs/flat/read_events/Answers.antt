use Rattle.yaml_noted.specs.View.{documents_of}
use Rattle.template_events.proofs.RowsHeard.{kept_gives, rows_are_heard}
use Rattle.template_events.proofs.flat.read_events.Goals as goal

pub returns : goal.returns
returns c = record {
  events = λ r reads.
      rw c.rows_of.ensures
      (rows_are_heard (λ rows. rows.items) c.args.file (documents_of c.args.docs.now) r c.args.ignore_unknown _
      (kept_gives (λ rows. rows.items) c.args.file (documents_of c.args.docs.now) c.hear_whole-heard.result c.hear_whole-heard.new.hearing.gathering.rows _ (c.hear_whole-heard.ensures r reads)));
}
