use Rattle.std.proofs.Common.{map as each, sym, ap, ◌∙◌}
use Rattle.star_calls.proofs.Kept.{fields_kept}
use Rattle.star_values.proofs.Growing.{built_kept}
use Rattle.star_values.specs.View.{built_in, value_in}
use Rattle.value_spec.specs.Outcomes.{done}
use Rattle.star_eval.specs.declared.session.Session.{Session}
use Rattle.star_eval.specs.Meets.{arena_of}
use Rattle.star_eval.proofs.file.end.Goals as goal

pub returns-clause-ends : goal.returns-clause-ends
returns-clause-ends c =
    let before = c.args.session.now in
    let a = arena_of before in
    let s : Session = record before { arena = c.freeze_since.new.self } in
    let b = arena_of s in
    let frozen = c.freeze_since.ensures in
    let items = c.into_children-documents.result in
    let gs = c.in_ok-globals.globals in
    let documents = sym (c.into_children-documents.ensures.children a) ∙ sym (ap (λ h. built_in h items) frozen.held) in
    let globals = sym c.in_ok-globals.ensures.meaning ∙ sym (ap (λ h. each (λ g. (g.name, value_in h g.value)) gs) frozen.held) in
    record {
      meaning = λ i. done (record { documents = documents i; globals = globals i }) (record { store = sym frozen.store i; steps = before.work.steps; host = tt });
      owned = record {
        documents = (built_kept a b items frozen.grows (c.into_children-documents.ensures.owned a c.requires.nodes)).0;
        globals = (fields_kept a b gs frozen.grows c.in_ok-globals.ensures.owned).0;
      };
      grows = frozen.grows;
    }
