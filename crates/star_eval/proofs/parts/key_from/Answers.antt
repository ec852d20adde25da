use Rattle.std.proofs.Common.{ap, sym, ◌∙◌}
use Rattle.node_build.specs.View.{nodes_of}
use Rattle.star_values.specs.Objects.{seen}
use Rattle.star_values.specs.View.{value_of}
use Rattle.value_spec.specs.Values.{text_value}
use Rattle.star_eval.specs.Doing.{keyed_by}
use Rattle.star_eval.proofs.Open.{unkeyed}
use Rattle.star_eval.proofs.parts.key_from.Goals as goal

pub returns-in_ok-copy-in-Text-clause-meaning : goal.returns-in_ok-copy-in-Text-clause-meaning
returns-in_ok-copy-in-Text-clause-meaning c = λ s.
    let a = seen c.args.arena.now in
    let k = nodes_of a c.args.nodes.now in
    ap (λ v. keyed_by (value_of a v) k s) c.in-Text.is
    ∙ ap (λ v. keyed_by v k s) c.text.ensures
    ∙ ap (λ t. keyed_by (text_value t) k s) (sym c.in_ok-copy-in-Text.ensures)
    ∙ c.key.ensures.meaning a s

pub returns-in_ok-copy-in-Text-clause-owned : goal.returns-in_ok-copy-in-Text-clause-owned
returns-in_ok-copy-in-Text-clause-owned c = λ owned. c.key.ensures.owned (seen c.args.arena.now) owned

pub returns-in_default : goal.returns-in_default
returns-in_default c =
    let a = seen c.args.arena.now in
    record {
      meaning = λ s. rw c.refusal.ensures (unkeyed a c.args.value (nodes_of a c.args.nodes.now) c.place.result s c.in_default.not-Text (c.place.ensures a));
      owned = λ owned. owned;
    }
