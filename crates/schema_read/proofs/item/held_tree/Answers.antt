use Rattle.std.proofs.Common.{◌∙◌, ap, sym}
use Rattle.ytt_base.proofs.Views.{tree_of-Null}
use Rattle.ytt_base.specs.View.{trees_of}
use Rattle.star_values.specs.View.{body_in, built_in}
use Rattle.template_meaning.specs.Meaning.{documents}
use Rattle.value_spec.specs.Built.{body_tree}
use Rattle.schema_read.proofs.Items.{last-is, lone, none-null}
use Rattle.schema_read.proofs.item.held_tree.Goals as goal

pub returns-in-None : goal.returns-in-None
returns-in-None c = λ held.
    let item = c.args.item.now in
    let read = c.in_ok-trees.ensures held ∙ ap (λ is. documents (built_in held is)) c.from_ref.ensures.value ∙ lone held item in
    tree_of-Null ∙ none-null (body_tree (body_in held item.value)) (sym (ap trees_of c.in-None.ensures.0) ∙ read)

pub returns : goal.returns
returns c = λ held.
    let item = c.args.item.now in
    let read = c.in_ok-trees.ensures held ∙ ap (λ is. documents (built_in held is)) c.from_ref.ensures.value ∙ lone held item in
    last-is c.pop.new.self c.in-Some.tree (body_tree (body_in held item.value)) (sym (ap trees_of c.in-Some.ensures) ∙ read)
