use Rattle.std.proofs.Common.{◌≡◌, IfOk, ap, sym, subst, ◌∙◌}
use Rattle.ytt_base.proofs.Views.{tree_of-List, tree_of-Map}
use Rattle.ytt_base.specs.View.{tree_of}
use Rattle.star_values.specs.View.{built_in}
use Rattle.template_meaning.specs.Take.{members_at}
use Rattle.node_build.proofs.fill.members.Goals as goal

pub returns-in-List-clause-meaning : goal.returns-in-List-clause-meaning
returns-in-List-clause-meaning c = λ held.
    subst (λ t. IfOk c.elements.result (λ is. built_in held is ≡ members_at c.args.place t)) (sym (ap tree_of c.in-List.is ∙ tree_of-List _)) (c.elements.ensures.meaning held)

pub returns-in-Map-clause-meaning : goal.returns-in-Map-clause-meaning
returns-in-Map-clause-meaning c = λ held.
    subst (λ t. IfOk c.pairs.result (λ is. built_in held is ≡ members_at c.args.place t)) (sym (ap tree_of c.in-Map.is ∙ tree_of-Map _)) (c.pairs.ensures.meaning held)
