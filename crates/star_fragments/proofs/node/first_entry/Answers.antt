use Rattle.star_steps.proofs.Names.{ap, ◌∙◌}
use Rattle.star_fragments.specs.Nodes.{key_in}
use Rattle.star_fragments.proofs.Pairs.{keyless_first}
use Rattle.star_fragments.proofs.node.first_entry.Goals as goal

pub loop-part-preserved : goal.loop-part-preserved
loop-part-preserved c = λ held. c.loop-part.invariant held ∙ keyless_first _ _ _ _ c.args.entries.keyed (c.in-Some.ensures held) c.if-not-keyed.false (ap key_in c.in_default-key.is)
