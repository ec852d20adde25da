use Rattle.std.proofs.Common.{not, ap, ◌∙◌}
use Rattle.node_build.proofs.Stacks.{two-open}
use Rattle.node_build.proofs.builder.Builder.holds_two.Goals as goal

pub returns : goal.returns
returns c = λ a.
    let self = c.args.self.now in
    ap not c.is_empty.ensures ∙ two-open a.held self.around self.top self.below.items _ self.below.ok.0
