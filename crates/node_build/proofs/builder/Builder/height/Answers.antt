use Rattle.std.proofs.Common.{◌+◌, ap, sym, ◌∙◌}
use Rattle.node_build.proofs.Stacks.{nodes-count}
use Rattle.node_build.proofs.builder.Builder.height.Goals as goal

pub returns : goal.returns
returns c = λ a.
    let self = c.args.self.now in
    ap (λ n. n + 1) (c.len.ensures ∙ self.below.ok.0) ∙ sym (nodes-count a.held self.around self.top self.below.items)
