use Rattle.std.proofs.Common.{arith}
use Rattle.mod_codec.proofs.Documents.{more_trees, no_tree, one_tree}
use Rattle.mod_codec.proofs.document.only_document.Goals as goal

pub returns-then-len-gt1 : goal.returns-then-len-gt1
returns-then-len-gt1 c = λ s. rw c.refusal.ensures (more_trees c.args.at c.args.documents.now s c.in-Ok.trees c.in-Ok.ensures (omega (arith, c.if-len-gt1.true, c.len.ensures)))

pub returns-in-Some : goal.returns-in-Some
returns-in-Some c = λ s.
    one_tree c.args.at c.args.documents.now s c.in-Ok.trees c.in-Ok.ensures (omega (arith, c.if-len-gt1.false, c.len.ensures)) c.pop.new.self c.in-Some.tree c.in-Some.ensures

pub returns-in-Ok : goal.returns-in-Ok
returns-in-Ok c = λ s. no_tree c.args.at c.args.documents.now s c.in-Ok.trees c.in-Ok.ensures (omega (arith, c.if-len-gt1.false, c.len.ensures)) c.in-None.ensures.0
