use Rattle.std.proofs.Common.{ap, sym}
use Rattle.node_build.specs.Parts.{noting}
use Rattle.star_tree.specs.Whole.{exprs_of}
use Rattle.value_spec.specs.Outcomes.{then_do}
use Rattle.star_eval.specs.Doing.{arguments_then}
use Rattle.star_eval.specs.Frames.{around_flow}
use Rattle.star_eval.specs.View.{nodes_in, setting_of, waiting_in}
use Rattle.star_eval.proofs.Going.{goes}
use Rattle.star_eval.proofs.arguments.note_argued.Goals as goal

pub returns-in-Ok : goal.returns-in-Ok
returns-in-Ok c =
    let m = c.args.m.now in
    goes _ c.note_with.result c.note_with.new.m
    (ap (λ r. around_flow m (waiting_in m) (then_do r (λ more. arguments_then (setting_of m) (exprs_of m.code.file c.args.rest.now) more (λ vs. noting c.args.name.now vs (nodes_in m))))) (sym c.in-Ok.ensures.meaning))
    c.note_with.ensures
