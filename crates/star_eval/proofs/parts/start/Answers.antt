use Rattle.std.proofs.Common.{rules, ◌≡◌, ◌==◌, false, ap, sym, ◌∙◌}
use Rattle.node_build.proofs.Starting.{start_paid}
use Rattle.node_build.specs.View.{nodes_of}
use Rattle.star_spec.specs.Flow.{on}
use Rattle.star_tree.specs.View.{holds_of, item_kind_of}
use Rattle.value_spec.specs.Outcomes.{give, take_if, then_do}
use Rattle.star_values.proofs.Growing.{grows_same}
use Rattle.star_eval.specs.Frames.{around_flow}
use Rattle.star_eval.specs.Meets.{Here, state_of}
use Rattle.star_eval.specs.View.{arena_in, nodes_in, waiting_in}
use Rattle.star_eval.proofs.Rows.{enough}
use Rattle.star_eval.proofs.parts.start.Goals as goal

pub returns : goal.returns
returns c =
    let m = c.args.m.now in
    let a = arena_in m in
    let s = state_of m.session in
    let p = c.args.place in
    let new = nodes_of a c.start.new.self in
    let some : (m.session.work.steps == 0) ≡ false = search rules in
    record {
      same = ap (around_flow m (waiting_in m)) (sym (start_paid p (item_kind_of c.args.kind) (holds_of c.args.holds) (nodes_in m) new (c.in_ok-start.ensures.meaning a) s
          ∙ ap (λ b. then_do {H = Here} (take_if b 1 p s) (λ u. give (on new))) (enough m.session.work.steps some)));
      sound = record { scope = c.requires.scope; nodes = c.in_ok-start.ensures.owned a c.requires.nodes; frames = c.requires.frames };
      owned = tt;
      grows = grows_same a;
    }
