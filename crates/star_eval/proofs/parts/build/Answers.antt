use Rattle.std.proofs.Common.{ap, sym, ◌∙◌, ◌≡◌, true}
use Rattle.node_build.specs.Parts.{ending, keying, has_two, taking}
use Rattle.star_tree.specs.Whole.{part_of, expr_of}
use Rattle.ytt_base.specs.View.{key_of}
use Rattle.star_values.proofs.Growing.{grows_same}
use Rattle.star_eval.specs.Frames.{around_flow}
use Rattle.star_eval.specs.Meets.{Here, state_of}
use Rattle.star_eval.specs.Doing.{keyed_by, part_done, evaluated}
use Rattle.star_eval.specs.View.{arena_in, nodes_in, setting_of, waiting_in}
use Rattle.star_eval.proofs.Going.{goes, nodes_on}
use Rattle.value_spec.specs.Outcomes.{then_do, ◌>>=◌}
use Rattle.star_eval.proofs.Open.{two_open}
use Rattle.star_eval.proofs.parts.build.Goals as goal

pub returns-in_ok-key-in-Key : goal.returns-in_ok-key-in-Key
returns-in_ok-key-in-Key c =
    let m = c.args.m.now in
    let a = arena_in m in
    let k = nodes_in m in
    let s = state_of m.session in
    record {
      same = ap (around_flow m (waiting_in m)) (sym (ap (λ x. part_done (setting_of m) (part_of m.code.file x) k s) c.in-Key.is ∙ ap (λ x. keying {H = Here} (key_of x) k s) (sym c.in_ok-key-in-Key.ensures) ∙ c.key.ensures.meaning a s));
      sound = record { scope = c.requires.scope; nodes = c.key.ensures.owned a c.requires.nodes; frames = c.requires.frames };
      owned = tt;
      grows = grows_same a;
    }

pub returns-in-KeyFrom : goal.returns-in-KeyFrom
returns-in-KeyFrom c =
    let m = c.args.m.now in
    let f = m.code.file in
    let k = nodes_in m in
    let s = state_of m.session in
    goes _ c.push_statement.result c.push_statement.new.m
    ((λ i. around_flow m (waiting_in m) (then_do (evaluated (setting_of m) (expr_of f (c.get.ensures i)) s) (λ v. keyed_by v k)))
    ∙ sym (ap (λ x. around_flow m (waiting_in m) (part_done (setting_of m) (part_of f x) k s)) c.in-KeyFrom.is))
    c.push_statement.ensures

pub returns-in_ok-scalar-in-Value : goal.returns-in_ok-scalar-in-Value
returns-in_ok-scalar-in-Value c =
    let m = c.args.m.now in
    let a = arena_in m in
    let k = nodes_in m in
    let s = state_of m.session in
    record {
      same = ap (around_flow m (waiting_in m)) (sym (ap (λ x. part_done (setting_of m) (part_of m.code.file x) k s) c.in-Value.is ∙ c.in_ok-scalar-in-Value.ensures.meaning a s));
      sound = record { scope = c.requires.scope; nodes = c.in_ok-scalar-in-Value.ensures.owned a c.requires.nodes; frames = c.requires.frames };
      owned = tt;
      grows = grows_same a;
    }

pub returns-in-End : goal.returns-in-End
returns-in-End c =
    let m = c.args.m.now in
    let a = arena_in m in
    let s = state_of m.session in
    goes _ c.settle_flow.result (record m { nodes = c.end.new.self })
    (ap (around_flow m (waiting_in m)) (sym (ap (λ x. part_done (setting_of m) (part_of m.code.file x) (nodes_in m) s) c.in-End.is)))
    (nodes_on m c.end.new.self m.session.work ending c.end.result c.settle_flow.result c.requires (c.end.ensures.meaning a s) (c.end.ensures.owned a c.requires.nodes) c.settle_flow.ensures)

pub returns-then-holds_two : goal.returns-then-holds_two
returns-then-holds_two c =
    let m = c.args.m.now in
    let f = m.code.file in
    let k = nodes_in m in
    let s = state_of m.session in
    let b = c.in-ValueFrom in
    let two : has_two k ≡ true = sym (c.holds_two.ensures (arena_in m)) ∙ c.if-holds_two.true in
    goes _ c.push_statement-then-holds_two.result c.push_statement-then-holds_two.new.m
    ((λ i. around_flow m (waiting_in m) (then_do (evaluated (setting_of m) (expr_of f (c.get-then-holds_two.ensures i)) s) (λ v. taking v k)))
    ∙ (λ i. around_flow m (waiting_in m) (sym (two_open k (evaluated (setting_of m) (expr_of f b.expr) >>= λ v. taking v k) two) i s))
    ∙ sym (ap (λ x. around_flow m (waiting_in m) (part_done (setting_of m) (part_of f x) k s)) b.is))
    c.push_statement-then-holds_two.ensures
