use Rattle.std.proofs.Common.{◌≡◌, ℕ, ◌==◌, ◌-◌, ◌<◌, Ok, Err, refl, sym, ap, ◌∙◌, arith, rules}
use Rattle.ytt_base.specs.Outcomes.{and_then}
use Rattle.yaml_noted.specs.View.{comments_of}
use Rattle.yaml_spec.specs.Noted.{Content, Items}
use Rattle.yaml_spec.specs.Flow.{size}
use Rattle.yaml_text.specs.View.{cursor_of}
use Rattle.yaml_flow.specs.View.{members_of, node_of, turn_of}
use Rattle.yaml_flow.proofs.Collected.{with_all, with_all-found, with_all-none, all-read}
use Rattle.yaml_flow.proofs.Flows.{flow-scalar, flow-deep, flow-collection, collected}
use Rattle.yaml_flow.proofs.Stops.{stopped}
use Rattle.yaml_flow.proofs.Turns.{members-stop, members-last, members-more}
use Rattle.yaml_flow.proofs.flow.+flow.Goals as goal

pub read_members-returns-in_err-turn-clause-members : goal.read_members-returns-in_err-turn-clause-members
read_members-returns-in_err-turn-clause-members t c =
    let l = c.members in
    let stop : c.from_residual.result ≡ Err c.in_err-turn.field-0.0 = search rules in
    stopped turn_of members_of _ _ _ _ stop c.in_err-turn.ensures.turn (λ f e. sym l.invariant.whole ∙ ap (with_all l.items) (members-stop _ _ _ l.invariant.n _ _ f l.invariant.enough e))

pub read_members-returns-then-turn-clause-members : goal.read_members-returns-then-turn-clause-members
read_members-returns-then-turn-clause-members t c =
    let l = c.members in
    sym l.invariant.whole ∙ ap (with_all l.items) (members-last _ _ _ l.invariant.n _ _ _ l.invariant.enough c.in_ok-turn.ensures.turn c.if-turn.true)
    ∙ ap (λ (is : Items). Ok (is, comments_of c.in_ok-turn.turn.comments, cursor_of c.in_ok-turn.turn.cursor)) (all-read l.items _ c.in_ok-turn.turn.item c.in_ok-add_item.ensures)

pub read_members-members-init : goal.read_members-members-init
read_members-members-init t c = record {
  n = size (cursor_of c.args.cursor);
  enough = omega (arith, c.behind_mark-here.ensures.within);
  within = omega (arith, c.behind_mark-here.ensures.within);
  whole = with_all-none c.new-items.result _ c.new-items.ensures ∙ rw c.behind_mark-here.ensures.place refl;
}

pub read_members-members-preserved : goal.read_members-members-preserved
read_members-members-preserved t c =
    let l = c.members in
    let less : size (cursor_of c.in_ok-turn.turn.cursor) < size (cursor_of l.here) = c.in_ok-turn.ensures.within in
    record {
      n = l.invariant.n - 1;
      enough = omega (arith, less, l.invariant.enough);
      within = omega (arith, less, l.invariant.within);
      whole =
          rw c.in_ok-add_item.ensures
          (sym (with_all-found l.items c.in_ok-turn.turn.item _) ∙ ap (with_all l.items) (sym (members-more _ _ _ l.invariant.n _ _ _ l.invariant.enough c.in_ok-turn.ensures.turn c.if-turn.false)) ∙ l.invariant.whole);
    }

pub read_flow-returns-then-not-starts_collection-clause-node : goal.read_flow-returns-then-not-starts_collection-clause-node
read_flow-returns-then-not-starts_collection-clause-node t c =
    rw (flow-scalar c.args.left c.args.open_place (comments_of c.args.comments) (cursor_of c.args.cursor) (sym c.if-not-starts_collection.ensures)) c.read_scalar.ensures.node

pub read_flow-returns-in_err-inside-clause-node : goal.read_flow-returns-in_err-inside-clause-node
read_flow-returns-in_err-inside-clause-node t c =
    let stop : c.from_residual.result ≡ Err c.in_err-inside.field-0.0 = search rules in
    stopped (λ (n : ℕ). n) node_of _ _ _ _ stop c.in_err-inside.ensures.levels
    (λ f e. flow-deep c.args.left c.args.open_place (comments_of c.args.comments) (cursor_of c.args.cursor) f (sym c.if-not-starts_collection.ensures) e)

pub read_flow-returns-in_err-items-clause-node : goal.read_flow-returns-in_err-items-clause-node
read_flow-returns-in_err-items-clause-node t c =
    let stop : c.from_residual-in_err-items.result ≡ Err c.in_err-items.field-0.0 = search rules in
    stopped members_of node_of _ _ _ _ stop c.in_err-items.ensures.members
    (λ f e. flow-collection c.args.left c.in_ok-inside.inside _ c.args.open_place (comments_of c.args.comments) (cursor_of c.args.cursor) (sym c.if-not-starts_collection.ensures) c.in_ok-inside.ensures.levels (ap (λ (b : ℕ). b == 123) c.first-is_map.ensures) ∙ ap (and_then (collected _)) e)

pub read_flow-returns-clause-node : goal.read_flow-returns-clause-node
read_flow-returns-clause-node t c =
    flow-collection c.args.left c.in_ok-inside.inside _ c.args.open_place (comments_of c.args.comments) (cursor_of c.args.cursor) (sym c.if-not-starts_collection.ensures) c.in_ok-inside.ensures.levels (ap (λ (b : ℕ). b == 123) c.first-is_map.ensures) ∙ ap (and_then (collected _)) c.in_ok-items.ensures.members
    ∙ ap (λ (k : Content). Ok (k, comments_of c.in_ok-items.comments, cursor_of c.in_ok-items.behind)) (sym c.collection.ensures)
