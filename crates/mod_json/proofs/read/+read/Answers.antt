use Rattle.std.proofs.Common.{sym, ap, ◌∙◌}
use Rattle.std.specs.Option.{option_map}
use Rattle.std.proofs.Math.ListN.{drop_of_length-le}
use Rattle.ytt_base.specs.View.{tree_of}
use Rattle.ytt_laws.proofs.Lists.{dropped}
use Rattle.mod_json.specs.Walk.{Entry}
use Rattle.mod_json.proofs.Reading.{pairs_done, pairs_next, string_tree, trees_done, trees_next}
use Rattle.mod_json.proofs.read.+read.Goals as goal

pub tree_of-returns-in_ok-of-in-String : goal.tree_of-returns-in_ok-of-in-String
tree_of-returns-in_ok-of-in-String t c =
    string_tree c.args.json.now c.in-String.text c.in_ok-of-in-String.field-0 c.in-String.is (c.in_ok-of-in-String.ensures ∙ c.as_str.ensures.value)

pub trees_of-loop-item-preserved : goal.trees_of-loop-item-preserved
trees_of-loop-item-preserved t c =
    let left = dropped c.args.items.now c.loop-item.item-index c.item-item.result c.loop-item-test.true c.item-item.is in
    let read = ap (option_map tree_of) (sym c.in-Some.is) ∙ c.in_ok-tree.ensures in
    rw c.in_ok-push-in-Some.ensures (trees_next _ c.loop-item.trees c.item-item.result _ _ left c.loop-item.invariant c.in-Some.tree read)

pub trees_of-returns : goal.trees_of-returns
trees_of-returns t c = trees_done _ c.loop-item.trees _ (drop_of_length-le c.args.items.now c.loop-item-test.false) c.loop-item.invariant

pub pairs_of-loop-key-preserved : goal.pairs_of-loop-key-preserved
pairs_of-loop-key-preserved t c =
    let e : Entry = (c.in-Some.key.now, c.in-Some.member.now) in
    let read = ap (option_map tree_of) (sym c.in-Some-2.is) ∙ c.in_ok-tree.ensures in
    rw c.in_ok-put_pair-in-Some-2.ensures
    (pairs_next _ c.loop-key.pairs e c.loop-key.key-iterator c.next.new.self c.in-Some.ensures.steps c.loop-key.invariant c.as_str.result.now c.in-Some-2.tree c.as_str.ensures.value read)

pub pairs_of-returns : goal.pairs_of-returns
pairs_of-returns t c = pairs_done _ c.loop-key.pairs c.loop-key.key-iterator c.in-None.ensures.steps.0 c.loop-key.invariant
