use Rattle.std.proofs.Common.{rules, ◌≡◌, ◌+◌, false, None, drop}
use Rattle.yaml_noted.specs.View.{content_of, items_of, note_of}
use Rattle.yaml_spec.specs.Noted.{key_of, twice}
use Rattle.yaml_keys.specs.Seen.{is_seen}
use Rattle.yaml_trees.proofs.Twices.{among_next, first_item}
use Rattle.yaml_trees.proofs.twice.+twice.Goals as goal

pub twice_among-loop-item-preserved : goal.twice_among-loop-item-preserved
twice_among-loop-item-preserved t c =
    let i = c.item-item.result in
    let lt = rw c.as_slice-item-items.ensures at c.loop-item-test.true in
    let is = rw c.as_slice-item-items.ensures at c.item-item.is in
    let first = first_item c.args.items.now c.loop-item.item-index i lt is in
    let unseen : is_seen (key_of (note_of i)) c.loop-item.seen ≡ false = search rules in
    let once : twice (content_of i.content) ≡ None = search rules in
    among_next c.loop-item.seen c.add_key.new.seen (note_of i) (content_of i.content) (items_of (drop (c.loop-item.item-index + 1) c.args.items.now)) (items_of c.args.items.now) (rw first at c.loop-item.invariant) unseen once c.in_ok-add_key.ensures.seen
