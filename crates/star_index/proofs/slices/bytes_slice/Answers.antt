use Rattle.star_steps.proofs.Names.{◌≤◌}
use Rattle.star_index.proofs.Names.{cut_in, length, sliced_among, sliced_few, places_in, rules, seen}
use Rattle.star_index.proofs.slices.bytes_slice.Goals as goal

pub overflow_add-text : goal.overflow_add-text
overflow_add-text c =
    let few : c.count.result ≤ length c.args.text.now = sliced_few (length c.args.text.now) (cut_in (seen c.args.arena.now).held c.args.cut.now) (places_in c.cut_places-places.result) c.count.result (c.cut_places-places.ensures (seen c.args.arena.now)) c.count.ensures in
    search (rules, few)

pub bytes_cut-requires : goal.bytes_cut-requires
bytes_cut-requires c = sliced_among (length c.args.text.now) (cut_in (seen c.args.arena.now).held c.args.cut.now) (places_in c.cut_places-places.result) (c.cut_places-places.ensures (seen c.args.arena.now))
