use Rattle.star_steps.proofs.Names.{◌≡◌}
use Rattle.star_index.proofs.Names.{as_is, cut_at_once, meets_same, places_in, pos, rules, seen, state_in}
use Rattle.star_index.proofs.texts.bytes_cut.Goals as goal

pub returns-then-places-eq1 : goal.returns-then-places-eq1
returns-then-places-eq1 c n =
    let one : c.args.places.now.step ≡ pos 1 = search rules in
    meets_same as_is c.cut_text.result _ _ _
    (cut_at_once c.args.place c.args.text.now (places_in c.args.places.now) c.at-first.result c.count-count.result (state_in (seen c.args.arena.now) n) one c.at-first.ensures c.count-count.ensures)
    (c.cut_text.ensures n)
