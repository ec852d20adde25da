use Rattle.star_steps.proofs.Names.{◌≡◌, ◌<◌, ◌∙◌}
use Rattle.star_index.proofs.Names.{absent_row, as_scalar, body_at, body_under, child_count, body_there, children_at, entry_row, gives_same, scalar_of, seen, state_in, value_of}
use Rattle.star_index.proofs.fragments.entry_of.Goals as goal

pub returns-in-Some : goal.returns-in-Some
returns-in-Some c =
    let a = seen c.args.arena.now in
    let cs = children_at a c.args.whole in
    let k = value_of a c.args.key in
    let x = scalar_of (as_scalar k) c.place_of_key.result c.in-Some.at c.in-Some.is c.place_of_key.ensures.other in
    let finds : (c.in-Some.at < child_count cs) × (body_under x.0 cs ≡ body_at c.in-Some.at cs) = c.in-Some.ensures.found x.0 x.1 in
    let there = body_there c.in-Some.at cs finds.0 in
    gives_same _ _ c.member_value.result a (seen c.member_value.new.arena) c.member_value.new.steps
    (entry_row c.args.place cs (state_in a c.args.steps.now) k x.0 there.0 x.1 (finds.1 ∙ there.1))
    (c.member_value.ensures there.0 there.1)

pub returns-in-None : goal.returns-in-None
returns-in-None c =
    let a = seen c.args.arena.now in
    gives_same _ _ c.no_entry.result a a c.no_entry.new.steps
    (absent_row c.args.place (children_at a c.args.whole) (state_in a c.args.steps.now) (value_of a c.args.key) (λ x e. c.in-None.ensures.found x e))
    c.no_entry.ensures
