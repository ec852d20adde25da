use Rattle.std.proofs.Common.{◌++◌, [], ◌∷◌, ap, sym, ◌∙◌}
use Rattle.object_arena.specs.Names.{seen}
use Rattle.star_steps.specs.Meets.{state_in}
use Rattle.star_tree.specs.Whole.{parameters_from}
use Rattle.star_calls.specs.Left.{completed, rest_of}
use Rattle.star_calls.proofs.Filled.{star_filled}
use Rattle.star_calls.proofs.Fills.{same_state}
use Rattle.star_calls.proofs.Kept.{owns_rest_kept, rest_kept}
use Rattle.star_calls.proofs.filling.fill_starred.Goals as goal

pub returns-clause-fills : goal.returns-clause-fills
returns-clause-fills c = λ n at x qs.
    let a = seen c.args.arena.now in
    let b = seen c.new_tuple.new.self in
    let made = c.in_ok-tuple.ensures.made in
    let kept = rest_kept a b c.args.left.now made.grows c.requires in
    star_filled at x (parameters_from qs) (rest_of a c.args.left.now) (rest_of b c.put.new.left) (state_in a n)
    (c.in_ok-put.ensures.left b ∙ (λ i. record (kept i) { positions = []; got = (kept i).got ++ made.value i ∷ [] }))
    ∙ ap (completed at (parameters_from qs) (rest_of b c.put.new.left)) (sym (same_state a b n made.store))

pub returns-clause-owns : goal.returns-clause-owns
returns-clause-owns c =
    let a = seen c.args.arena.now in
    let b = seen c.new_tuple.new.self in
    let made = c.in_ok-tuple.ensures.made in
    let own = owns_rest_kept a b c.args.left.now made.grows c.requires in
    c.in_ok-put.ensures.owned b made.owns (record { positions = tt; defaults = own.defaults; named = own.named; got = own.got; once = own.once })
