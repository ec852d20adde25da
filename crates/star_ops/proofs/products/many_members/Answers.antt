use Rattle.star_steps.proofs.Names.{value_of, map-append, ◌++◌, ap, subst, sym, ◌∙◌, seen, OwnsAll, values_of}
use Rattle.star_ops.proofs.Copies.{copies_more, joined_owned}
use Rattle.star_ops.proofs.products.many_members.Goals as goal

pub loop-preserved : goal.loop-preserved
loop-preserved c =
    let a = seen c.args.arena.now in
    let one = c.args.members.now in
    let all = c.in_ok-append.ensures ∙ ap (λ l. c.loop.all ++ l) c.in_ok-from_slice.ensures in (
      ap (values_of a) all ∙ map-append (value_of a) c.loop.all one ∙ ap (λ l. l ++ values_of a one) c.loop.invariant.0 ∙ sym (copies_more c.loop.counter (values_of a one)),
      subst (OwnsAll a) (sym all) (joined_owned a c.loop.all one c.loop.invariant.1 c.requires),
    )
