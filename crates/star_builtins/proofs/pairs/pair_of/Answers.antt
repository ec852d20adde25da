use Rattle.std.proofs.Common.{◌≡◌, true, ap, subst, sym, ◌∙◌}
use Rattle.builtin_spec.specs.Dicts.{pair_of}
use Rattle.star_ops.proofs.Changing.{members_there}
use Rattle.star_ops.specs.Acts.{is_iterable}
use Rattle.star_steps.proofs.Names.{OwnsAll, seen}
use Rattle.star_builtins.proofs.Pairing.{not_two}
use Rattle.star_builtins.proofs.pairs.pair_of.Goals as goal

pub returns-then-member_count-ne2-clause-pair : goal.returns-then-member_count-ne2-clause-pair
returns-then-member_count-ne2-clause-pair c =
    let a = seen c.args.arena.now in
    let has : is_iterable c.args.value ≡ true = sym c.has_members.ensures ∙ c.if-not-has_members.false in
    let there = members_there a c.args.value has in
    sym (ap pair_of there.1 ∙ not_two there.0 (λ e. c.if-member_count-ne2.true (c.member_count.ensures ∙ sym there.2 ∙ e)))

pub returns-clause-owned : goal.returns-clause-owned
returns-clause-owned c = let a = seen c.args.arena.now in c.two_of.ensures.owned a (subst (OwnsAll a) (sym c.as_slice.ensures) c.in_ok-members.ensures.owns)
