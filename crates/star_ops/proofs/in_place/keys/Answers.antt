use Rattle.star_steps.proofs.Names.{ap, sym, subst, ◌∙◌, seen, OwnsAll, keys_in, values_of}
use Rattle.star_ops.proofs.Members.{keys_owned, keys_seen}
use Rattle.star_ops.proofs.in_place.keys.Goals as goal

pub returns : goal.returns
returns c =
    let a = seen c.args.arena.now in
    record {
      keys = ap keys_in c.pairs.ensures.pairs ∙ keys_seen a c.pairs.result ∙ ap (values_of a) (sym c.in_ok-keys.ensures);
      owns = subst (OwnsAll a) (sym c.in_ok-keys.ensures) (keys_owned a c.pairs.result c.pairs.ensures.owns);
    }
