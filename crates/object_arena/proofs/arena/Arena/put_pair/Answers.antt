use Rattle.std.proofs.Common.{ap, ◌∙◌, subst, sym}
use Rattle.std.proofs.lemmas.Result.{on_ok_weaker}
use Rattle.object_arena.proofs.Names.{identified, seen}
use Rattle.object_arena.specs.Names.{Each, OwnsPair}
use Rattle.star_values.specs.Objects as objects
use Rattle.star_values.proofs.Acts.{put_owned, put_seen}
use Rattle.star_values.specs.contracts.value.ValuePartialEq.TheImpl.{ghosts as value_ghosts}
use Rattle.star_values.specs.declared.object.Contents.TheVariants as contents
use Rattle.object_arena.proofs.arena.Arena.put_pair.Goals as goal

pub returns-clause-pairs : goal.returns-clause-pairs
returns-clause-pairs c =
    let a = seen c.args.self.now in
    let old = c.args.pairs.now in
    on_ok_weaker c.put_under.result
    (λ e. ap (objects.pairs_in a.held) e ∙ put_seen value_ghosts.eq a.held c.args.key c.args.v old.entries c.equal_values_are_one.ensures (identified a (contents.Dict old) c.args.key c.keys_stand_once.ensures c.requires.key c.requires.pairs))
    c.put_under.ensures.ok

pub returns-clause-owned : goal.returns-clause-owned
returns-clause-owned c =
    let a = seen c.args.self.now in
    on_ok_weaker c.put_under.result
    (λ e. subst (Each (OwnsPair a)) (sym e) (put_owned a value_ghosts.eq c.args.key c.args.v c.args.pairs.now.entries c.requires.pairs c.requires.owned c.requires.value c.requires.key))
    c.put_under.ensures.ok
