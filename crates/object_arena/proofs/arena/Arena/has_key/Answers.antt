use Rattle.std.proofs.Common.{ap, ◌∙◌}
use Rattle.std.specs.Prelude.{is_some}
use Rattle.object_arena.proofs.Names.{identified, seen}
use Rattle.star_values.proofs.Acts.{key_seen}
use Rattle.star_values.specs.contracts.value.ValuePartialEq.TheImpl.{ghosts as value_ghosts}
use Rattle.star_values.specs.declared.object.Contents.TheVariants as contents
use Rattle.object_arena.proofs.arena.Arena.has_key.Goals as goal

pub returns : goal.returns
returns c =
    let a = seen c.args.self.now in
    let pairs = c.args.pairs.now in
    c.is_some.ensures
    ∙ ap is_some c.value_under.ensures
    ∙ key_seen value_ghosts.eq a.held c.args.key pairs.entries c.equal_values_are_one.ensures (identified a (contents.Dict pairs) c.args.key c.keys_stand_once.ensures c.requires.key c.requires.pairs)
