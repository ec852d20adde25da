use Rattle.std.proofs.Common.{rules}
use Rattle.object_arena.specs.Names.{OwnsFields, seen}
use Rattle.star_calls.proofs.arguments.add_pairs.Goals as goal

pub returns-in_ok-with_names-in-Some-clause-owns : goal.returns-in_ok-with_names-in-Some-clause-owns
returns-in_ok-with_names-in-Some-clause-owns c =
    let a = seen c.args.arena.now in
    let own : OwnsFields a c.in-Some.fields = search rules in
    c.in_ok-with_names-in-Some.ensures.owns a c.requires.given own
