use Rattle.std.proofs.Common.{subst, sym}
use Rattle.object_arena.specs.Names.{Owns, OwnsAll}
use Rattle.star_values.proofs.Growing.{each_joined}
use Rattle.star_calls.proofs.Behind.{positions_put}
use Rattle.star_calls.proofs.arguments.with_positions.Goals as goal

pub returns-clause-given : goal.returns-clause-given
returns-clause-given c = λ a. positions_put a.held c.args.given.positional c.args.members c.append.new.self c.args.given.named c.in_ok-append.ensures

pub returns-clause-owns : goal.returns-clause-owns
returns-clause-owns c = λ a own more. (subst (OwnsAll a) (sym c.in_ok-append.ensures) (each_joined (Owns a) c.args.given.positional c.args.members own.0 more), own.1)
