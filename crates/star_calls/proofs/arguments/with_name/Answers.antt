use Rattle.std.proofs.Common.{[], ◌∷◌, subst, sym}
use Rattle.object_arena.specs.Names.{OwnsFields}
use Rattle.star_values.specs.Owns.{OwnsField}
use Rattle.star_values.proofs.Growing.{each_joined}
use Rattle.star_calls.proofs.Behind.{names_put}
use Rattle.star_calls.proofs.arguments.with_name.Goals as goal

pub returns-clause-given : goal.returns-clause-given
returns-clause-given c = λ a. names_put a.held c.args.given.positional c.args.given.named (record { name = c.args.name; value = c.args.value } ∷ []) c.push.new.self c.in_ok-push.ensures.ok

pub returns-clause-owns : goal.returns-clause-owns
returns-clause-owns c = λ a own more. (own.0, subst (OwnsFields a) (sym c.in_ok-push.ensures.ok) (each_joined (OwnsField a) c.args.given.named (record { name = c.args.name; value = c.args.value } ∷ []) own.1 (more, tt)))
