use Rattle.object_arena.proofs.Names.{refl, rules, Decides-eqb, bytes_eq-Decides, slice_eq-Decides, DecidesOne, MeansSame}
use Rattle.star_values.specs.contracts.held.HeldPartialEq.TheImpl.{ghosts as held_ghosts}
use Rattle.star_values.specs.contracts.value.ValuePartialEq.TheImpl.{ghosts as value_ghosts}
use Rattle.star_values.specs.declared.held.Held.TheVariants as held
use Rattle.object_arena.proofs.arena.equal_things_are_same.Goals as goal

means : DecidesOne value_ghosts.eq → MeansSame held_ghosts.eq
means d (held.Text v) (held.Text w) = bytes_eq-Decides v.text w.text
means d (held.Tuple vs) (held.Tuple ws) = slice_eq-Decides d vs.items ws.items _ refl
means d (held.Other m) (held.Other n) = Decides-eqb m.number n.number
means d _ _ = (λ t. absurd (search (rules, t)), λ t. absurd t)

pub returns : goal.returns
returns c = means c.equal_values_are_one.ensures
