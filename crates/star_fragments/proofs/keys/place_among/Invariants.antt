use Rattle.star_steps.proofs.Names.{◌≡◌, List, drop, body_under, built_in}
use Rattle.value_spec.specs.Values as plain
use Rattle.star_fragments.specs.Nodes.{scalar_in}
use Rattle.star_fragments.proofs.keys.place_among.Given as goal

abbrev pub invariant-loop-at : goal.invariant-loop-at
invariant-loop-at l = (held : List plain.Value) → body_under (scalar_in l.wanted) (built_in held l.items) ≡ body_under (scalar_in l.wanted) (built_in held (drop l.at l.items))
