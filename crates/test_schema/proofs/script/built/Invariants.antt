use Rattle.node_build.specs.View.{OwnsNodes}
use Rattle.star_values.specs.Objects.{seen}
use Rattle.test_schema.proofs.script.built.Given as goal

abbrev pub invariant-loop-command : goal.invariant-loop-command
invariant-loop-command l = OwnsNodes (seen l.arena) l.builder
