-- The places of rules and of alternatives in the order of the grammar.
use Rattle.std.specs.Prelude.{ℕ}
use Rattle.star_grammar.specs.declared.table.Choice.{Choice}
use Rattle.star_grammar.specs.declared.table.Rule.{Rule}
use Rattle.star_grammar.specs.contracts.table.Choice as choice
use Rattle.star_grammar.specs.contracts.table.Rule as rule
use denote.Enum.Declared.{tag_of}

abbrev pub rule_place : Rule → ℕ
rule_place r = tag_of rule.the_type r

abbrev pub choice_place : Choice → ℕ
choice_place c = tag_of choice.the_type c
