-- What is still to be read, as the machine of the grammar has it.
use Rattle.std.specs.Prelude.{if◌then◌else◌, List, [], ◌∷◌}
use Rattle.ll.specs.Machine as ll
use Rattle.star_grammar.specs.declared.start.Start.{Start}
use Rattle.star_grammar.specs.declared.table.Choice.{Choice}
use Rattle.star_grammar.specs.declared.table.Kind.TheVariants as kind
use Rattle.star_grammar.specs.declared.table.Rule.{Rule}
use Rattle.star_grammar.specs.declared.table.Symbol.{Symbol}
use Rattle.star_grammar.specs.declared.table.Symbol.TheVariants as symbol
use Rattle.star_grammar.specs.declared.table.Terminal.{Terminal}
use Rattle.star_grammar.specs.declared.table.Terminal.TheVariants as terminal
use Rattle.star_grammar.specs.Effects.{silent}
use Rattle.star_grammar.specs.Language.{language, symbol_of}
use Rattle.star_grammar.specs.Reading.{rule_of}
use Rattle.star_grammar.specs.Table.{body}
use Rattle.star_machine.specs.declared.pending.Item.{Item}
use Rattle.star_machine.specs.declared.pending.Item.TheVariants as item

abbrev pub wants_token : Terminal → Item
wants_token a = item.Want (symbol.Token a)

abbrev pub wants_rule : Rule → Item
wants_rule r = item.Want (symbol.Rule r)

abbrev pub wants_end : Choice → Item
wants_end c = item.Close c

abbrev pub wanted : List Symbol → List Item → List Item
wanted [] rest = rest
wanted (x ∷ xs) rest = item.Want x ∷ wanted xs rest

-- the end of an alternative, where it makes something, and then these
abbrev pub ended : Choice → List Item → List Item
ended c rest = if silent c then rest else item.Close c ∷ rest

abbrev pub opened : Choice → List Item → List Item
opened c rest = wanted (body c) (ended c rest)

-- a whole text
abbrev pub begun : Start → List Item
begun s = wants_rule (rule_of s) ∷ wants_token (terminal.Passed kind.TextEnd) ∷ []

abbrev pub item_of : Item → ll.Item language.Terminal language.Rule language.Choice
item_of (item.Want x) = ll.want (symbol_of x)
item_of (item.Close c) = ll.close c

abbrev pub items_of : List Item → ll.Stack language
items_of [] = []
items_of (x ∷ xs) = item_of x ∷ items_of xs
