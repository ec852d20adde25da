-- What the machine's functions say.
use Rattle.std.specs.Prelude.{◌≡◌, ◌<◌, ℕ, Bool, true, false, List, [], ◌∷◌, Option, Some, None, Result, Ok, Err}
use Rattle.ll.specs.declared.shapes.Shape.{Shape}
use Rattle.ll.specs.Machine as ll
use Rattle.ll.specs.Machine.{State}
use Rattle.ll.specs.Measure as heights
use Rattle.ll.specs.Shapes.{apply, run}
use Rattle.ytt_base.specs.declared.text.Memory.{Memory}
use Rattle.star_grammar.specs.declared.table.Choice.{Choice}
use Rattle.star_grammar.specs.declared.table.Symbol.TheVariants as symbol
use Rattle.star_grammar.specs.declared.table.Terminal.{Terminal}
use Rattle.star_grammar.specs.declared.token.Token.{Token}
use Rattle.star_grammar.specs.Effects.{effect, given, least}
use Rattle.star_grammar.specs.Language.{language, Value, value, with_token, blocks_after}
use Rattle.star_grammar.specs.Machine.{tables, measure}
use Rattle.star_grammar.specs.Table.{action_of}
use Rattle.star_grammar.specs.Trees.{built}
use Rattle.star_machine.specs.declared.machine.Machine.{Machine}
use Rattle.star_machine.specs.declared.machine.Turn.{Turn}
use Rattle.star_machine.specs.declared.machine.Turn.TheVariants as turn
use Rattle.star_machine.specs.declared.pending.Item.{Item}
use Rattle.star_machine.specs.declared.pending.Item.TheVariants as item
use Rattle.star_machine.specs.Pending.{items_of}

abbrev pub value_of : Machine → Value
value_of m = value m.parts m.shapes m.blocks

abbrev pub state_of : Machine → State language
state_of m = ll.state language (items_of m.pending) (value_of m)

-- the state behind a token, with these items
abbrev pub next : Token → List Item → Value → Option (State language)
next k items v = ll.next language tables k (items_of items) v

abbrev pub turns : List Item → ℕ
turns items = ll.turns language tables (items_of items)

abbrev pub finished : Choice → Machine → Machine
finished c m = record { pending = m.pending; parts = built (action_of c) m.parts; shapes = apply (effect c) m.shapes; blocks = m.blocks }

abbrev pub taken : Terminal → Token → Machine → Machine
taken a k m = record { pending = m.pending; parts = with_token a k m.parts; shapes = apply (given a) m.shapes; blocks = blocks_after a m.blocks }

-- a turn with this item went on with the same token and fewer turns to come, took it, or refused it
abbrev pub Turned : Result Turn Memory → Token → Item → (before after : Machine) → Type 0
Turned (Ok turn.On) k x m n = (next k (x ∷ m.pending) (value_of m) ≡ next k n.pending (value_of n)) × (turns n.pending < turns (x ∷ m.pending))
Turned (Ok turn.Taken) k x m n = next k (x ∷ m.pending) (value_of m) ≡ Some (state_of n)
Turned (Ok turn.Refused) k x m n = next k (x ∷ m.pending) (value_of m) ≡ None
Turned (Err e) k x m n = Unit {0}

-- the token was taken, or it may not stand here
abbrev pub Steps : Result Bool Memory → Token → (before after : Machine) → Type 0
Steps (Ok true) k m n = next k m.pending (value_of m) ≡ Some (state_of n)
Steps (Ok false) k m n = next k m.pending (value_of m) ≡ None
Steps (Err e) k m n = Unit {0}

-- ---- heights

abbrev pub passed : Item → List Shape → List Shape
passed (item.Close c) xs = apply (effect c) xs
passed (item.Want (symbol.Token a)) xs = apply (given a) xs
passed (item.Want (symbol.Rule r)) xs = run (least r) xs

abbrev pub along : List Item → List Shape → List Shape
along items shapes = heights.along language measure (items_of items) shapes

abbrev pub weigh : List Item → List Shape → ℕ
weigh items shapes = tables.least (items_of items) (value [] shapes [])
