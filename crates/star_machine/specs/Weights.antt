-- How much higher what waits makes a tree, and what is known of a text's height.
use Rattle.std.specs.Prelude.{◌≡◌, ◌≤◌, ◌+◌, ℕ, max, Bool, true, List, [], ◌∷◌, length, Result, Ok, Err}
use Rattle.ll.specs.declared.shapes.Effect.{Effect}
use Rattle.ll.specs.declared.shapes.Effect.TheVariants as gives
use Rattle.ll.specs.declared.shapes.Shape.{Shape}
use Rattle.ll.specs.Shapes.{highest, top}
use Rattle.ytt_base.specs.declared.text.Memory.{Memory}
use Rattle.star_grammar.specs.declared.table.Choice.{Choice}
use Rattle.star_grammar.specs.declared.table.Choice.TheVariants as choice
use Rattle.star_grammar.specs.declared.table.Symbol.TheVariants as symbol
use Rattle.star_grammar.specs.Effects.{effect, least}
use Rattle.star_grammar.specs.Reading.{max_height}
use Rattle.star_machine.specs.declared.growth.Growth.{Growth}
use Rattle.star_machine.specs.declared.growth.Growth.TheVariants as grows
use Rattle.star_machine.specs.declared.machine.Machine.{Machine}
use Rattle.star_machine.specs.declared.machine.Turn.{Turn}
use Rattle.star_machine.specs.declared.machine.Turn.TheVariants as turn
use Rattle.star_machine.specs.declared.pending.Item.{Item}
use Rattle.star_machine.specs.declared.pending.Item.TheVariants as item
use Rattle.star_machine.specs.declared.weight.Weight.{Weight}
use Rattle.star_machine.specs.Turns.{weigh}

-- by how much a tree is higher than its highest part
abbrev pub rise : Effect → ℕ
rise (gives.Node n f) = 1
rise e = 0

abbrev pub rises_in : List Effect → ℕ
rises_in [] = 0
rises_in (e ∷ es) = rise e + rises_in es

-- how many levels an item puts on a tree that stands before it
abbrev pub rise_of : Item → ℕ
rise_of (item.Close c) = rise (effect c)
rise_of (item.Want (symbol.Token a)) = 0
rise_of (item.Want (symbol.Rule r)) = rises_in (least r)

abbrev pub rises : List Item → ℕ
rises [] = 0
rises (x ∷ xs) = rise_of x + rises xs

-- what an alternative makes, beside the least that its rule does
abbrev pub growth : Choice → Growth
growth choice.IfStmt = grows.New 1 0
growth choice.ForStmt = grows.New 1 0
growth choice.Elif = grows.New 1 0
growth choice.HeaderIf = grows.New 1 0
growth choice.HeaderElif = grows.New 1 0
growth choice.HeaderFor = grows.New 1 0
growth choice.Return = grows.New 1 0
growth choice.Load = grows.New 1 0
growth choice.Statement = grows.New 1 0
growth choice.Assign = grows.New 1 0
growth choice.Augment = grows.New 1 0
growth choice.LoadText = grows.New 1 0
growth choice.LoadNamed = grows.New 1 0
growth choice.Params = grows.New 1 0
growth choice.ExprComma = grows.Above 1
growth choice.ExprNext = grows.New 1 0
growth choice.Lambda = grows.New 2 1
growth choice.IfElse = grows.Above 1
growth choice.OrMore = grows.Above 1
growth choice.AndMore = grows.Above 1
growth choice.Not = grows.New 2 1
growth choice.Compare = grows.Above 1
growth choice.CompareIn = grows.Above 1
growth choice.CompareNotIn = grows.Above 1
growth choice.BarMore = grows.Above 1
growth choice.CaretMore = grows.Above 1
growth choice.AmpersandMore = grows.Above 1
growth choice.ShiftMore = grows.Above 1
growth choice.SumMore = grows.Above 1
growth choice.ProductMore = grows.Above 1
growth choice.Signed = grows.New 2 1
growth choice.Inverted = grows.New 2 1
growth choice.SuffixMore = grows.Above 1
growth choice.At = grows.New 1 0
growth choice.IndexComma = grows.Above 1
growth choice.Given = grows.New 1 0
growth choice.Grouped = grows.New 2 1
growth choice.Listed = grows.New 1 1
growth choice.Dicted = grows.New 1 1
growth choice.Members = grows.New 1 0
growth choice.ListFor = grows.New 1 0
growth choice.Elements = grows.New 1 0
growth choice.Entries = grows.New 1 0
growth choice.DictFor = grows.New 1 0
growth choice.Pairs = grows.New 1 0
growth choice.ClauseFor = grows.New 1 0
growth choice.ClauseIf = grows.New 1 0
growth choice.Args = grows.New 1 0
growth choice.StarArg = grows.New 2 1
growth choice.StarsArg = grows.New 2 1
growth choice.Named = grows.Above 1
growth choice.TargetsComma = grows.Above 1
growth choice.TargetsNext = grows.New 1 0
growth choice.TargetConstant = grows.New 2 1
growth choice.TargetInt = grows.New 2 1
growth choice.TargetText = grows.New 2 1
growth choice.TargetGroup = grows.New 2 1
growth choice.TargetList = grows.New 1 1
growth choice.TargetDict = grows.New 2 2
growth choice.TargetIndex = grows.Above 1
growth choice.TargetDot = grows.Above 2
growth choice.TargetCall = grows.Above 2
growth choice.MustDot = grows.Above 1
growth choice.MustCall = grows.Above 1
growth choice.TargetFrom = grows.Around 1
growth choice.TargetComma = grows.Above 1
growth choice.TargetSlice = grows.Around 1
growth choice.GroupDot = grows.Above 2
growth choice.GroupCall = grows.Above 2
growth choice.GroupFrom = grows.Around 2
growth choice.GroupComma = grows.Above 1
growth choice.GroupSlice = grows.Around 2
growth c = grows.None

-- how many levels more an alternative puts on a tree than its rule does at least
abbrev pub added : Growth → ℕ
added grows.None = 0
added (grows.New high levels) = levels
added (grows.Above levels) = levels
added (grows.Around levels) = levels

-- How high a tree is at most that an alternative makes behind these, below the levels that its rule puts on at least.
abbrev pub grown : Growth → List Shape → ℕ
grown grows.None xs = 0
grown (grows.New high levels) xs = high
grown (grows.Above levels) xs = max (top xs).high 1 + levels
grown (grows.Around levels) xs = highest (length xs) xs + levels

-- The weight counts the levels, and says that a text is low only where one is that goes on so, and these are few.
pub record Weighed (w : Weight) (items : List Item) (shapes : List Shape) : Type 0 where
  pub counted : w.rises ≡ rises items
  pub low : w.low ≡ true → weigh items shapes ≤ max_height
  pub few : w.low ≡ true → w.rises ≤ max_height

-- this holds, unless the token was refused or there was no room
abbrev pub OnTurn : Result Turn Memory → Type 0 → Type 0
OnTurn (Ok turn.On) P = P
OnTurn (Ok turn.Taken) P = P
OnTurn (Ok turn.Refused) P = Unit {0}
OnTurn (Err e) P = Unit {0}

-- what was known before a turn with this item is known behind it
abbrev pub StaysWeighed : Result Turn Memory → Item → (before after : Machine) → Type 0
StaysWeighed t x m n = (w : Weight) → Weighed w (x ∷ m.pending) m.shapes → OnTurn t (Weighed w n.pending n.shapes)

-- this holds, where the token was taken
abbrev pub OnTaken : Result Bool Memory → Type 0 → Type 0
OnTaken (Ok true) P = P
OnTaken _ P = Unit {0}
