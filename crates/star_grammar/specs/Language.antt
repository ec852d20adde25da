-- The language: where alternatives and tokens may stand, and what they make of what was read.
use Rattle.std.specs.Prelude.{ℕ, nat_eq, nat_lt, Bool, true, false, not, ◌&&◌, ◌||◌, if◌then◌else◌, List, [], ◌∷◌, length, Some, None, bytes_eq, codes}
use Rattle.ll.specs.declared.shapes.Shape.{Shape}
use Rattle.ll.specs.Grammar as ll
use Rattle.ll.specs.Grammar.{Grammar}
use Rattle.ll.specs.Shapes as shapes
use Rattle.star_tree.specs.declared.code.Expr.{Expr}
use Rattle.star_tree.specs.declared.code.Expr.TheVariants as expr
use Rattle.star_grammar.specs.declared.part.Block.{Block}
use Rattle.star_grammar.specs.declared.part.Block.TheVariants as block
use Rattle.star_grammar.specs.declared.part.Part.{Part}
use Rattle.star_grammar.specs.declared.part.Part.TheVariants as part
use Rattle.star_grammar.specs.declared.table.Choice.{Choice}
use Rattle.star_grammar.specs.declared.table.Choice.TheVariants as choice
use Rattle.star_grammar.specs.declared.table.Kind.{Kind}
use Rattle.star_grammar.specs.declared.table.Kind.TheVariants as kind
use Rattle.star_grammar.specs.declared.table.Rule.{Rule}
use Rattle.star_grammar.specs.declared.table.Symbol.{Symbol}
use Rattle.star_grammar.specs.declared.table.Symbol.TheVariants as symbol
use Rattle.star_grammar.specs.declared.table.Terminal.{Terminal}
use Rattle.star_grammar.specs.declared.table.Terminal.TheVariants as terminal
use Rattle.star_grammar.specs.declared.token.Mark.{Mark}
use Rattle.star_grammar.specs.declared.token.Mark.TheVariants as mark
use Rattle.star_grammar.specs.declared.token.Token.{Token}
use Rattle.star_grammar.specs.declared.token.TokenKind.{TokenKind}
use Rattle.star_grammar.specs.declared.token.TokenKind.TheVariants as token
use Rattle.star_grammar.specs.Table.{head, body, action_of}
use Rattle.star_grammar.specs.Effects.{effect, silent, given, takes}
use Rattle.star_grammar.specs.Parts.{top, params_in, is_name, is_place, nothing}
use Rattle.star_params.specs.Parameters.{has_name, has_star, has_stars, may_be_required}
use Rattle.star_grammar.specs.Trees.{built}

-- the parts that were read, their shapes, and the blocks that are open, the innermost first
pub record Value : Type 0 where
  pub parts : List Part
  pub shapes : List Shape
  pub blocks : List Block

abbrev pub value : List Part → List Shape → List Block → Value
value parts shapes blocks = record { parts = parts; shapes = shapes; blocks = blocks }

-- ---- blocks

abbrev pub max_blocks : ℕ
max_blocks = 50

-- one more may be open
abbrev pub has_room : List Block → Bool
has_room bs = nat_lt (length bs) max_blocks

abbrev pub in_function : List Block → Bool
in_function [] = false
in_function (block.Anywhere ∷ bs) = true
in_function (block.Function ∷ bs) = true
in_function (b ∷ bs) = in_function bs

-- in a loop of the same function
abbrev pub in_loop : List Block → Bool
in_loop [] = false
in_loop (block.Anywhere ∷ bs) = true
in_loop (block.Loop ∷ bs) = true
in_loop (block.Function ∷ bs) = false
in_loop (block.Branch ∷ bs) = in_loop bs

abbrev pub outside : List Block → Bool
outside [] = true
outside (block.Anywhere ∷ bs) = true
outside (b ∷ bs) = false

abbrev pub block_of : Kind → Block
block_of kind.Def = block.Function
block_of kind.For = block.Loop
block_of k = block.Branch

abbrev pub without_last : List Block → List Block
without_last [] = []
without_last (b ∷ bs) = bs

-- the blocks that are open behind a token
abbrev pub blocks_after : Terminal → List Block → List Block
blocks_after (terminal.Enter k) bs = block_of k ∷ bs
blocks_after terminal.Leave bs = without_last bs
blocks_after a bs = bs

-- ---- where an alternative may begin

abbrev pub allowed : Choice → Value → Bool
-- a name, an index, or a tuple or list of targets
allowed choice.Assign v = (shapes.top v.shapes).target
allowed choice.GroupEnd v = (shapes.top v.shapes).target
-- a name or an index
allowed choice.Augment v = is_place (top v.parts) && (shapes.top v.shapes).target
-- a name without brackets
allowed choice.Named v = is_name (top v.parts) && nat_eq (shapes.top v.shapes).high 1
-- nothing stands behind `**x`, one star is enough, and defaults go on
allowed choice.Params v = not (has_stars (params_in (top v.parts)))
allowed choice.StarParam v = not (has_star (params_in (top v.parts)))
allowed choice.NoDefault v = may_be_required (params_in (top v.parts))
allowed choice.Return v = in_function v.blocks
allowed choice.Break v = in_loop v.blocks
allowed choice.Continue v = in_loop v.blocks
allowed choice.Load v = outside v.blocks
allowed choice.DefStmt v = has_room v.blocks
allowed choice.IfStmt v = has_room v.blocks
allowed choice.ForStmt v = has_room v.blocks
allowed c v = true

-- ---- where a token may stand

-- None, True and False are no targets
abbrev pub is_constant : List ℕ → Bool
is_constant x = bytes_eq x (codes "None") || bytes_eq x (codes "True") || bytes_eq x (codes "False")

abbrev pub kind_of_mark : Mark → Kind
kind_of_mark mark.Plus = kind.Sign
kind_of_mark mark.Minus = kind.Sign
kind_of_mark mark.Star = kind.Star
kind_of_mark mark.Stars = kind.Stars
kind_of_mark mark.DoubleSlash = kind.Times
kind_of_mark mark.Percent = kind.Times
kind_of_mark mark.Tilde = kind.Tilde
kind_of_mark mark.Ampersand = kind.Ampersand
kind_of_mark mark.Bar = kind.Bar
kind_of_mark mark.Caret = kind.Caret
kind_of_mark mark.ShiftLeft = kind.Shift
kind_of_mark mark.ShiftRight = kind.Shift
kind_of_mark mark.Equal = kind.Compare
kind_of_mark mark.Unequal = kind.Compare
kind_of_mark mark.Less = kind.Compare
kind_of_mark mark.Greater = kind.Compare
kind_of_mark mark.AtMost = kind.Compare
kind_of_mark mark.AtLeast = kind.Compare
kind_of_mark mark.Assign = kind.Assign
kind_of_mark mark.Comma = kind.Comma
kind_of_mark mark.Colon = kind.Colon
kind_of_mark mark.Semicolon = kind.Semicolon
kind_of_mark mark.Dot = kind.Dot
kind_of_mark mark.Open = kind.Open
kind_of_mark mark.Close = kind.Close
kind_of_mark mark.OpenBracket = kind.OpenBracket
kind_of_mark mark.CloseBracket = kind.CloseBracket
kind_of_mark mark.OpenBrace = kind.OpenBrace
kind_of_mark mark.CloseBrace = kind.CloseBrace
kind_of_mark mark.And = kind.And
kind_of_mark mark.Break = kind.Break
kind_of_mark mark.Continue = kind.Continue
kind_of_mark mark.Def = kind.Def
kind_of_mark mark.Elif = kind.Elif
kind_of_mark mark.Else = kind.Else
kind_of_mark mark.End = kind.EndWord
kind_of_mark mark.For = kind.For
kind_of_mark mark.If = kind.If
kind_of_mark mark.In = kind.In
kind_of_mark mark.Lambda = kind.Lambda
kind_of_mark mark.Load = kind.Load
kind_of_mark mark.Not = kind.Not
kind_of_mark mark.Or = kind.Or
kind_of_mark mark.Pass = kind.Pass
kind_of_mark mark.Return = kind.Return
kind_of_mark mark.LineEnd = kind.LineEnd
kind_of_mark mark.TextEnd = kind.TextEnd
kind_of_mark m = kind.Augment

abbrev pub kind_of_token : TokenKind → Kind
kind_of_token (token.Name x) = if is_constant x then kind.Constant else kind.Name
kind_of_token (token.Int z) = kind.Int
kind_of_token (token.Text t) = kind.Text
kind_of_token (token.Mark m) = kind_of_mark m

abbrev pub name_in : TokenKind → List ℕ
name_in (token.Name x) = x
name_in k = []

-- parameters have distinct names
abbrev pub is_free : Terminal → TokenKind → List Part → Bool
is_free terminal.Param k ps = not (has_name (name_in k) (params_in (top ps)))
is_free a k ps = true

abbrev pub may_stand : Terminal → TokenKind → List Part → Bool
may_stand a k ps = takes a (kind_of_token k) && is_free a k ps

-- ---- what a token makes

abbrev pub leaf : ℕ → TokenKind → Expr
leaf l (token.Name x) = expr.Name l x
leaf l (token.Int z) = expr.Int l z
leaf l (token.Text t) = expr.Text l t
leaf l (token.Mark m) = nothing

abbrev pub mark_of : TokenKind → Mark
mark_of (token.Mark m) = m
mark_of k = mark.Comma

abbrev pub leaf_part : Token → Part
leaf_part k = part.Expr k.line (leaf k.line k.kind)

abbrev pub mark_part : Token → Part
mark_part k = part.Mark k.line (mark_of k.kind)

abbrev pub with_token : Terminal → Token → List Part → List Part
with_token (terminal.Kept a) k ps = mark_part k ∷ ps
with_token (terminal.Passed a) k ps = ps
with_token (terminal.Leaf a) k ps = leaf_part k ∷ ps
with_token terminal.Word k ps = leaf_part k ∷ ps
with_token terminal.Param k ps = leaf_part k ∷ ps
with_token (terminal.Enter a) k ps = mark_part k ∷ ps
with_token terminal.Leave k ps = mark_part k ∷ ps

abbrev pub taken : Terminal → Token → Value → Value
taken a k v = value (with_token a k v.parts) (shapes.apply (given a) v.shapes) (blocks_after a v.blocks)

abbrev pub ended : Choice → Value → Value
ended c v = value (built (action_of c) v.parts) (shapes.apply (effect c) v.shapes) v.blocks

-- ---- the grammar

abbrev pub symbol_of : Symbol → ll.Symbol Terminal Rule
symbol_of (symbol.Token a) = ll.terminal a
symbol_of (symbol.Rule r) = ll.rule r

abbrev pub symbols_of : List Symbol → List (ll.Symbol Terminal Rule)
symbols_of [] = []
symbols_of (x ∷ xs) = symbol_of x ∷ symbols_of xs

abbrev pub language : Grammar
language = record {
  Token = Token;
  Terminal = Terminal;
  Rule = Rule;
  Choice = Choice;
  Value = Value;
  head = head;
  body = λ c. symbols_of (body c);
  allows = allowed;
  shift = λ a k v. if may_stand a k.kind v.parts then Some (taken a k v) else None;
  finish = ended;
  silent = silent;
  height = λ v. (shapes.top v.shapes).high;
}
