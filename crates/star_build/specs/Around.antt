-- What stands around the blocks that code opens.
use Rattle.std.specs.Prelude.{Bool, true, false, List, [], ◌∷◌}
use Rattle.star_grammar.specs.declared.part.Block.{Block}
use Rattle.star_grammar.specs.declared.part.Block.TheVariants as block

-- any block may be open, or none is
abbrev pub outermost : Bool → List Block
outermost true = block.Anywhere ∷ []
outermost false = []
