-- A default that is filled in.
use Rattle.std.specs.Prelude.{ℕ, Bool, List, [], ◌∷◌, ◌++◌, if◌then◌else◌}
use Rattle.ytt_base.specs.declared.tree.Key.{Key}
use Rattle.ytt_base.specs.declared.tree.Key.TheVariants as key
use Rattle.ytt_base.specs.declared.tree.Tree.{Tree}

-- the pairs, and a default under a name behind them unless it is there
abbrev pub unless_there : Bool → List (Key × Tree) → (name : List ℕ) → Tree → List (Key × Tree)
unless_there known pairs name tree = if known then pairs else pairs ++ (key.Str name, tree) ∷ []
