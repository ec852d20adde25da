-- The plain tree of each form of tree.
use Rattle.std.proofs.Common.{◌≡◌, List, rules, Bool, ℤ, ℕ}
use Rattle.ytt_base.specs.declared.tree.Key.{Key}
use Rattle.ytt_base.specs.declared.tree.Tree as held
use Rattle.ytt_base.specs.declared.tree.Tree.{Tree, the_lemmas}
use Rattle.ytt_base.specs.Trees.{null, boolean, integer, string, scalar, list, map}
use Rattle.ytt_base.specs.View.{tree_of, trees_of, pairs_of}

pub tree_of-Null : tree_of held.Null ≡ scalar null
tree_of-Null = search (rules, the_lemmas)

pub tree_of-Bool : (b : Bool) → tree_of (held.Bool b) ≡ scalar (boolean b)
tree_of-Bool b = search (rules, the_lemmas)

pub tree_of-Int : (z : ℤ) → tree_of (held.Int z) ≡ scalar (integer z)
tree_of-Int z = search (rules, the_lemmas)

pub tree_of-Str : (s : List ℕ) → tree_of (held.Str s) ≡ scalar (string s)
tree_of-Str s = search (rules, the_lemmas)

pub tree_of-List : (ts : List Tree) → tree_of (held.List ts) ≡ list (trees_of ts)
tree_of-List ts = search (rules, the_lemmas)

pub tree_of-Map : (ps : List (Key × Tree)) → tree_of (held.Map ps) ≡ map (pairs_of ps)
tree_of-Map ps = search (rules, the_lemmas)

-- the plain tree, once the form is known
pub ruleset views = (tree_of-Null, tree_of-Bool, tree_of-Int, tree_of-Str, tree_of-List, tree_of-Map)
