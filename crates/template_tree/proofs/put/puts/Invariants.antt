use Rattle.std.proofs.Common.{◌≡◌, ℕ, ◌++◌, [], drop, reverse}
use Rattle.template_events.specs.View.{rows_of}
use Rattle.template_tree.specs.Puts.{befores_of, puts_of}
use Rattle.template_tree.specs.Marked.{puts_at}
use Rattle.template_tree.proofs.put.puts.Given as goal

abbrev pub invariant-loop-level : goal.invariant-loop-level
invariant-loop-level l =
    (file : ℕ) → puts_of file l.puts ++ puts_at (drop l.level-index l.levels) (befores_of file l.waiting) (rows_of file (reverse l.left.items)) ≡ puts_at l.levels [] (rows_of file (reverse l.initial.left.items))
