use Rattle.std.proofs.Common.{◌∙◌, ◌++◌, ap, arith, drop, ◌+◌, sym, List, ℕ, reverse}
use Rattle.template_events.specs.View.{rows_of}
use Rattle.template_tree.specs.Puts.{befores_of, puts_of}
use Rattle.template_tree.specs.Marked.{puts_at}
use Rattle.template_tree.proofs.Putting.{level_at, puts_end}
use Rattle.template_tree.proofs.put.puts.Goals as goal

pub loop-level-preserved : goal.loop-level-preserved
loop-level-preserved c = λ file.
    c.in_ok-waiting.ensures file (drop (c.loop-level.level-index + 1) c.args.levels.now)
    ∙ ap (λ (ds : List ℕ). puts_of file c.loop-level.puts ++ puts_at ds (befores_of file c.loop-level.waiting) (rows_of file (reverse c.loop-level.left.items))) (sym (level_at c.args.levels.now c.loop-level.level-index _ (omega arith)))
    ∙ c.loop-level.invariant file

pub returns : goal.returns
returns c = λ file. puts_end file c.args.levels.now c.loop-level.level-index (befores_of file c.loop-level.waiting) c.loop-level.left.items c.args.rows.items _ _ (omega arith) c.reverse.ensures.items (c.loop-level.invariant file)
