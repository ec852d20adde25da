use Rattle.std.proofs.Common.{◌≡◌, ◌+◌, suc, [], length, reverse}
use Rattle.ytt_base.specs.View.{trees_of}
use Rattle.file_load.specs.Gave.{OwnsGiven}
use Rattle.file_load.specs.Seen.{world_of}
use Rattle.star_eval.specs.Meets.{arena_of}
use Rattle.world_spec.specs.Parts.{at_start, outcome_of}
use Rattle.render_core.proofs.Gathered.{put_before}
use Rattle.render_core.specs.Runs.{all_documents, files_in}
use Rattle.render_core.proofs.running.run_all.Given as goal

-- what is left, behind the documents that there are, is the whole
abbrev pub invariant-loop-output : goal.invariant-loop-output
invariant-loop-output l = record {
  given : OwnsGiven (arena_of l.session) l.modules;
  count : l.place + length l.left ≡ length l.programs;
  depth : l.session.work.depth ≡ l.fn.budget.depth;
  whole : outcome_of (all_documents (files_in l.functions l.programs l.fn.budget.depth) 1 (reverse l.fn.left) (at_start l.fn.budget.steps))
      ≡ outcome_of (put_before (trees_of l.trees) (all_documents (files_in l.functions l.programs l.fn.budget.depth) (suc l.place) (reverse l.left) (world_of l.session l.modules [])));
}

abbrev pub decreases-loop-output : goal.decreases-loop-output
decreases-loop-output l = length l.left
