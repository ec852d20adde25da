use Rattle.std.proofs.Common.{◌≡◌, ◌++◌, length, map as each, reverse}
use Rattle.render_core.specs.Parts.{gives_in, scope_in}
use Rattle.render_core.proofs.parts.parted.Given as goal

-- what is left, and behind it what was taken
abbrev pub invariant-loop-content : goal.invariant-loop-content
invariant-loop-content l = record {
  scopes : each scope_in l.left ++ reverse l.scopes ≡ each scope_in l.fn.contents;
  outputs : each gives_in l.left ++ reverse l.outputs ≡ each gives_in l.fn.contents;
}

abbrev pub decreases-loop-content : goal.decreases-loop-content
decreases-loop-content l = length l.left
