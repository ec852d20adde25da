use Rattle.std.proofs.Common.{◌≡◌, IsUtf8, length, string_bytes}
use Rattle.star_steps.proofs.Names.{OwnsAll, seen, state_in, values_of}
use Rattle.text_spec.specs.Percent.{filled}
use Rattle.star_shown.specs.Pushes.{behind}
use Rattle.star_text.proofs.percent.fill.Given as goal

-- the whole is what goes on from what is left
abbrev pub invariant-loop-before : goal.invariant-loop-before
invariant-loop-before l = record {
  same : behind (string_bytes l.fn.made) (filled l.place l.text (values_of (seen l.arena) l.values)) (state_in (seen l.arena) l.fn.steps) ≡ behind (string_bytes l.made) (filled l.place l.rest (values_of (seen l.arena) l.left)) (state_in (seen l.arena) l.steps);
  owns : OwnsAll (seen l.arena) l.left;
  utf8 : IsUtf8 l.rest;
}

abbrev pub decreases-loop-before : goal.decreases-loop-before
decreases-loop-before l = length l.rest
