use Rattle.std.proofs.Common.{◌≡◌, IsUtf8, length, string_bytes}
use Rattle.star_steps.proofs.Names.{seen, state_in}
use Rattle.text_spec.specs.Fields.{none_met}
use Rattle.star_shown.specs.Pushes.{behind}
use Rattle.star_text.specs.Formatting.{formatted_here, met_in}
use Rattle.star_text.proofs.format.fill.Given as goal

-- the whole is what goes on from what is left
abbrev pub invariant-loop-before : goal.invariant-loop-before
invariant-loop-before l = record {
  same : behind (string_bytes l.fn.made) (formatted_here (seen l.arena) l.place l.args.given.now none_met l.text) (state_in (seen l.arena) l.fn.steps) ≡ behind (string_bytes l.made) (formatted_here (seen l.arena) l.place l.args.given.now (met_in l.met) l.rest) (state_in (seen l.arena) l.steps);
  utf8 : IsUtf8 l.rest;
}

abbrev pub decreases-loop-before : goal.decreases-loop-before
decreases-loop-before l = length l.rest
