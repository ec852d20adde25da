use Rattle.std.proofs.Common.{◌≡◌, ◌++◌, drop}
use Rattle.ytt_base.specs.Outcomes.{place_at}
use Rattle.star_tree.specs.Whole.{loaded_names_of}
use Rattle.star_resolve.specs.Events.{loaded_events}
use Rattle.star_resolve.proofs.program.put_loaded.Given as goal

abbrev pub invariant-loop-each : goal.invariant-loop-each
invariant-loop-each l =
    l.events ++ loaded_events (place_at l.file l.line) (loaded_names_of (drop l.each-index l.loaded)) ≡ l.initial.events ++ loaded_events (place_at l.file l.line) (loaded_names_of l.loaded)
