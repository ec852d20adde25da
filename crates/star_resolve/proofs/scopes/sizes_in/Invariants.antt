use Rattle.std.proofs.Common.{◌≡◌, ◌++◌, drop}
use Rattle.star_resolve.specs.Events.{sizes_in}
use Rattle.star_resolve.proofs.scopes.sizes_in.Given as goal

abbrev pub invariant-loop-event : goal.invariant-loop-event
invariant-loop-event l = l.sizes ++ sizes_in (drop l.event-index l.events) ≡ sizes_in l.events
