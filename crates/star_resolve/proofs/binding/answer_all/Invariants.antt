use Rattle.std.proofs.Common.{◌≡◌, ◌++◌, [], Some, drop, reverse, map as each}
use Rattle.star_resolve.specs.Answers.{answers, found_in, refused}
use Rattle.star_resolve.proofs.binding.answer_all.Given as goal

abbrev pub invariant-loop-event : goal.invariant-loop-event
invariant-loop-event l = record {
  bound : each Some l.variables ++ found_in (answers l.globals l.builtins (reverse l.levels) (drop l.event-index l.events)) ≡ found_in (answers l.globals l.builtins [] l.events);
  told : refused (answers l.globals l.builtins (reverse l.levels) (drop l.event-index l.events)) ≡ refused (answers l.globals l.builtins [] l.events);
}
