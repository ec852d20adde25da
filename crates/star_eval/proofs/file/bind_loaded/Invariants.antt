use Rattle.std.proofs.Common.{◌≡◌, length}
use Rattle.star_values.specs.Objects.{env_in}
use Rattle.star_values.specs.Owns.{Grows, OwnsEnv, OwnsFields}
use Rattle.template_meaning.specs.Files.{bind_loaded}
use Rattle.star_eval.specs.Finishes.{globals_of}
use Rattle.star_eval.specs.Meets.{arena_of, state_of}
use Rattle.star_eval.proofs.file.bind_loaded.Given as goal

-- the names that are left are bound from here
abbrev pub invariant-loop-first : goal.invariant-loop-first
invariant-loop-first l = record {
  same : bind_loaded (globals_of (arena_of l.fn.session) l.loaded) (env_in (arena_of l.fn.session).held l.scope) (state_of l.fn.session)
      ≡ bind_loaded (globals_of (arena_of l.session) l.rest) (env_in (arena_of l.session).held l.scope) (state_of l.session);
  held : (arena_of l.session).held ≡ (arena_of l.fn.session).held;
  scope : OwnsEnv (arena_of l.session) l.scope;
  rest : OwnsFields (arena_of l.session) l.rest;
  grows : Grows (arena_of l.fn.session) (arena_of l.session);
  work : l.session.work ≡ l.fn.session.work;
}

abbrev pub decreases-loop-first : goal.decreases-loop-first
decreases-loop-first l = length l.rest
