use Rattle.std.proofs.Common.{◌≡◌, ◌++◌, length}
use Rattle.file_load.specs.Programs.{names_in}
use Rattle.render_core.specs.Parts.{file_blocks, scopes_of}
use Rattle.render_core.proofs.parts.programs_of.Given as goal

-- what there is, and behind it what is left, of as many as there are files
abbrev pub invariant-loop-block : goal.invariant-loop-block
invariant-loop-block l = record {
  names : names_in l.programs ++ l.names_left ≡ l.names;
  files : file_blocks l.programs ++ l.rest ≡ l.files;
  scopes : scopes_of l.programs ++ l.scopes_left ≡ l.scopes;
  as_many_names : length l.names_left ≡ length l.rest;
  as_many_scopes : length l.scopes_left ≡ length l.rest;
}

abbrev pub decreases-loop-block : goal.decreases-loop-block
decreases-loop-block l = length l.rest
