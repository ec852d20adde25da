use Rattle.std.proofs.Common.{drop}
use Rattle.star_tree.specs.Whole.{loaded_names_of}
use Rattle.star_values.specs.Owns.{OwnsFields}
use Rattle.star_values.specs.View.{View}
use Rattle.load_names.specs.Loads.{globals_of}
use Rattle.load_names.proofs.Reached.{Got}
use Rattle.load_names.proofs.names.names_loaded.Given as goal

-- the names so far are got, and those from the index on are left
abbrev pub invariant-loop-name : goal.invariant-loop-name
invariant-loop-name l = record {
  got : (a : View) → Got l.place (globals_of a l.globals) (loaded_names_of l.names) (loaded_names_of (drop l.name-index l.names)) (globals_of a l.got) (globals_of a l.fn.got);
  owned : (a : View) → OwnsFields a l.globals → OwnsFields a l.fn.got → OwnsFields a l.got;
}
