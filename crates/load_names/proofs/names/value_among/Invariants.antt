use Rattle.std.proofs.Common.{◌≡◌, drop}
use Rattle.star_values.specs.Owns.{OwnsFields}
use Rattle.star_values.specs.View.{View}
use Rattle.template_meaning.specs.Files.{value_among}
use Rattle.load_names.specs.Loads.{globals_of}
use Rattle.load_names.proofs.names.value_among.Given as goal

-- the value is that among the ones that are left
abbrev pub invariant-loop-global : goal.invariant-loop-global
invariant-loop-global l = record {
  value : (a : View) → value_among l.name (globals_of a l.globals) ≡ value_among l.name (globals_of a (drop l.global-index l.globals));
  owned : (a : View) → OwnsFields a l.globals → OwnsFields a (drop l.global-index l.globals);
}
