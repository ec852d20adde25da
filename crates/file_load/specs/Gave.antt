-- What files gave that were loaded, as the definitions keep it: the last one first.
use Rattle.std.specs.Prelude.{◌≡◌, ℕ, List, map as each, Option, Some, None, reverse}
use denote.Ref.{Bor}
use Rattle.star_eval.specs.Finishes.{globals_of}
use Rattle.star_values.specs.Owns.{Each, OwnsFields}
use Rattle.star_values.specs.View.{View}
use Rattle.star_values.specs.declared.value.NamedValue.{NamedValue}
use Rattle.template_meaning.specs.Files.{Globals}
use Rattle.world_spec.specs.Worlds.{given_by}
use Rattle.file_load.specs.declared.given.Given.{Given}

abbrev pub one_given : View → Given → ℕ × Globals
one_given a g = (g.file, globals_of a g.globals)

abbrev pub given_in : View → List Given → List (ℕ × Globals)
given_in a gs = reverse (each (one_given a) gs)

abbrev pub OwnsGiven : View → List Given → Type 0
OwnsGiven a gs = Each (λ g. OwnsFields a g.globals) gs

-- what a file gave, if it was loaded and has ended
abbrev pub FindsGiven : View → List Given → (file : ℕ) → Option (Bor (List NamedValue)) → Type 0
FindsGiven a gs f None = given_by f (given_in a gs) ≡ None
FindsGiven a gs f (Some xs) = (given_by f (given_in a gs) ≡ Some (globals_of a xs.now)) × (OwnsGiven a gs → OwnsFields a xs.now)
