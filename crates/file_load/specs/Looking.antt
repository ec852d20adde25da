-- What there is under a path, as plain data.
use Rattle.std.specs.Prelude.{◌≡◌, ℕ, List}
use Rattle.code_spec.specs.Code.{Name}
use Rattle.module_spec.specs.Modules.{module_in, modules}
use Rattle.star_eval.specs.Finishes.{globals_of}
use Rattle.star_values.specs.Owns.{Grows, OwnsFields}
use Rattle.star_values.specs.View.{View}
use Rattle.template_meaning.specs.Files.{Loading, loaded, missing, not_begun, under_way}
use Rattle.world_spec.specs.Worlds.{looked_up, module_loading}
use Rattle.file_load.specs.Gave.{OwnsGiven}
use Rattle.file_load.specs.Programs.{Stands, names_in}
use Rattle.file_load.specs.Seen.{kept_of}
use Rattle.file_load.specs.declared.given.Given.{Given}
use Rattle.file_load.specs.declared.looking.Found.{Found}
use Rattle.file_load.specs.declared.looking.Found.TheVariants as found
use Rattle.file_load.specs.declared.programs.Program.{Program}
use Rattle.file_load.specs.declared.statements.Load.{Load}

abbrev pub loading_of : View → Found → Loading
loading_of a found.Missing = missing
loading_of a found.UnderWay = under_way
loading_of a (found.Given gs) = loaded (globals_of a gs.now)
loading_of a (found.Module gs) = loaded (globals_of a gs)
loading_of a (found.NotBegun p) = not_begun p.block.now.file

-- what is found is owned: values by the arena, and a program by these
abbrev pub OwnsFound : List Program → View → Found → Type 0
OwnsFound ps a (found.Given gs) = OwnsFields a gs.now
OwnsFound ps a (found.Module gs) = OwnsFields a gs
OwnsFound ps a (found.NotBegun p) = Stands ps p
OwnsFound ps a _ = Unit {0}

-- the module of a name, made in the arena
pub record FindsModule (x : Name) (after before : View) (f : Found) : Type 0 where
  pub meaning : loading_of after f ≡ module_loading (module_in x modules)
  pub owned : (ps : List Program) → OwnsFound ps after f
  pub store : after.store ≡ before.store
  pub grows : Grows before after

-- what the definitions find under the path of a load statement, where files gave this, and these are under way
pub record LooksUp (ps : List Program) (gs : List Given) (begun : List ℕ) (l : Load) (after before : View) (f : Found) : Type 0 where
  pub meaning : loading_of after f ≡ looked_up (names_in ps) l.place l.path.now (kept_of after gs begun)
  pub owned : OwnsGiven after gs → OwnsFound ps after f
  pub store : after.store ≡ before.store
  pub grows : Grows before after
