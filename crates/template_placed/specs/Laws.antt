-- What placing gives is placed.
use Rattle.std.specs.Prelude.{◌≡◌, ℕ, Bool, Ok}
use Rattle.yaml_held.specs.Keyed.{KeyedDocuments}
use Rattle.yaml_spec.specs.Noted.{Documents}
use Rattle.code_spec.specs.CodeReading.{CodeReader}
use Rattle.template_spec.specs.Nesting.{placed_whole}
use Rattle.template_spec.specs.Placed.{Placed}
use Rattle.template_spec.specs.Template.{Items}
use Rattle.template_placed.specs.Kinded.{Kinded}

-- each node of a template has the kind of its collection, and a key where it is a pair
abbrev pub PlacedIsKinded : Type 0
PlacedIsKinded =
    (r : CodeReader) (ignore : Bool) (file : ℕ) (ds : Documents) (t : Items) → KeyedDocuments ds → placed_whole r ignore file ds ≡ Ok t → Kinded t

-- and all of it is placed: each statement stands where it may, too
abbrev pub PlacedIsPlaced : Type 0
PlacedIsPlaced =
    (r : CodeReader) (ignore : Bool) (file : ℕ) (ds : Documents) (t : Items) → KeyedDocuments ds → placed_whole r ignore file ds ≡ Ok t → Placed t
