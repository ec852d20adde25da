-- The comments that a row passes on to what stands in it.
use Rattle.std.proofs.Common.{◌≡◌, ◌<◌, List, [], ◌∷◌, length, refl, arith, if◌then◌else◌}
use Rattle.yaml_spec.specs.Bytes.{is_empty}
use Rattle.yaml_spec.specs.Noted.{Comment}
use Rattle.yaml_rows.specs.declared.row.Head as held
use Rattle.yaml_rows.specs.View.{heads_of}

pub no_passing : (hs : List held.Head) (before : List Comment) → 0 < length hs → (if is_empty (heads_of hs) then before else []) ≡ []
no_passing [] before h = absurd (omega arith)
no_passing (x ∷ hs) before h = refl
