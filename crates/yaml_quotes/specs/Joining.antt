-- What parts that are still to come make of a folded text.
use Rattle.std.specs.Prelude.{ℕ, Bool, true, false, List, [], ◌∷◌, ◌++◌, string_bytes}
use Rattle.yaml_spec.specs.Bytes.{space}
use Rattle.yaml_spec.specs.Folding.{Part, fold_rest, fold_parts}
use Rattle.yaml_quotes.specs.declared.folding.Folded.{Folded}
use Rattle.yaml_quotes.specs.declared.folding.Joint.{Joint}
use Rattle.yaml_quotes.specs.declared.folding.Joint.TheVariants as joint

-- what is added for the parts from here on
abbrev pub added : Joint → List Part → List ℕ
added joint.Start ps = fold_parts ps
added joint.Break ps = fold_rest false 0 ps
added joint.Joined ps = fold_rest true 0 ps

-- the whole text, where these parts follow
abbrev pub with_parts : Folded → List Part → List ℕ
with_parts f ps = string_bytes f.text ++ added f.joint ps

abbrev pub part_of : List ℕ → Bool → Part
part_of t joined = record { text = t; joined = joined }

abbrev pub is_start : Joint → Bool
is_start joint.Start = true
is_start joint.Break = false
is_start joint.Joined = false

-- what stands before a part that is no empty line
abbrev pub glue : Joint → List ℕ
glue joint.Start = []
glue joint.Break = space ∷ []
glue joint.Joined = []

-- behind a part that is no empty line
abbrev pub joint_after : Bool → Joint
joint_after true = joint.Joined
joint_after false = joint.Break
