-- The keys of a set as the program holds it.
use Rattle.std.specs.Prelude.{Bool, false, if◌then◌else◌, Option, Some, None, Box}
use Rattle.std.specs.Box.{box_value}
use Rattle.std.specs.Global.{Global}
use Rattle.std.specs.HashSet.{contains, contains_text}
use Rattle.std.specs.Ordering.{int_eq}
use Rattle.ytt_base.specs.Trees.{Scalar, null, boolean, integer, string}
use Rattle.yaml_keys.specs.declared.seen.Kinds.{Kinds}
use Rattle.yaml_keys.specs.declared.seen.Seen.{Seen}

-- the key is among these
abbrev pub is_among : Scalar → Kinds → Bool
is_among null s = s.null
is_among (boolean b) s = if b then s.yes else s.no
is_among (integer z) s = contains int_eq s.integers z
is_among (string t) s = contains_text s.texts t

abbrev pub is_among_these : Scalar → Option (Box Kinds Global) → Bool
is_among_these key None = false
is_among_these key (Some b) = is_among key (box_value b)

-- the key is in the set
abbrev pub is_seen : Scalar → Seen → Bool
is_seen key s = is_among_these key s.kinds
