-- One more child behind those of a collection; a key stands once in a map.
use Rattle.std.specs.Prelude.{Bool, false, ◌||◌, ℕ, List, [], Option, Some, None, if◌then◌else◌, codes, bytes_eq}
use Rattle.ytt_base.specs.declared.fault.FaultKind.TheVariants as kind
use Rattle.ytt_base.specs.declared.fault.Place.{Place}
use Rattle.ytt_base.specs.Trees.{Scalar, same_key}
use Rattle.value_spec.specs.Values.{Child, child, Children, no_children, a_child, BuiltNotes, no_built, a_built, Taken, taken, many}
use Rattle.value_spec.specs.Outcomes.{Computation, give, fail_with, ◌>>=◌}
use Rattle.yaml_spec.specs.Text.{key_text}

abbrev pub keys_equal : Option Scalar → Option Scalar → Bool
keys_equal (Some a) (Some b) = same_key a b
keys_equal _ _ = false

-- the notes let the pair take the place of the one that has its key
abbrev pub overrides : BuiltNotes → Bool
overrides no_built = false
overrides (a_built x given ns) = bytes_eq x (codes "yaml/map-key-override") || overrides ns

-- a key as it is printed
abbrev pub key_shown : Option Scalar → List ℕ
key_shown None = []
key_shown (Some x) = key_text x

abbrev pub in_place_if : {H : Type 0} → Bool → Place → Option Scalar → Children → Computation H Children
in_place_if overridden p x cs = if overridden then give cs else fail_with kind.KeyTwice p (key_shown x)

-- in the place of the one with its key where it overrides, and else KeyTwice
abbrev pub add_child : {H : Type 0} → Children → Child → Computation H Children
add_child no_children c = give (a_child c no_children)
add_child (a_child (child q ms y d) cs) (child p ns x b) =
    if keys_equal y x then in_place_if (overrides ns) p x (a_child (child p ns x b) cs)
    else (add_child cs (child p ns x b) >>= λ all. give (a_child (child q ms y d) all))

abbrev pub add_all : {H : Type 0} → Children → Children → Computation H Children
add_all cs no_children = give cs
add_all cs (a_child c more) = add_child cs c >>= λ all. add_all all more

-- what a node's value gave is one child, or children in its place
abbrev pub add_taken : {H : Type 0} → Children → Place → BuiltNotes → Option Scalar → Taken → Computation H Children
add_taken cs p ns x (taken b) = add_child cs (child p ns x b)
add_taken cs p ns x (many more) = add_all cs more
