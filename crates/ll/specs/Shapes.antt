-- How high the trees on a stack are, and whether they are targets.
use Rattle.std.specs.Prelude.{ℕ, zero, suc, ◌-◌, ◌^◌, min, max, Bool, true, false, ◌&&◌, if◌then◌else◌, List, [], ◌∷◌}
use Rattle.ll.specs.declared.shapes.Shape.{Shape}
use Rattle.ll.specs.declared.shapes.Flag.{Flag}
use Rattle.ll.specs.declared.shapes.Flag.TheVariants as is
use Rattle.ll.specs.declared.shapes.Effect.{Effect}
use Rattle.ll.specs.declared.shapes.Effect.TheVariants as effect

abbrev pub shape : ℕ → Bool → Shape
shape high target = record { high = high; target = target }

-- the innermost, and those around it: nothing stands below the last
abbrev pub top : List Shape → Shape
top [] = shape 0 false
top (x ∷ xs) = x

abbrev pub under : List Shape → List Shape
under [] = []
under (x ∷ xs) = xs

abbrev pub past : ℕ → List Shape → List Shape
past zero xs = xs
past (suc n) xs = past n (under xs)

-- the height of the highest of so many, and whether each is a target
abbrev pub highest : ℕ → List Shape → ℕ
highest zero xs = 0
highest (suc n) xs = max (top xs).high (highest n (under xs))

abbrev pub all_targets : ℕ → List Shape → Bool
all_targets zero xs = true
all_targets (suc n) xs = (top xs).target && all_targets n (under xs)

abbrev pub flagged : Flag → (parts : Bool) → Bool
flagged is.Never b = false
flagged is.Always b = true
flagged is.All b = b

-- one level higher, up to the greatest number that is kept
abbrev pub raised : ℕ → ℕ
raised h = max h (min (suc h) (2 ^ 32 - 1))

abbrev pub apply : Effect → List Shape → List Shape
apply effect.Keep xs = xs
apply (effect.Push n f) xs = shape n (flagged f true) ∷ xs
apply (effect.Node n f) xs = shape (raised (highest n xs)) (flagged f (all_targets n xs)) ∷ past n xs
apply (effect.Beside n f) xs = shape (highest n xs) (flagged f (all_targets n xs)) ∷ past n xs
apply effect.Floor xs = shape (max (top xs).high 1) (top xs).target ∷ under xs

abbrev pub run : List Effect → List Shape → List Shape
run [] xs = xs
run (e ∷ es) xs = run es (apply e xs)
