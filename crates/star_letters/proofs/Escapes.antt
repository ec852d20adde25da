-- Hexadecimal digits, two by two.
use Rattle.std.proofs.Common.{◌≡◌, ℕ, List, refl, drop, slice_index}
use Rattle.star_grammar.specs.Pieces.{both, first, hex1, hex2, hex4, hex8}

pub two : (t : List ℕ) → hex2 t ≡ both 16 (hex1 (first t)) (hex1 (slice_index t 1))
unfolding hex2
two t = refl

pub four : (t : List ℕ) → hex4 t ≡ both 256 (hex2 t) (hex2 (drop 2 t))
unfolding hex4
four t = refl

pub eight : (t : List ℕ) → hex8 t ≡ both 65536 (hex4 t) (hex4 (drop 4 t))
unfolding hex8
eight t = refl

pub ruleset digits = (two, four, eight)
