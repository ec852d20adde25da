-- The text of a tree that has no members to write.
use Rattle.std.specs.Prelude.{ℕ, List, codes}
use Rattle.ytt_base.specs.Trees.{Tree, scalar, list, map}
use Rattle.yaml_spec.specs.Text.{scalar_text}

-- a scalar, whose lines stand at this indent, or an empty list or map, with the break at its end
abbrev pub line_text : ℕ → Tree → List ℕ
line_text n (scalar s) = scalar_text n s
line_text n (list ts) = codes "[]\n"
line_text n (map ps) = codes "{}\n"
