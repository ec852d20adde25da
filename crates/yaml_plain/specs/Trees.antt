-- What was read of a plain scalar.
use Rattle.std.specs.Prelude.{Ok}
use Rattle.ytt_base.specs.Outcomes.{Outcome}
use Rattle.ytt_base.specs.Trees.{Scalar, Tree, scalar}
use Rattle.yaml_spec.specs.Quotes.{Cursor}

-- a scalar as a tree, with the place behind it
abbrev pub as_tree : Scalar × Cursor → Outcome (Tree × Cursor)
as_tree s = Ok (scalar s.0, s.1)
