-- What stands where a block scalar begins (YAML 1.2.2, 8.1).
use Rattle.std.specs.Prelude.{ℕ, Bool, ◌||◌, ◌==◌, List}
use Rattle.yaml_spec.specs.Bytes.{bar, greater, first}

-- `|` or `>`
abbrev pub starts_block : List ℕ → Bool
starts_block t = first t == bar || first t == greater
