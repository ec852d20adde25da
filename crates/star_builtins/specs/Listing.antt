-- What is listed of the pairs of a dict.
use Rattle.builtin_spec.specs.Dicts.{pair_value}
use Rattle.value_spec.specs.Values as plain
use Rattle.star_builtins.specs.declared.dicts.Listed.{Listed}
use Rattle.star_builtins.specs.declared.dicts.Listed.TheVariants as what

-- the key, the value, or a tuple of both
abbrev pub listed : Listed → plain.Value × plain.Value → plain.Value
listed what.Keys q = q.0
listed what.Values q = q.1
listed what.Items q = pair_value q
