use Rattle.std.proofs.Common.{sym, ap, ◌∙◌}
use Rattle.file_spec.specs.Names.{is_star, is_yaml_library}
use Rattle.file_units.proofs.Sources.{star_named, yaml_named}
use Rattle.file_units.proofs.source.read_source.Goals as goal

pub returns-then-is_star-clause-read : goal.returns-then-is_star-clause-read
returns-then-is_star-clause-read c =
    star_named c.args.file c.args.ignore_unknown c.args.name.now c.args.bytes.now c.read_code.result (ap is_star (sym c.as_bytes.ensures.value) ∙ sym c.is_star.ensures ∙ c.if-is_star.true) c.read_code.ensures.read

pub returns-clause-read : goal.returns-clause-read
returns-clause-read c =
    yaml_named c.args.file c.args.ignore_unknown c.args.name.now c.args.bytes.now c.read_yaml.result c.is_yaml_library-library.result
    (ap is_star (sym c.as_bytes.ensures.value) ∙ sym c.is_star.ensures ∙ c.if-is_star.false) (c.is_yaml_library-library.ensures ∙ ap is_yaml_library c.as_bytes-2.ensures.value) c.read_yaml.ensures.read
