use Rattle.std.proofs.Common.{◌≡◌, drop}
use Rattle.star_tree.specs.Whole.{loaded_names_of}
use Rattle.template_meaning.specs.Files.{private_among}
use Rattle.load_names.proofs.names.private_among.Given as goal

abbrev pub invariant-loop-name : goal.invariant-loop-name
invariant-loop-name l = private_among (loaded_names_of l.names) ≡ private_among (loaded_names_of (drop l.name-index l.names))
