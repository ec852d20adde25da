-- The header of a block scalar, as plain data.
use Rattle.yaml_spec.specs.Blocks as plain
use Rattle.yaml_spec.specs.Blocks.{strip, clip, keep}
use Rattle.yaml_blocks.specs.declared.header.Chomp.{Chomp}
use Rattle.yaml_blocks.specs.declared.header.Chomp.TheVariants as chomp
use Rattle.yaml_blocks.specs.declared.header.Header.{Header}

abbrev pub held_chomp : Chomp → plain.Chomp
held_chomp chomp.Strip = strip
held_chomp chomp.Clip = clip
held_chomp chomp.Keep = keep

abbrev pub header_of : Header → plain.Header
header_of h = record { digit = h.digit; chomp = held_chomp h.chomp; rest = h.rest.now }
