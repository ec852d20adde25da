-- The fault of an item whose key stands already in its map.
use Rattle.std.specs.Prelude.{Some}
use Rattle.ytt_base.specs.declared.fault.Fault.{Fault}
use Rattle.ytt_base.specs.declared.fault.FaultKind.TheVariants as kind
use Rattle.yaml_spec.specs.Noted.{Note, key_of}
use Rattle.yaml_spec.specs.Text.{key_text}

abbrev pub key_twice : Note → Fault
key_twice n = record { kind = kind.KeyTwice; place = Some n.place; detail = key_text (key_of n) }
