-- A value by what begins it.
use Rattle.std.proofs.Common.{◌≡◌, ℕ, true, false, List, refl}
use Rattle.ytt_base.specs.declared.fault.Place.{Place}
use Rattle.yaml_spec.specs.Flow.{starts_collection}
use Rattle.yaml_spec.specs.Noted.{Comment}
use Rattle.yaml_spec.specs.Openers.{starts_block}
use Rattle.yaml_spec.specs.Quotes.{Cursor, starts_quote}
use Rattle.yaml_spec.specs.Values.{value}
use Rattle.yaml_rows.specs.Pieces.{block_value}

pub value-block : (left : ℕ) (open_place : Place) (least owner : ℕ) (comments : List Comment) (c : Cursor) → starts_collection c.text ≡ false → starts_quote c.text ≡ false → starts_block c.text ≡ true
    → value left open_place least owner comments c ≡ block_value least owner comments c
unfolding value block_value
value-block left open_place least owner comments c no_collection no_quote block = rw (value, no_collection, no_quote, block) refl
