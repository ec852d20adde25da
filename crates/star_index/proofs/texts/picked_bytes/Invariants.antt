use Rattle.star_index.proofs.Names.{BytesSoFar, place_count, places_in, string_bytes}
use Rattle.star_index.proofs.texts.picked_bytes.Given as goal

abbrev pub invariant-loop-number : goal.invariant-loop-number
invariant-loop-number l = BytesSoFar l.text (place_count (places_in l.places)) l.places.first l.places.step (string_bytes l.bytes) l.number
