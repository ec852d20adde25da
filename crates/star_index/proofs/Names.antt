-- The names that answers cite, passed on from one place. Declares nothing.
pub use Rattle.index_spec.specs.Index.{absent_field}
pub use Rattle.star_fragments.specs.Fragments.{children_at}
pub use Rattle.star_fragments.proofs.Held.{body_there}
pub use Rattle.star_index.proofs.Bytes.{BytesSoFar, bytes_begin, bytes_done, bytes_next, bytes_refused, cut_at_once}
pub use Rattle.star_index.proofs.Characters.{whole}
pub use Rattle.star_index.proofs.Counts.{place_below, sliced_among, sliced_few}
pub use Rattle.star_index.proofs.Ends.{gives_made, gives_object, gives_refused, gives_value}
pub use Rattle.star_index.proofs.KeyLevels.{is_key, within_unless_offence}
pub use Rattle.star_index.proofs.Members.{absent_row, absent_scalar, element_row, entry_row, scalar_of}
pub use Rattle.star_index.proofs.Picks.{members_taken, picked_each, picked_next}
pub use Rattle.star_index.proofs.Quoting.{closed_more, closed_one, has_no_escape, quoted_next, tuple_shown}
pub use Rattle.star_index.proofs.Rows.{as_text_value, character_found, field_row, key_row, list_cut, list_row, other_field, range_row, text_cut, text_row, tuple_cut, tuple_row}
pub use Rattle.star_integers.proofs.Progressions.{number_passed}
pub use Rattle.star_index.specs.Cuts.{AreAmong, Refuses, character, cut_in, places_in}
pub use Rattle.star_steps.proofs.Names.{AreKeysWithin, Err, FitsSigned, IsCharBoundary, None, Owns, OwnsAll, Some, YieldsList-end, YieldsList-from_chars, ap, arith, as_is, as_scalar, body_at, body_under, by_place, child_count, closed, done, drop, encode_utf8, encode_utf8_all, encodes-chars, fail, false, fields_in, fragment_value, get_or, give_tuple, gives_same, index_row, is_whole, item_kind_of, key_offence, key_texts, length, length-map, map-id, max_depth, meets_same, min, missing, more_texts, new_list, number_at, picked, place_among, place_count, pos, quoted_bytes, refl, rules, seen, slice_get, slice_get-get_or, state_in, string_bytes, subst, sym, take, text_value, then_do, to_z-of_z, true, tuple_of, value_of, values_from, values_of, w128, gives_stop}
