use Rattle.std.proofs.Common.{◌≡◌, ◌++◌, drop, string_bytes}
use Rattle.listing_spec.specs.Listing.{loaded_phrases}
use Rattle.listing_spec.specs.Phrases.{spaced_text}
use Rattle.star_tree.specs.Whole.{loaded_names_of}
use Rattle.listing.proofs.statements.push_names.Given as goal

abbrev pub invariant-loop-name : goal.invariant-loop-name
invariant-loop-name l =
    string_bytes l.out ++ spaced_text (loaded_phrases (loaded_names_of (drop l.name-index l.names))) ≡ string_bytes l.initial.out ++ spaced_text (loaded_phrases (loaded_names_of l.names))
