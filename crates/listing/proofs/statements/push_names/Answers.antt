use Rattle.std.proofs.Common.{refl, string_bytes}
use Rattle.listing_spec.specs.Listing.{loaded_phrases}
use Rattle.listing_spec.specs.Phrases.{spaced_text}
use Rattle.star_tree.specs.Whole.{loaded_names_of}
use Rattle.listing.proofs.Forming.{names_first}
use Rattle.listing.proofs.Pushing.{put_done, put_next}
use Rattle.listing.proofs.statements.push_names.Goals as goal

pub loop-name-preserved : goal.loop-name-preserved
loop-name-preserved c =
    put_next _ (string_bytes c.loop-name.out) (string_bytes c.push_name.new.out) c.args.names.now c.loop-name.name-index c.name-item.result (λ xs. spaced_text (loaded_phrases (loaded_names_of xs))) _
    (rw c.as_slice-name-items.ensures at c.loop-name-test.true) (rw c.as_slice-name-items.ensures at c.name-item.is) (λ ys. names_first c.name-item.result ys) c.loop-name.invariant c.in_ok-push_name.ensures

pub returns : goal.returns
returns c =
    put_done _ (string_bytes c.loop-name.out) c.args.names.now c.loop-name.name-index (λ xs. spaced_text (loaded_phrases (loaded_names_of xs)))
    (rw c.as_slice-name-items.ensures at c.loop-name-test.false) refl c.loop-name.invariant
