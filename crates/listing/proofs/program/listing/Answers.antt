use Rattle.std.proofs.Common.{◌++◌, ap, ◌∙◌, string_bytes}
use Rattle.listing_spec.specs.Listing.{listing}
use Rattle.star_tree.specs.Whole.{instructions_of}
use Rattle.listing.proofs.Forming.{instructions_first, no_instructions}
use Rattle.listing.proofs.Pushing.{put_done, put_next}
use Rattle.listing.proofs.program.listing.Goals as goal

pub loop-stmt-init : goal.loop-stmt-init
loop-stmt-init c = ap (λ l. l ++ listing (instructions_of c.args.program.now.file c.args.program.now.code)) c.new-out.ensures.bytes

pub loop-stmt-preserved : goal.loop-stmt-preserved
loop-stmt-preserved c =
    put_next _ (string_bytes c.loop-stmt.out) (string_bytes c.push_instruction.new.out) c.args.program.now.code c.loop-stmt.stmt-index c.stmt-item.result (λ ss. listing (instructions_of c.args.program.now.file ss)) _
    (rw c.as_slice-stmt-items.ensures at c.loop-stmt-test.true) (rw c.as_slice-stmt-items.ensures at c.stmt-item.is) (λ ys. instructions_first c.args.program.now.file c.stmt-item.result ys) c.loop-stmt.invariant c.in_ok-push_instruction.ensures

pub returns : goal.returns
returns c = c.of_string.ensures ∙
    put_done _ (string_bytes c.loop-stmt.out) c.args.program.now.code c.loop-stmt.stmt-index (λ ss. listing (instructions_of c.args.program.now.file ss))
    (rw c.as_slice-stmt-items.ensures at c.loop-stmt-test.false) no_instructions c.loop-stmt.invariant
