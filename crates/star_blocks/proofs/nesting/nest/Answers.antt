use Rattle.std.proofs.lemmas.Bool.{false≢true}
use Rattle.star_blocks.proofs.FromEnd.{whole_broken, whole_here, whole_inside}
use Rattle.star_blocks.proofs.nesting.nest.Goals as goal

pub returns-then-is_empty : goal.returns-then-is_empty
returns-then-is_empty c = λ file.
    whole_here file c.in_ok-top.field-0.top c.in_ok-top.field-0.inner c.in-Some.ops _ _ (c.in_ok-top.ensures file)
    c.in-Some.is (c.is_empty.ensures.0 c.if-is_empty.true) c.reversed.ensures

pub returns-in-Some : goal.returns-in-Some
returns-in-Some c = λ file.
    whole_inside file c.in_ok-top.field-0.top c.in_ok-top.field-0.inner _ (c.in_ok-top.ensures file)
    (λ none. false≢true (rw c.if-is_empty.false at (c.is_empty.ensures.1 none)))

pub returns : goal.returns
returns c = λ file. whole_broken file c.in_ok-top.field-0.top c.in_ok-top.field-0.inner _ (c.in_ok-top.ensures file) c.in-None.is
