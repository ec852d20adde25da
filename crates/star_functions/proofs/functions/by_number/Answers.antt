use Rattle.std.proofs.Common.{ap, sym, ℕ, nat_eq, ◌++◌, ◌∙◌}
use Rattle.std.specs.Option.{option_map}
use Rattle.indexmap.specs.IndexMap.{get}
use Rattle.star_blocks.specs.Nested.{ops_of}
use Rattle.star_functions.proofs.Indexing.{indexed_all, indexed_turn, inserted, kept}
use Rattle.star_functions.proofs.Looking.{first_in_ops}
use Rattle.star_functions.specs.Numbered.{first_with, ops_functions}
use Rattle.star_functions.specs.View.{all_of}
use Rattle.star_functions.proofs.functions.by_number.Goals as goal
use Rattle.star_functions.proofs.functions.by_number.Goals.{then-not-contains_key+in_ok-function+in_ok-insert+in-Some-1, then-not-contains_key+in_ok-function+in_ok-insert+in-None-1, else-not-contains_key}

pub returns : goal.returns
returns c = λ file k.
    let os = ops_of file c.args.block.now in
    indexed_all file k c.as_slice-numbered-items.result.now c.loop-numbered.numbered-index (option_map (λ f. f.code) (get nat_eq c.loop-numbered.by_number k)) _ c.loop-numbered-test.false (c.loop-numbered.invariant file k)
    ∙ ap (λ fs. first_with k (all_of file fs)) c.as_slice-numbered-items.ensures
    ∙ ap (first_with k) (c.in_ok-find_in_block.ensures file)
    ∙ ap (λ fs. first_with k (all_of file fs ++ ops_functions os)) c.new-found.ensures
    ∙ first_in_ops k os

pub loop-numbered-preserved : goal.loop-numbered-preserved
loop-numbered-preserved c = λ file k.
    let old = λ (q : ℕ). get nat_eq c.loop-numbered.by_number q in
    let x = c.numbered-item.result in
    let new = get nat_eq c.if-not-contains_key.by_number k in
    indexed_turn file k x old c.as_slice-numbered-items.result.now c.loop-numbered.numbered-index new _ c.loop-numbered-test.true c.numbered-item.is
    (elim c.if-not-contains_key.branch [
      | then-not-contains_key+in_ok-function+in_ok-insert+in-Some-1 w ↦
          inserted file k x old _ new (sym c.contains_key.ensures ∙ w.if-not-contains_key.true) w.in_ok-function.ensures (ap (λ m. get nat_eq m k) w.by_number-is ∙ w.in_ok-insert.ensures.updates.0 k)
      | then-not-contains_key+in_ok-function+in_ok-insert+in-None-1 w ↦
          inserted file k x old _ new (sym c.contains_key.ensures ∙ w.if-not-contains_key.true) w.in_ok-function.ensures (ap (λ m. get nat_eq m k) w.by_number-is ∙ w.in_ok-insert.ensures.updates.0 k)
      | else-not-contains_key w ↦ rw w.by_number-is (kept file k x old (sym c.contains_key.ensures ∙ w.if-not-contains_key.false))
    ])
    (c.loop-numbered.invariant file k)
