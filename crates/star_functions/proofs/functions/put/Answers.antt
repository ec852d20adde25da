use Rattle.std.proofs.Common.{nat_eq, sym, ap, ◌∙◌}
use Rattle.indexmap.specs.IndexMap.{get}
use Rattle.star_blocks.specs.Nested.{ops_of}
use Rattle.star_functions.proofs.Files.{passed_over, put_there}
use Rattle.star_functions.proofs.functions.put.Goals as goal
use Rattle.template_meaning.specs.Calls.{ops_function}

pub returns-then-contains_key : goal.returns-then-contains_key
returns-then-contains_key c = λ f k more.
    let b = c.args.program.now in
    passed_over f k b.file b.block more (λ n. get nat_eq c.args.files.now n) (sym c.contains_key.ensures ∙ c.if-contains_key.true)

pub returns : goal.returns
returns c = λ f k more.
    let b = c.args.program.now in
    put_there f k b.file b.block more (λ n. get nat_eq c.args.files.now n) c.in_ok-functions.functions (get nat_eq c.insert.new.self f) (c.in_ok-insert.ensures.updates.0 f) (sym c.contains_key.ensures ∙ c.if-contains_key.false)
    (c.in_ok-functions.ensures f k ∙ ap (λ os. ops_function k (ops_of f os)) c.as_slice.ensures)
