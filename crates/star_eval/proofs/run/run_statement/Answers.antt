use Rattle.std.proofs.Common.{rules, ap}
use Rattle.std.proofs.lemmas.List.{nil_from_length}
use Rattle.star_blocks.specs.Nested.{ops_of, statement_of}
use Rattle.star_eval.specs.Doing.{op_done, through}
use Rattle.star_eval.specs.Frames.{around_flow}
use Rattle.star_eval.specs.Meets.{state_of}
use Rattle.star_eval.specs.View.{nodes_in, setting_of, waiting_in}
use Rattle.star_eval.proofs.Chaining.{nothing_behind}
use Rattle.star_eval.proofs.Going.{goes}
use Rattle.star_eval.proofs.run.run_statement.Goals as goal

pub returns-then-is_empty : goal.returns-then-is_empty
returns-then-is_empty c =
    let m = c.args.m.now in
    let done = op_done (setting_of m) (statement_of m.code.file c.args.statement.now) (nodes_in m) (state_of m.session) in
    let none = nil_from_length c.args.rest.now (search rules) in
    goes _ c.begin.result c.begin.new.m
    (ap (around_flow m (waiting_in m)) (nothing_behind done (λ k. through (setting_of m) (ops_of m.code.file c.args.rest.now) k) (λ k. ap (λ os. through (setting_of m) (ops_of m.code.file os) k) none)))
    c.begin.ensures
