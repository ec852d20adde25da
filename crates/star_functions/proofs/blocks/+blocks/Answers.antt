use Rattle.std.proofs.Common.{List, ◌++◌}
use Rattle.star_blocks.specs.Nested.{arms_of, ops_of}
use Rattle.star_blocks.specs.declared.block.Arm.{Arm}
use Rattle.star_functions.proofs.Finding.{In, found_both, found_same, found_then, in_code, in_else, in_test, of_assign, of_augment, of_expr, of_for, of_function, of_if, of_return, pushed}
use Rattle.star_resolve.proofs.Putting.{put_next}
use Rattle.star_functions.proofs.Walking.{put_last}
use Rattle.star_functions.specs.Numbered.{arms_functions, ops_functions}
use Rattle.star_functions.specs.View.{all_of}
use Rattle.star_functions.proofs.blocks.+blocks.Goals as goal

pub find_in_arms-returns-in-Else : goal.find_in_arms-returns-in-Else
find_in_arms-returns-in-Else t c = λ file.
    put_last c.find_in_block-in-Else.result _ (all_of file c.loop-arm.found) (all_of file c.find_in_block-in-Else.new.found) c.args.arms.now c.loop-arm.arm-index c.arm-item.result
    (λ (bs : List Arm). arms_functions (arms_of file bs)) (ops_functions (ops_of file c.as_slice-in-Else.result.now))
    c.loop-arm-test.true c.arm-item.is (in_else file _ _ _ c.in-Else.is c.as_slice-in-Else.ensures) (c.loop-arm.invariant file) (c.find_in_block-in-Else.ensures file)

pub find_in_arms-loop-arm-preserved : goal.find_in_arms-loop-arm-preserved
find_in_arms-loop-arm-preserved t c = λ file.
    put_next _ (all_of file c.loop-arm.found) (all_of file c.find_in_block.new.found) c.args.arms.now c.loop-arm.arm-index c.arm-item.result
    (λ (bs : List Arm). arms_functions (arms_of file bs)) (In file c.get.result.now ++ ops_functions (ops_of file c.as_slice.result.now))
    c.loop-arm-test.true c.arm-item.is (in_test file _ _ _ _ _ c.in-Test.is c.get.ensures c.as_slice.ensures) (c.loop-arm.invariant file)
    (found_both file c.loop-arm.found c.find_in_expr.new.found c.find_in_block.new.found _ _ (c.in_ok-find_in_expr-in-Test.ensures file) (c.in_ok-find_in_block-in-Test.ensures file))

pub find_in_op-returns-in-Code : goal.find_in_op-returns-in-Code
find_in_op-returns-in-Code t c = λ file.
    found_same file c.find_in_statement.result c.args.found.now c.find_in_statement.new.found _ _ (c.find_in_statement.ensures file) (in_code file _ _ c.in-Code.is)

pub find_in_statement-returns-in-Expr : goal.find_in_statement-returns-in-Expr
find_in_statement-returns-in-Expr t c = λ file.
    found_same file c.find_in_expr.result c.args.found.now c.find_in_expr.new.found _ _ (c.find_in_expr.ensures file) (of_expr file _ _ _ _ c.in-Expr.is c.get.ensures)

pub find_in_statement-returns-in-Return : goal.find_in_statement-returns-in-Return
find_in_statement-returns-in-Return t c = λ file.
    found_same file c.find_in_expr-in-Return.result c.args.found.now c.find_in_expr-in-Return.new.found _ _ (c.find_in_expr-in-Return.ensures file) (of_return file _ _ _ _ c.in-Return.is c.get-in-Return.ensures)

pub find_in_statement-returns-in-Assign : goal.find_in_statement-returns-in-Assign
find_in_statement-returns-in-Assign t c = λ file.
    found_same file c.find_in_binding.result c.args.found.now c.find_in_binding.new.found _ _ (c.find_in_binding.ensures file)
    (of_assign file _ _ _ _ _ _ c.in-Assign.is c.get-in-Assign.ensures c.get-in-Assign-2.ensures)

pub find_in_statement-returns-in-Augment : goal.find_in_statement-returns-in-Augment
find_in_statement-returns-in-Augment t c = λ file.
    found_same file c.find_in_binding-in-Augment.result c.args.found.now c.find_in_binding-in-Augment.new.found _ _ (c.find_in_binding-in-Augment.ensures file)
    (of_augment file _ _ _ _ _ _ _ _ c.in-Augment.is c.get-in-Augment.ensures c.get-in-Augment-2.ensures)

pub find_in_statement-returns-in-If : goal.find_in_statement-returns-in-If
find_in_statement-returns-in-If t c = λ file.
    found_same file c.find_in_arms.result c.args.found.now c.find_in_arms.new.found _ _ (c.find_in_arms.ensures file) (of_if file _ _ _ _ c.in-If.is c.as_slice.ensures)

pub find_in_statement-returns-in_ok-find_in_expr-in-For-2 : goal.find_in_statement-returns-in_ok-find_in_expr-in-For-2
find_in_statement-returns-in_ok-find_in_expr-in-For-2 t c = λ file.
    let r = c.find_in_block.result in
    let new = c.find_in_block.new.found in
    let second = c.find_in_expr-in-For-2.new.found in
    found_same file r c.args.found.now new _ _
    (found_then file r c.args.found.now c.find_in_expr-in-For.new.found new _ _ (c.in_ok-find_in_expr-in-For.ensures file)
    (found_then file r c.find_in_expr-in-For.new.found second new _ _ (c.in_ok-find_in_expr-in-For-2.ensures file) (c.find_in_block.ensures file)))
    (of_for file _ _ _ _ _ _ _ _ c.in-For.is c.get-in-For.ensures c.get-in-For-2.ensures c.as_slice-in-For.ensures)

pub find_in_statement-returns-in_ok-find_in_params-in-Def : goal.find_in_statement-returns-in_ok-find_in_params-in-Def
find_in_statement-returns-in_ok-find_in_params-in-Def t c = λ file.
    let r = c.find_in_block-in-Def.result in
    let new = c.find_in_block-in-Def.new.found in
    found_same file r c.args.found.now new _ _
    (found_then file r c.args.found.now c.push.new.self new _ _ (pushed file _ _ _ c.in_ok-push-in-Def.ensures.ok)
    (found_then file r c.push.new.self c.find_in_params.new.found new _ _ (c.in_ok-find_in_params-in-Def.ensures file) (c.find_in_block-in-Def.ensures file)))
    (of_function file _ _ _ _ _ _ _ _ _ c.in-Def.is c.as_slice-in-Def.ensures c.as_slice-in-Def-2.ensures)
