use Rattle.std.proofs.Common.{List, refl}
use Rattle.code_spec.specs.Scopes.{arms_names, ops_names}
use Rattle.star_blocks.specs.Nested.{arms_of, ops_of}
use Rattle.star_blocks.specs.declared.block.Arm.{Arm}
use Rattle.star_blocks.specs.declared.block.Op.{Op}
use Rattle.star_resolve.proofs.Putting.{put_after, put_done, put_next, put_same}
use Rattle.star_functions.proofs.Naming.{assign_names, augment_names, code_names, else_names, for_names, function_names, if_names, load_names, test_names}
use Rattle.star_functions.proofs.Walking.{put_last}
use Rattle.star_functions.proofs.names.+names.Goals as goal

pub put_arms_names-returns-in-Else : goal.put_arms_names-returns-in-Else
put_arms_names-returns-in-Else t c = λ file.
    put_last c.put_block_names-in-Else.result _ c.loop-arm.names c.put_block_names-in-Else.new.names c.args.arms.now c.loop-arm.arm-index c.arm-item.result
    (λ (bs : List Arm). arms_names (arms_of file bs)) (ops_names (ops_of file c.as_slice-in-Else.result.now))
    c.loop-arm-test.true c.arm-item.is (else_names file _ _ _ c.in-Else.is c.as_slice-in-Else.ensures) (c.loop-arm.invariant file) (c.put_block_names-in-Else.ensures file)

pub put_arms_names-loop-arm-preserved : goal.put_arms_names-loop-arm-preserved
put_arms_names-loop-arm-preserved t c = λ file.
    put_next _ c.loop-arm.names c.put_block_names.new.names c.args.arms.now c.loop-arm.arm-index c.arm-item.result
    (λ (bs : List Arm). arms_names (arms_of file bs)) (ops_names (ops_of file c.as_slice.result.now))
    c.loop-arm-test.true c.arm-item.is (test_names file _ _ _ _ c.in-Test.is c.as_slice.ensures) (c.loop-arm.invariant file) (c.in_ok-put_block_names-in-Test.ensures file)

pub put_op_names-returns-in-Code : goal.put_op_names-returns-in-Code
put_op_names-returns-in-Code t c = λ file.
    put_same c.put_statement_names.result c.args.names.now c.put_statement_names.new.names _ _ (c.put_statement_names.ensures file) (code_names file _ _ c.in-Code.is)

pub put_statement_names-returns-in-Assign : goal.put_statement_names-returns-in-Assign
put_statement_names-returns-in-Assign t c = λ file.
    put_same c.put_target_names.result c.args.names.now c.put_target_names.new.names _ _ (c.put_target_names.ensures file) (assign_names file _ _ _ _ _ c.in-Assign.is c.get.ensures)

pub put_statement_names-returns-in-Augment : goal.put_statement_names-returns-in-Augment
put_statement_names-returns-in-Augment t c = λ file.
    put_same c.put_target_names-in-Augment.result c.args.names.now c.put_target_names-in-Augment.new.names _ _ (c.put_target_names-in-Augment.ensures file)
    (augment_names file _ _ _ _ _ _ _ c.in-Augment.is c.get-in-Augment.ensures)

pub put_statement_names-returns-in-Load : goal.put_statement_names-returns-in-Load
put_statement_names-returns-in-Load t c = λ file.
    put_same c.put_loaded.result c.args.names.now c.put_loaded.new.names _ _ c.put_loaded.ensures (load_names file _ _ _ _ c.in-Load.is)

pub put_statement_names-returns-in-If : goal.put_statement_names-returns-in-If
put_statement_names-returns-in-If t c = λ file.
    put_same c.put_arms_names.result c.args.names.now c.put_arms_names.new.names _ _ (c.put_arms_names.ensures file) (if_names file _ _ _ _ c.in-If.is c.as_slice.ensures)

pub put_statement_names-returns-in_ok-put_target_names-in-For : goal.put_statement_names-returns-in_ok-put_target_names-in-For
put_statement_names-returns-in_ok-put_target_names-in-For t c = λ file.
    let r = c.put_block_names.result in
    put_same r c.args.names.now c.put_block_names.new.names _ _
    (put_after r c.args.names.now c.put_target_names-in-For.new.names c.put_block_names.new.names _ _ (c.in_ok-put_target_names-in-For.ensures file) (c.put_block_names.ensures file))
    (for_names file _ _ _ _ _ _ _ c.in-For.is c.get-in-For.ensures c.as_slice-in-For.ensures)

pub put_statement_names-returns-in-Def : goal.put_statement_names-returns-in-Def
put_statement_names-returns-in-Def t c = λ file.
    put_same c.put_name.result c.args.names.now c.put_name.new.names _ _ c.put_name.ensures (function_names file _ _ _ _ _ _ _ c.in-Def.is)

pub put_arms_names-returns : goal.put_arms_names-returns
put_arms_names-returns t c = λ file.
    put_done _ c.loop-arm.names c.args.arms.now c.loop-arm.arm-index (λ (bs : List Arm). arms_names (arms_of file bs)) c.loop-arm-test.false refl (c.loop-arm.invariant file)

pub put_block_names-loop-op-preserved : goal.put_block_names-loop-op-preserved
put_block_names-loop-op-preserved t c = λ file.
    put_next _ c.loop-op.names c.put_op_names.new.names c.args.block.now c.loop-op.op-index c.op-item.result
    (λ (os : List Op). ops_names (ops_of file os)) _ c.loop-op-test.true c.op-item.is (λ ys. refl) (c.loop-op.invariant file) (c.in_ok-put_op_names.ensures file)

pub put_block_names-returns : goal.put_block_names-returns
put_block_names-returns t c = λ file.
    put_done _ c.loop-op.names c.args.block.now c.loop-op.op-index (λ (os : List Op). ops_names (ops_of file os)) c.loop-op-test.false refl (c.loop-op.invariant file)
