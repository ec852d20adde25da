use Rattle.star_functions.proofs.Finding.{found_same, found_then, in_call, in_conditional, in_dict, in_dict_comprehension, in_lambda, in_list_comprehension, in_members, in_one, in_part, in_slice, in_template, in_two, pushed}
use Rattle.star_resolve.proofs.Putting.{put_after, put_same}
use Rattle.star_functions.proofs.exprs.+exprs.Goals as goal

pub find_in_expr-returns-in-Dict : goal.find_in_expr-returns-in-Dict
find_in_expr-returns-in-Dict t c = λ file. put_same c.find_in_entries.result _ _ _ _ (c.find_in_entries.ensures file) (in_dict file _ _ _ c.in-Dict.is)

pub find_in_expr-returns-in-Template : goal.find_in_expr-returns-in-Template
find_in_expr-returns-in-Template t c = λ file. put_same c.find_in_pieces.result _ _ _ _ (c.find_in_pieces.ensures file) (in_template file _ _ _ c.in-Template.is)

pub find_in_expr-returns-in-Unary : goal.find_in_expr-returns-in-Unary
find_in_expr-returns-in-Unary t c = λ file. put_same c.find_in_expr-in-Unary.result _ _ _ _ (c.find_in_expr-in-Unary.ensures file) (in_one file _ _ _ c.in-Unary.is c.get-in-Unary.ensures)

pub find_in_expr-returns-in-List : goal.find_in_expr-returns-in-List
find_in_expr-returns-in-List t c = λ file. put_same c.find_in_exprs-in-List.result _ _ _ _ (c.find_in_exprs-in-List.ensures file) (in_members file _ _ c.in-List.is)

pub find_in_expr-returns-in_ok-find_in_expr-in-Binary : goal.find_in_expr-returns-in_ok-find_in_expr-in-Binary
find_in_expr-returns-in_ok-find_in_expr-in-Binary t c = λ file.
    let r = c.find_in_expr-in-Binary-2.result in
    put_same r _ _ _ _
    (put_after r _ _ _ _ _ (c.in_ok-find_in_expr-in-Binary.ensures file) (c.find_in_expr-in-Binary-2.ensures file))
    (in_two file _ _ _ _ _ c.in-Binary.is c.get-in-Binary.ensures c.get-in-Binary-2.ensures)

pub find_in_expr-returns-in_ok-find_in_expr-in-If-2 : goal.find_in_expr-returns-in_ok-find_in_expr-in-If-2
find_in_expr-returns-in_ok-find_in_expr-in-If-2 t c = λ file.
    let r = c.find_in_expr-in-If-2.result in
    found_same file r c.args.found.now c.find_in_expr-in-If-2.new.found _ _
    (found_then file r c.args.found.now c.find_in_expr.new.found c.find_in_expr-in-If-2.new.found _ _ (c.in_ok-find_in_expr-in-If.ensures file)
    (found_then file r c.find_in_expr.new.found c.find_in_expr-in-If.new.found c.find_in_expr-in-If-2.new.found _ _ (c.in_ok-find_in_expr-in-If-2.ensures file) (c.find_in_expr-in-If-2.ensures file)))
    (in_conditional file _ _ _ _ _ _ _ _ c.in-If.is c.get.ensures c.get-in-If.ensures c.get-in-If-2.ensures)

pub find_in_expr-returns-in_ok-find_in_expr-in-Call : goal.find_in_expr-returns-in_ok-find_in_expr-in-Call
find_in_expr-returns-in_ok-find_in_expr-in-Call t c = λ file.
    let r = c.find_in_exprs.result in
    put_same r _ _ _ _
    (put_after r _ _ _ _ _ (c.in_ok-find_in_expr-in-Call.ensures file) (c.find_in_exprs.ensures file))
    (in_call file _ _ _ _ _ c.in-Call.is c.get-in-Call.ensures)

pub find_in_expr-returns-in_ok-find_in_optional-in-Slice-2 : goal.find_in_expr-returns-in_ok-find_in_optional-in-Slice-2
find_in_expr-returns-in_ok-find_in_optional-in-Slice-2 t c = λ file.
    let r = c.find_in_optional-in-Slice-2.result in
    found_same file r c.args.found.now c.find_in_optional-in-Slice-2.new.found _ _
    (found_then file r c.args.found.now c.find_in_expr-in-Slice.new.found c.find_in_optional-in-Slice-2.new.found _ _ (c.in_ok-find_in_expr-in-Slice.ensures file)
    (found_then file r c.find_in_expr-in-Slice.new.found c.find_in_optional.new.found c.find_in_optional-in-Slice-2.new.found _ _ (c.in_ok-find_in_optional-in-Slice.ensures file)
    (found_then file r c.find_in_optional.new.found c.find_in_optional-in-Slice.new.found c.find_in_optional-in-Slice-2.new.found _ _ (c.in_ok-find_in_optional-in-Slice-2.ensures file) (c.find_in_optional-in-Slice-2.ensures file))))
    (in_slice file _ _ _ _ _ _ _ c.in-Slice.is c.get-in-Slice.ensures)

pub find_in_expr-returns-in_ok-find_in_params-in-Lambda : goal.find_in_expr-returns-in_ok-find_in_params-in-Lambda
find_in_expr-returns-in_ok-find_in_params-in-Lambda t c = λ file.
    let r = c.find_in_expr-in-Lambda.result in
    found_same file r c.args.found.now c.find_in_expr-in-Lambda.new.found _ _
    (found_then file r c.args.found.now c.push.new.self c.find_in_expr-in-Lambda.new.found _ _ (pushed file _ _ _ c.in_ok-push-in-Lambda.ensures.ok)
    (found_then file r c.push.new.self c.find_in_params.new.found c.find_in_expr-in-Lambda.new.found _ _ (c.in_ok-find_in_params-in-Lambda.ensures file) (c.find_in_expr-in-Lambda.ensures file)))
    (in_lambda file _ _ _ _ _ _ _ c.in-Lambda.is c.get-in-Lambda.ensures c.get-in-Lambda-2.ensures)

pub find_in_expr-returns-in_ok-find_in_expr-in-ListFor : goal.find_in_expr-returns-in_ok-find_in_expr-in-ListFor
find_in_expr-returns-in_ok-find_in_expr-in-ListFor t c = λ file.
    let r = c.find_in_clauses.result in
    put_same r _ _ _ _
    (put_after r _ _ _ _ _ (c.in_ok-find_in_expr-in-ListFor.ensures file) (c.find_in_clauses.ensures file))
    (in_list_comprehension file _ _ _ _ _ c.in-ListFor.is c.get-in-ListFor.ensures)

pub find_in_expr-returns-in_ok-find_in_expr-in-DictFor-2 : goal.find_in_expr-returns-in_ok-find_in_expr-in-DictFor-2
find_in_expr-returns-in_ok-find_in_expr-in-DictFor-2 t c = λ file.
    let r = c.find_in_clauses-in-DictFor.result in
    found_same file r c.args.found.now c.find_in_clauses-in-DictFor.new.found _ _
    (found_then file r c.args.found.now c.find_in_expr-in-DictFor.new.found c.find_in_clauses-in-DictFor.new.found _ _ (c.in_ok-find_in_expr-in-DictFor.ensures file)
    (found_then file r c.find_in_expr-in-DictFor.new.found c.find_in_expr-in-DictFor-2.new.found c.find_in_clauses-in-DictFor.new.found _ _ (c.in_ok-find_in_expr-in-DictFor-2.ensures file) (c.find_in_clauses-in-DictFor.ensures file)))
    (in_dict_comprehension file _ _ _ _ _ _ _ c.in-DictFor.is c.get-in-DictFor.ensures c.get-in-DictFor-2.ensures)

pub find_in_optional-returns-in-Some : goal.find_in_optional-returns-in-Some
find_in_optional-returns-in-Some t c = λ file. put_same c.find_in_expr.result _ _ _ _ (c.find_in_expr.ensures file) (in_part file _ _ _ c.in-Some.is c.get.ensures)
