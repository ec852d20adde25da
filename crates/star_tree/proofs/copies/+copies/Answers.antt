use Rattle.std.proofs.Common.{◌∙◌, sym}
use Rattle.star_tree.specs.declared.code.Expr as held
use Rattle.star_tree.proofs.Copied.{both_copied, copied}
use Rattle.star_tree.proofs.copies.+copies.Goals as goal

pub copy_expr-returns-in_ok-copy-in-Text : goal.copy_expr-returns-in_ok-copy-in-Text
copy_expr-returns-in_ok-copy-in-Text t c =
    (λ i. held.Text c.in-Text.line (c.in_ok-copy-in-Text.ensures i)) ∙ sym c.in-Text.is

pub copy_expr-returns-in_ok-copy-in-Name : goal.copy_expr-returns-in_ok-copy-in-Name
copy_expr-returns-in_ok-copy-in-Name t c =
    (λ i. held.Name c.in-Name.line (c.in_ok-copy-in-Name.ensures i)) ∙ sym c.in-Name.is

pub copy_expr-returns-in_ok-copy_exprs-in-List : goal.copy_expr-returns-in_ok-copy_exprs-in-List
copy_expr-returns-in_ok-copy_exprs-in-List t c =
    (λ i. held.List c.in-List.line (c.in_ok-copy_exprs-in-List.ensures i)) ∙ sym c.in-List.is

pub copy_expr-returns-in_ok-copy_exprs-in-Tuple : goal.copy_expr-returns-in_ok-copy_exprs-in-Tuple
copy_expr-returns-in_ok-copy_exprs-in-Tuple t c =
    (λ i. held.Tuple c.in-Tuple.line (c.in_ok-copy_exprs-in-Tuple.ensures i)) ∙ sym c.in-Tuple.is

pub copy_expr-returns-in_ok-copy_entries-in-Dict : goal.copy_expr-returns-in_ok-copy_entries-in-Dict
copy_expr-returns-in_ok-copy_entries-in-Dict t c =
    (λ i. held.Dict c.in-Dict.line (c.in_ok-copy_entries-in-Dict.ensures i)) ∙ sym c.in-Dict.is

pub copy_expr-returns-in_ok-copy_boxed-in-Unary : goal.copy_expr-returns-in_ok-copy_boxed-in-Unary
copy_expr-returns-in_ok-copy_boxed-in-Unary t c =
    (λ i. held.Unary c.in-Unary.line c.in-Unary.op (c.in_ok-copy_boxed-in-Unary.ensures i)) ∙ sym c.in-Unary.is

pub copy_expr-returns-in_ok-left-in-Binary : goal.copy_expr-returns-in_ok-left-in-Binary
copy_expr-returns-in_ok-left-in-Binary t c =
    let w = c.in-Binary in
    let two = c.in_ok-left-in-Binary in
    (λ i. held.Binary w.line w.op (copied _ two.left w.a c.copy_boxed-in-Binary.ensures two.ensures.0 i) (copied _ two.right w.b c.copy_boxed-in-Binary-2.ensures two.ensures.1 i)) ∙ sym w.is

pub copy_expr-returns-in_ok-left-in-And : goal.copy_expr-returns-in_ok-left-in-And
copy_expr-returns-in_ok-left-in-And t c =
    let w = c.in-And in
    let two = c.in_ok-left-in-And in
    (λ i. held.And w.line (copied _ two.left w.a c.copy_boxed-in-And.ensures two.ensures.0 i) (copied _ two.right w.b c.copy_boxed-in-And-2.ensures two.ensures.1 i)) ∙ sym w.is

pub copy_expr-returns-in_ok-left-in-Or : goal.copy_expr-returns-in_ok-left-in-Or
copy_expr-returns-in_ok-left-in-Or t c =
    let w = c.in-Or in
    let two = c.in_ok-left-in-Or in
    (λ i. held.Or w.line (copied _ two.left w.a c.copy_boxed-in-Or.ensures two.ensures.0 i) (copied _ two.right w.b c.copy_boxed-in-Or-2.ensures two.ensures.1 i)) ∙ sym w.is

pub copy_expr-returns-in_ok-condition-in-If : goal.copy_expr-returns-in_ok-condition-in-If
copy_expr-returns-in_ok-condition-in-If t c =
    let w = c.in-If in
    let all = c.in_ok-condition-in-If in
    let branches = both_copied _ _ _ all.then all.other c.both-branches.ensures all.ensures.1 in
    (λ i. held.If w.line (copied _ all.condition w.test c.copy_boxed-in-If-3.ensures all.ensures.0 i) (copied _ all.then w.a c.copy_boxed-in-If.ensures branches.0 i) (copied _ all.other w.b c.copy_boxed-in-If-2.ensures branches.1 i)) ∙ sym w.is

pub copy_expr-returns-in_ok-called-in-Call : goal.copy_expr-returns-in_ok-called-in-Call
copy_expr-returns-in_ok-called-in-Call t c =
    let w = c.in-Call in
    let two = c.in_ok-called-in-Call in
    (λ i. held.Call w.line (copied _ two.called w.function c.copy_boxed-in-Call.ensures two.ensures.0 i) (copied _ two.copied w.args c.copy_exprs-in-Call.ensures two.ensures.1 i)) ∙ sym w.is

pub copy_expr-returns-in_ok-copied-in-Named : goal.copy_expr-returns-in_ok-copied-in-Named
copy_expr-returns-in_ok-copied-in-Named t c =
    let w = c.in-Named in
    let two = c.in_ok-copied-in-Named in
    (λ i. held.Named w.line (copied _ two.copied w.name c.copy-in-Named.ensures two.ensures.0 i) (copied _ two.value w.a c.copy_boxed-in-Named.ensures two.ensures.1 i)) ∙ sym w.is

pub copy_expr-returns-in_ok-copy_boxed-in-Star : goal.copy_expr-returns-in_ok-copy_boxed-in-Star
copy_expr-returns-in_ok-copy_boxed-in-Star t c =
    (λ i. held.Star c.in-Star.line (c.in_ok-copy_boxed-in-Star.ensures i)) ∙ sym c.in-Star.is

pub copy_expr-returns-in_ok-copy_boxed-in-Stars : goal.copy_expr-returns-in_ok-copy_boxed-in-Stars
copy_expr-returns-in_ok-copy_boxed-in-Stars t c =
    (λ i. held.Stars c.in-Stars.line (c.in_ok-copy_boxed-in-Stars.ensures i)) ∙ sym c.in-Stars.is

pub copy_expr-returns-in_ok-indexed-in-Index : goal.copy_expr-returns-in_ok-indexed-in-Index
copy_expr-returns-in_ok-indexed-in-Index t c =
    let w = c.in-Index in
    let two = c.in_ok-indexed-in-Index in
    (λ i. held.Index w.line (copied _ two.indexed w.a c.copy_boxed-in-Index.ensures two.ensures.0 i) (copied _ two.at w.index c.copy_boxed-in-Index-2.ensures two.ensures.1 i)) ∙ sym w.is

pub copy_expr-returns-in_ok-cut-in-Slice : goal.copy_expr-returns-in_ok-cut-in-Slice
copy_expr-returns-in_ok-cut-in-Slice t c =
    let w = c.in-Slice in
    let all = c.in_ok-cut-in-Slice in
    let front = both_copied _ _ _ all.cut all.from c.both-front.ensures all.ensures.0 in
    let back = both_copied _ _ _ all.to all.by c.both-back.ensures all.ensures.1 in
    (λ i. held.Slice w.line (copied _ all.cut w.a c.copy_boxed-in-Slice.ensures front.0 i) (copied _ all.from w.low c.copy_optional.ensures front.1 i) (copied _ all.to w.high c.copy_optional-in-Slice.ensures back.0 i) (copied _ all.by w.step c.copy_optional-in-Slice-2.ensures back.1 i)) ∙ sym w.is

pub copy_expr-returns-in_ok-owner-in-Dot : goal.copy_expr-returns-in_ok-owner-in-Dot
copy_expr-returns-in_ok-owner-in-Dot t c =
    let w = c.in-Dot in
    let two = c.in_ok-owner-in-Dot in
    (λ i. held.Dot w.line (copied _ two.owner w.a c.copy_boxed-in-Dot.ensures two.ensures.0 i) (copied _ two.copied w.name c.copy-in-Dot.ensures two.ensures.1 i)) ∙ sym w.is

pub copy_expr-returns-in_ok-bound-in-Lambda : goal.copy_expr-returns-in_ok-bound-in-Lambda
copy_expr-returns-in_ok-bound-in-Lambda t c =
    let w = c.in-Lambda in
    let two = c.in_ok-bound-in-Lambda in
    (λ i. held.Lambda w.line w.number (copied _ two.bound w.params c.copy_params.ensures two.ensures.0 i) (copied _ two.value w.body c.copy_boxed-in-Lambda.ensures two.ensures.1 i)) ∙ sym w.is

pub copy_expr-returns-in_ok-each-in-ListFor : goal.copy_expr-returns-in_ok-each-in-ListFor
copy_expr-returns-in_ok-each-in-ListFor t c =
    let w = c.in-ListFor in
    let two = c.in_ok-each-in-ListFor in
    (λ i. held.ListFor w.line (copied _ two.each w.element c.copy_boxed-in-ListFor.ensures two.ensures.0 i) (copied _ two.among w.clauses c.copy_clauses.ensures two.ensures.1 i)) ∙ sym w.is

pub copy_expr-returns-in_ok-name-in-DictFor : goal.copy_expr-returns-in_ok-name-in-DictFor
copy_expr-returns-in_ok-name-in-DictFor t c =
    let w = c.in-DictFor in
    let all = c.in_ok-name-in-DictFor in
    let pair = both_copied _ _ _ all.name all.each c.both-pair.ensures all.ensures.0 in
    (λ i. held.DictFor w.line (copied _ all.name w.key c.copy_boxed-in-DictFor.ensures pair.0 i) (copied _ all.each w.value c.copy_boxed-in-DictFor-2.ensures pair.1 i) (copied _ all.among w.clauses c.copy_clauses-in-DictFor.ensures all.ensures.1 i)) ∙ sym w.is

pub copy_expr-returns-in_ok-copy_pieces-in-Template : goal.copy_expr-returns-in_ok-copy_pieces-in-Template
copy_expr-returns-in_ok-copy_pieces-in-Template t c =
    (λ i. held.Template c.in-Template.line (c.in_ok-copy_pieces-in-Template.ensures i)) ∙ sym c.in-Template.is
