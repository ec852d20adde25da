use Rattle.std.proofs.Common.{◌≡◌, ◌++◌, Some, None, sym, ap, subst, ◌∙◌}
use Rattle.std.specs.Prelude.{string_bytes}
use Rattle.star_tree.specs.Listed.{pieces_of}
use Rattle.star_tree.specs.Whole.{expr_of}
use Rattle.value_spec.specs.Outcomes.{give, then_do}
use Rattle.value_spec.specs.Values.{text_value}
use Rattle.star_eval.specs.Doing.{evaluated, next_shown, written_before}
use Rattle.star_eval.specs.Frames.{around_value}
use Rattle.star_eval.specs.Meets.{GivesFrom, state_of}
use Rattle.star_eval.specs.View.{setting_of, shown_of, waiting_in}
use Rattle.star_eval.specs.Waiting.{shown_piece, value_goes}
use Rattle.star_eval.proofs.Going.{gives_on, goes}
use Rattle.star_eval.proofs.Pieces.{none_shown, one_shown}
use Rattle.star_eval.proofs.templates.more_pieces.Goals as goal

pub returns-in-Some : goal.returns-in-Some
returns-in-Some c =
    let m = c.args.m.now in
    let f = m.code.file in
    let s = state_of m.session in
    let p = c.args.place in
    let ps = pieces_of f c.args.pieces.now in
    let e = expr_of f c.in-Some.expr.now in
    let rest = pieces_of f c.in-Some.rest.now in
    let before = string_bytes c.args.before in
    let put = c.in_ok-found.ensures.text f in
    let some : next_shown ps ≡ Some (e, rest) = sym (c.in_ok-found.ensures.shown f) ∙ ap (shown_of f) c.in-Some.is in
    goes _ c.push_value.result c.push_value.new.m
    (ap (around_value m (waiting_in m))
    ((λ i. then_do (evaluated (setting_of m) e s) (value_goes (setting_of m) (shown_piece p rest (put i))))
    ∙ sym (λ i. one_shown (setting_of m) p ps e rest before some i s)))
    c.push_value.ensures

pub returns-in-None : goal.returns-in-None
returns-in-None c =
    let m = c.args.m.now in
    let f = m.code.file in
    let s = state_of m.session in
    let p = c.args.place in
    let ps = pieces_of f c.args.pieces.now in
    let before = string_bytes c.args.before in
    let text = c.of_string.ensures ∙ c.in_ok-found.ensures.text f in
    let none : next_shown ps ≡ None = sym (c.in_ok-found.ensures.shown f) ∙ ap (shown_of f) c.in-None.is in
    goes _ c.settle.result (record m { session = c.make_text.new.session })
    (ap (around_value m (waiting_in m)) (sym (λ i. none_shown (setting_of m) p ps before none i s)))
    (gives_on m c.make_text.new.session c.requires (give (text_value (before ++ written_before ps))) c.make_text.result c.settle.result
    (subst (λ t. GivesFrom (give (text_value t)) c.make_text.result c.make_text.new.session m.session) text c.make_text.ensures) c.settle.ensures)
