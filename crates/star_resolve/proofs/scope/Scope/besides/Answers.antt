use Rattle.std.proofs.Common.{◌≡◌, ◌++◌, ◌∷◌, List, ap, not, subst, sym, true, false, ◌∙◌}
use Rattle.std.specs.List.{position}
use Rattle.std.specs.Prelude.{bytes_eq}
use Rattle.code_spec.specs.Code.{Name}
use Rattle.star_resolve.specs.Frames.{added}
use Rattle.star_resolve.specs.Variables.{each_once}
use Rattle.star_resolve.proofs.Besides.{added_turn, is_bound, left_out, put_new}
use Rattle.star_resolve.proofs.scope.Scope.besides.Goals as goal
use Rattle.star_resolve.proofs.scope.Scope.besides.Goals.{then-is_none+in_ok-add, else-is_none}

pub loop-name-preserved : goal.loop-name-preserved
loop-name-preserved c =
    let known = c.args.known.now in
    let now = c.loop-name.scope in
    let x = c.name-item.result in
    let place : c.number.result ≡ position (bytes_eq x) (each_once known) = c.number.ensures.place ∙ ap (position (bytes_eq x)) c.in_ok-among.ensures in
    let Same : List Name → Type 0 = λ next. (ys : List Name) → next ++ added (known ++ next) ys ≡ now ++ added (known ++ now) (x ∷ ys) in
    added_turn known now x _ c.if-is_none.scope c.args.names.now c.loop-name.name-index
    (rw c.as_slice-name-items.ensures at c.loop-name-test.true) (rw c.as_slice-name-items.ensures at c.name-item.is)
    (elim c.if-is_none.branch [
      | then-is_none+in_ok-add w ↦ subst Same (sym w.in_ok-add.ensures ∙ sym w.scope-is) (put_new known now x (is_bound x known _ true place (c.is_none.ensures ∙ ap not w.if-is_none.true)))
      | else-is_none w ↦ subst Same (sym w.scope-is) (left_out known now x (is_bound x known _ false place (c.is_none.ensures ∙ ap not w.if-is_none.false)))
    ])
    c.loop-name.invariant
