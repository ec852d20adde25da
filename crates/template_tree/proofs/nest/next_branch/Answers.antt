use Rattle.std.proofs.Common.{List, [], ◌∷◌, ◌++◌, ap, ◌∙◌, Vec, Global}
use Rattle.template_tree.specs.declared.tree.TElif.{TElif}
use Rattle.template_tree.specs.declared.tree.TItem.{TItem}
use Rattle.template_tree.proofs.Nesting.{elif_given}
use Rattle.template_tree.proofs.nest.next_branch.Goals as goal

pub returns-in_ok-push-in-Inside : goal.returns-in_ok-push-in-Inside
returns-in_ok-push-in-Inside c = λ file.
    let branch : TElif = record { place = c.args.place; test = c.args.test; body = c.from_vec-body.result } in
    let pushed = c.in_ok-push-in-Inside.ensures.ok ∙ ap (λ (bs : List TElif). bs ++ branch ∷ []) c.in-Inside.elifs-is in
    let body = c.from_vec-body.ensures ∙ ap (λ (v : Vec TItem Global). v.items) (c.replace.ensures.value ∙ c.in-Inside.items-is) in
    let emptied = ap (λ (v : Vec TItem Global). v.items) c.replace.ensures.after ∙ c.new.ensures.items in
    elif_given file c.args.nested.now _ _ _ _ _ _ branch _ _ c.in-Inside.is pushed c.in-Inside._last-is c.in-Inside._outer-is body emptied
