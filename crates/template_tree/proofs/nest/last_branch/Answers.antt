use Rattle.std.proofs.Common.{ap, ◌∙◌, Vec, Global}
use Rattle.template_tree.specs.declared.tree.TItem.{TItem}
use Rattle.template_tree.specs.Nests.{is_no_branch, nested_of}
use Rattle.template_tree.specs.View.{branches_of}
use Rattle.template_tree.proofs.Nesting.{else_given, else_not_given}
use Rattle.template_tree.proofs.nest.last_branch.Goals as goal

pub returns-then-is_nothing : goal.returns-then-is_nothing
returns-then-is_nothing c = λ file.
    let nothing = c.if-is_nothing.ensures file ∙ (λ i. is_no_branch (branches_of file (c.in-Inside.elifs-is i) (c.in-Inside.last-is i))) in
    let body = c.from_vec-body.ensures ∙ ap (λ (v : Vec TItem Global). v.items) (c.replace.ensures.value ∙ c.in-Inside.items-is) in
    let emptied = ap (λ (v : Vec TItem Global). v.items) c.replace.ensures.after ∙ c.new.ensures.items in
    else_given file c.args.nested.now _ _ _ _ _ _ _ _ _ c.in-Inside.is c.in-Inside.elifs-is c.in-Inside._outer-is nothing c.replace-then-is_nothing.ensures.after body emptied

pub returns-else-is_nothing : goal.returns-else-is_nothing
returns-else-is_nothing c = λ file.
    let something = c.if-is_nothing.ensures file ∙ (λ i. is_no_branch (branches_of file (c.in-Inside.elifs-is i) (c.in-Inside.last-is i))) in
    ap (nested_of file) c.break_off.ensures ∙ else_not_given file c.args.place c.args.nested.now _ _ _ _ c.in-Inside.is something
