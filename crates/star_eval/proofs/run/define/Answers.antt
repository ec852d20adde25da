use Rattle.std.proofs.Common.{◌≡◌, ◌++◌, ◌∷◌, [], List, ap, ◌∙◌}
use Rattle.std.proofs.lemmas.List.{reverse-append}
use Rattle.star_tree.specs.Whole.{parameters_of}
use Rattle.star_values.specs.View.{values_of}
use Rattle.value_spec.specs.Outcomes.{Ending}
use Rattle.value_spec.specs.Values.{Value}
use Rattle.star_eval.specs.declared.frame.Frame.{Frame}
use Rattle.star_eval.specs.declared.frame.Frame.TheVariants as frame
use Rattle.star_eval.specs.declared.frame.InStatement.TheVariants as in_statement
use Rattle.star_eval.specs.declared.frame.Machine.{Machine}
use Rattle.star_eval.specs.Doing.{making}
use Rattle.star_eval.specs.Frames.{around_value}
use Rattle.star_eval.specs.Meets.{Here, state_of}
use Rattle.star_eval.specs.View.{arena_in, frames_of, setting_of, waiting_in}
use Rattle.star_eval.proofs.Going.{goes}
use Rattle.star_eval.proofs.run.define.Goals as goal

pub returns : goal.returns
returns c =
    let m = c.args.m.now in
    let a = arena_in m in
    let n : List Frame → Machine = λ fs. record m { frames = fs } in
    let f = frame.Statement (in_statement.Bind c.args.place c.args.name) in
    let ps = parameters_of m.code.file c.args.params.now in
    let made : List Value → Ending Here Value = λ before. making (setting_of m) (record { place = c.args.place; name = c.args.name.now; number = c.args.number }) ps before (state_of m.session) in
    let more : c.push.new.self ≡ m.frames ++ f ∷ [] = c.in_ok-push.ensures.ok ∙ ap (λ x. m.frames ++ frame.Statement x ∷ []) c.in_ok-frame.ensures in
    goes _ c.make_function.result c.make_function.new.m
    ((λ i. around_value (n (more i)) (waiting_in (n (more i))) (made (values_of a (c.new-none.ensures i))))
    ∙ ap (λ ws. around_value (n (m.frames ++ f ∷ [])) ws (made [])) (ap (frames_of a m.code) (reverse-append m.frames (f ∷ []))))
    c.make_function.ensures
