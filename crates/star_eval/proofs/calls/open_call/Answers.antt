use Rattle.std.proofs.Common.{◌≡◌, ◌++◌, ◌∷◌, ◌-◌, [], rules, ap, ◌∙◌}
use Rattle.template_meaning.specs.Calls.{bottom}
use Rattle.star_eval.specs.declared.frame.Frame.TheVariants as frame
use Rattle.star_eval.specs.View.{in_file}
use Rattle.star_eval.proofs.calls.open_call.Goals as goal

pub returns : goal.returns
returns c =
    let m = c.args.m.now in
    let pushed : c.push.new.self ≡ m.frames ++ frame.Call (record { file = m.code.file; depth = m.depth; scope = c.replace.result; nodes = c.replace-2.result; fragment = c.args.fragment }) ∷ [] = search rules in
    let frames = pushed ∙ (λ i. m.frames ++ frame.Call (record { file = m.code.file; depth = m.depth; scope = c.replace.ensures.value i; nodes = c.replace-2.ensures.value i; fragment = c.args.fragment }) ∷ []) in
    record {
      nodes = c.within-nodes.result;
      is = λ i. record m { code = in_file c.args.file m.code; depth = m.depth - 1; scope = c.replace.ensures.after i; nodes = c.replace-2.ensures.after i; frames = frames i };
      meaning = λ a. c.within-nodes.ensures.meaning a ∙ ap (λ l. bottom l ∷ []) c.level_of.ensures;
      owned = c.within-nodes.ensures.owned;
    }
