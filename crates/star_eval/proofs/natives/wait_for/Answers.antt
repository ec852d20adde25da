use Rattle.std.proofs.Common.{◌≡◌, ◌++◌, ◌∷◌, [], rules, ◌∙◌}
use Rattle.star_eval.specs.declared.frame.Frame.TheVariants as frame
use Rattle.star_eval.proofs.natives.wait_for.Goals as goal

pub returns : goal.returns
returns c =
    let m = c.args.m.now in
    let k = c.args.asking in
    let pushed : c.push.new.self ≡ m.frames ++ frame.Native (record { asking = k; tag = c.args.tag; nodes = c.replace.result }) ∷ [] = search rules in
    let frames = pushed ∙ (λ i. m.frames ++ frame.Native (record { asking = k; tag = c.args.tag; nodes = c.replace.ensures.value i }) ∷ []) in
    record {
      nodes = c.new-empty.result;
      is = λ i. record m { nodes = c.replace.ensures.after i; frames = frames i };
      owned = c.new-empty.ensures.owned;
    }
