use Rattle.std.proofs.Common.{◌∷◌, [], ◌++◌, append_assoc, ap, sym, ◌∙◌, string_bytes}
use Rattle.notes_read.specs.Depths.{depth_of}
use Rattle.notes_read.proofs.Longer.{goes_on}
use Rattle.template_events.proofs.kept.with_code.Goals as goal

pub invariant_of-result : goal.invariant_of-result
invariant_of-result c =
    let text = string_bytes c.args.longer.text in
    let code = c.args.growth.code.now in
    let bytes = c.in_ok-push_str-2.ensures.bytes ∙ ap (λ t. t ++ code) c.in_ok-push_str.ensures.bytes ∙ append_assoc text (10 ∷ []) code in
    record { known = c.in_ok-depth_behind_code.ensures.depth ∙ sym (ap depth_of bytes ∙ goes_on text code c.args.growth.open c.requires) }
