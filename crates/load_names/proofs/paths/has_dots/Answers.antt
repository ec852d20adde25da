use Rattle.std.proofs.Common.{arith, rules, sym, ◌∙◌}
use Rattle.std.proofs.lemmas.Str.Pattern.{split_once_first}
use Rattle.load_names.proofs.Parts.{dots_behind, dots_last}
use Rattle.load_names.proofs.paths.has_dots.Goals as goal

pub loop-part-preserved : goal.loop-part-preserved
loop-part-preserved c =
    let cut = split_once_first 47 c.loop-part.rest.now _ c.split_once.ensures.cases (omega arith) in
    let parts = rw c.in-Some.is at cut in
    let plain = sym c.is_dots.ensures ∙ c.if-is_dots.false in
    (search rules, c.loop-part.invariant.1 ∙ dots_behind c.loop-part.rest.now c.in-Some.part.now c.in-Some.behind.now parts.0 parts.1 parts.2 plain)

pub returns : goal.returns
returns c =
    let cut = split_once_first 47 c.loop-part.rest.now _ c.split_once.ensures.cases (omega arith) in
    let none = rw c.in_default.is at cut in
    c.is_dots-2.ensures ∙ sym (dots_last c.loop-part.rest.now none) ∙ sym c.loop-part.invariant.1
