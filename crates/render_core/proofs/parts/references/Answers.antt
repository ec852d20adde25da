use Rattle.std.proofs.Common.{◌∙◌, ◌++◌, ◌∷◌, [], ap, sym}
use Rattle.std.proofs.lemmas.List.{append-nil, append_assoc, map-append, nil_from_length}
use Rattle.star_functions.specs.Known.{blocks_in}
use Rattle.star_functions.specs.declared.programs.FileBlock.{FileBlock}
use Rattle.render_core.proofs.parts.references.Goals as goal
use denote.Ref.{Bor}

pub loop-file-preserved : goal.loop-file-preserved
loop-file-preserved c =
    let found = c.loop-file.found in
    let file = c.in-Some.file in
    let more = c.in-Some.more.now in
    (λ i. blocks_in (c.in_ok-push.ensures.ok i) ++ more)
    ∙ (λ i. map-append (λ (b : Bor FileBlock). b.now) found (file ∷ []) i ++ more)
    ∙ append_assoc (blocks_in found) (file.now ∷ []) more
    ∙ ap (λ bs. blocks_in found ++ bs) (sym c.in-Some.ensures.cases.0)
    ∙ c.loop-file.invariant

pub returns : goal.returns
returns c =
    let found = c.loop-file.found in
    sym (append-nil (blocks_in found)) ∙ ap (λ bs. blocks_in found ++ bs) (sym (nil_from_length c.loop-file.rest.now c.in_default.ensures.cases)) ∙ c.loop-file.invariant
