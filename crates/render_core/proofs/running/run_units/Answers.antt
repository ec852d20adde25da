use Rattle.std.proofs.Common.{◌≡◌, ◌∙◌, List, length, map as each, reverse, ap, subst, sym}
use Rattle.std.proofs.lemmas.List.{length-map, length-reverse}
use Rattle.code_spec.specs.Code.{Name}
use Rattle.render_core.proofs.Held.{as_many, whole}
use Rattle.render_core.specs.Parts.{AreWhole, gives_in}
use Rattle.render_core.specs.declared.parts.Output.{Output}
use Rattle.render_core.proofs.running.run_units.Goals as goal

pub run_programs-requires-clause-files : goal.run_programs-requires-clause-files
run_programs-requires-clause-files c =
    subst (λ (xss : List (List Name)). AreWhole 1 c.args.files.now xss) (sym (c.as_slice.ensures ∙ c.in_ok-scopes.ensures.scopes)) (whole 1 c.args.files.now c.args.contents c.requires.files)

pub run_programs-requires-clause-outputs : goal.run_programs-requires-clause-outputs
run_programs-requires-clause-outputs c =
    let os = c.in_ok-scopes.field-0.outputs in
    sym (length-reverse os) ∙ ap (λ (xs : List Output). length xs) c.in_ok-scopes.ensures.outputs ∙ length-map c.args.contents gives_in ∙ as_many 1 c.args.files.now c.args.contents c.requires.files

pub returns : goal.returns
returns c = λ us held named. c.run_programs.ensures us c.args.contents c.requires.files held named c.in_ok-scopes.ensures.outputs
