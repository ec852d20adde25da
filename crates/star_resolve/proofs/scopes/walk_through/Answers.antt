use Rattle.std.proofs.Common.{ap, ◌∙◌, map as each}
use Rattle.star_tree.specs.Whole.{instruction_of, program_of}
use Rattle.star_resolve.specs.Events.{program_events}
use Rattle.star_resolve.specs.Gathered.{all_names, behind, front}
use Rattle.star_resolve.specs.Variables.{each_once}
use Rattle.star_resolve.proofs.scopes.walk_through.Goals as goal

pub returns-clause-globals : goal.returns-clause-globals
returns-clause-globals c =
    let file = c.args.program.now.file in
    let names = c.in_ok-functions.ensures file ∙ ap (λ code. all_names (each (instruction_of file) code)) c.as_slice.ensures in
    c.in_ok-globals.ensures ∙ ap each_once (c.next_names.ensures.value ∙ ap front names)

pub returns-clause-events : goal.returns-clause-events
returns-clause-events c =
    let file = c.args.program.now.file in
    let names = c.in_ok-functions.ensures file ∙ ap (λ code. all_names (each (instruction_of file) code)) c.as_slice.ensures in
    c.in_ok-events.ensures ∙ ap (λ functions. program_events functions (program_of c.args.program.now)) (c.next_names.ensures.rest ∙ ap behind names)
