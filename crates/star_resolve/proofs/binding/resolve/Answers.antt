use Rattle.std.proofs.Common.{◌≡◌, List, [], Err, rules, sym, ap, ◌∙◌}
use Rattle.code_spec.specs.Code.{Name}
use Rattle.code_spec.specs.Program.{Instruction}
use Rattle.star_resolve.specs.declared.event.Event.{Event}
use Rattle.star_tree.specs.Whole.{program_of}
use Rattle.star_resolve.specs.Answers.{answers, found_in, program_answers, refused}
use Rattle.star_resolve.specs.Events.{program_events, sizes_in}
use Rattle.star_resolve.specs.Gathered.{all_names, behind, front}
use Rattle.star_resolve.specs.Variables.{each_once}
use Rattle.star_resolve.proofs.Found.{refused_is, variables_are}
use Rattle.star_resolve.proofs.Functions.{functions_are}
use Rattle.star_resolve.proofs.Nesting.{globals_are}
use Rattle.star_resolve.proofs.Told.{told_on}
use Rattle.star_resolve.proofs.binding.resolve.Goals as goal

-- what is answered where the program was gone through
same_answers : (builtins globals : List Name) (events : List Event) (is : List Instruction) → globals ≡ each_once (front (all_names is)) → events ≡ program_events (behind (all_names is)) is →
    answers globals (each_once builtins) [] events ≡ program_answers builtins is
same_answers builtins globals events is g e = λ i. answers (g i) (each_once builtins) [] (e i)

pub returns-in_err-variables-clause-unknown : goal.returns-in_err-variables-clause-unknown
returns-in_err-variables-clause-unknown c =
    let is = program_of c.args.program in
    let same = same_answers c.args.builtins.now _ _ is c.in_ok-walked.ensures.globals c.in_ok-walked.ensures.events in
    let stopped : c.from_residual-in_err-variables.result ≡ Err c.in_err-variables.field-0.0 = search rules in
    told_on c.in_err-variables.field-0.0 c.from_residual-in_err-variables.result _ _ (sym (ap refused same ∙ refused_is c.args.builtins.now is c.requires)) stopped c.in_err-variables.ensures.told

pub returns-clause-variables : goal.returns-clause-variables
returns-clause-variables c =
    let is = program_of c.args.program in
    let same = same_answers c.args.builtins.now _ _ is c.in_ok-walked.ensures.globals c.in_ok-walked.ensures.events in
    c.in_ok-variables.ensures.bound ∙ ap found_in same ∙ variables_are c.args.builtins.now is c.requires

pub returns-clause-globals : goal.returns-clause-globals
returns-clause-globals c = c.in_ok-walked.ensures.globals ∙ ap each_once (globals_are (program_of c.args.program) c.requires)

pub returns-clause-functions : goal.returns-clause-functions
returns-clause-functions c = c.in_ok-functions.ensures ∙ ap sizes_in c.in_ok-walked.ensures.events ∙ functions_are (program_of c.args.program) c.requires

pub returns-clause-known : goal.returns-clause-known
returns-clause-known c =
    let is = program_of c.args.program in
    let same = same_answers c.args.builtins.now _ _ is c.in_ok-walked.ensures.globals c.in_ok-walked.ensures.events in
    sym (ap refused same ∙ refused_is c.args.builtins.now is c.requires) ∙ c.in_ok-variables.ensures.known
