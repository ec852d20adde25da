-- What reading the words answers.
use Rattle.std.specs.Prelude.{◌≡◌, ℕ, ◌+◌, Bool, true, false, if◌then◌else◌, List, [], ◌∷◌, map, Option, Some, None, Result, Ok, Err, string_bytes}
use Rattle.std.specs.Option.{option_map}
use denote.Ref.{Bor}
use Rattle.world_spec.specs.Parts.{Budget}
use Rattle.ytt_spec.specs.Requests.{IsFirstWrong, IsRequest}
use Rattle.ytt_spec.specs.Words.{Asked, Command, CommandOption, Form, Given, Often, Verb, alone, apart, asked_for, at_least_once, command_options, compile, compiling, depth_option, exactly_once, file_option, for_depth, for_ignoring, for_path, for_steps, ignore_option, joined, long_file_option, may_follow, may_stand, named, number_of, one_file_option, one_long_file_option, render, rendering, steps_option, values_of, wrong}
use Rattle.ytt_words.specs.declared.words.Budget.{Budget as BudgetRead}
use Rattle.ytt_words.specs.declared.words.Command.{Command as CommandRead}
use Rattle.ytt_words.specs.declared.words.Command.TheVariants as command
use Rattle.ytt_words.specs.declared.words.CommandOption.{CommandOption as Read}
use Rattle.ytt_words.specs.declared.words.CommandOption.TheVariants as read
use Rattle.ytt_words.specs.declared.words.CompileRequest.{CompileRequest}
use Rattle.ytt_words.specs.declared.words.Form.{Form as FormRead}
use Rattle.ytt_words.specs.declared.words.Form.TheVariants as form
use Rattle.ytt_words.specs.declared.words.OptionWords.{OptionWords}
use Rattle.ytt_words.specs.declared.words.Request.{Request}
use Rattle.ytt_words.specs.declared.words.Values.{Values}
use Rattle.ytt_words.specs.declared.words.Verb.{Verb as VerbRead}
use Rattle.ytt_words.specs.declared.words.Verb.TheVariants as verb
use Rattle.ytt_words.specs.declared.words.WordsStop.{WordsStop}
use Rattle.ytt_words.specs.declared.words.WordsStop.TheVariants as stop

abbrev pub budget_of : BudgetRead → Budget
budget_of b = record { steps = b.steps; depth = b.depth }

-- the command of what `render` and of what `compile` is asked with
abbrev pub render_of : Request → Command
render_of r = render (record { paths = r.paths; budget = budget_of r.budget; ignore_unknown = r.ignore_unknown })

abbrev pub compile_of : CompileRequest → Command
compile_of c = compile (record { path = c.path; ignore_unknown = c.ignore_unknown })

abbrev pub command_of : CommandRead → Command
command_of (command.Render r) = render_of r
command_of (command.Compile c) = compile_of c

abbrev pub seen_verb : VerbRead → Verb
seen_verb verb.Render = rendering
seen_verb verb.Compile = compiling

-- the command that is asked for, or the number of the wrong word; want of memory says nothing
abbrev pub Asks : Asked → Result CommandRead WordsStop → Type 0
Asks asked (Ok c) = asked ≡ asked_for (command_of c)
Asks asked (Err (stop.Wrong n)) = asked ≡ wrong n
Asks asked (Err stop.Memory) = Unit {0}

-- The words are a request for it, or no request, with the number of the first wrong one; want of memory says nothing.
abbrev pub AsksFor : List (List ℕ) → Result CommandRead WordsStop → Type 0
AsksFor words (Ok c) = IsRequest words (command_of c)
AsksFor words (Err (stop.Wrong n)) = IsFirstWrong words n
AsksFor words (Err stop.Memory) = Unit {0}

-- ---- steps of the reading

-- an option of a command
abbrev pub option_of : VerbRead → Read → CommandOption
option_of verb.Render read.File = file_option
option_of verb.Compile read.File = one_file_option
option_of verb.Render read.LongFile = long_file_option
option_of verb.Compile read.LongFile = one_long_file_option
option_of _ read.Steps = steps_option
option_of _ read.Depth = depth_option
option_of _ read.IgnoreUnknown = ignore_option

-- how often a path stands
abbrev pub path_often : Verb → Often
path_often rendering = at_least_once
path_often compiling = exactly_once

abbrev pub form_of : FormRead → Form
form_of form.Alone = alone
form_of (form.Apart value) = apart value.now
form_of (form.Joined value) = joined value.now

abbrev pub text_in : Option (Bor (List ℕ)) → Option (List ℕ)
text_in text = option_map (λ t. t.now) text

abbrev pub one_or_none : {A : Type 0} → Option A → List A
one_or_none None = []
one_or_none (Some x) = x ∷ []

-- the values of a flag that stands once, or not at all
abbrev pub flag_values : (is_given : Bool) → List (List ℕ)
flag_values true = [] ∷ []
flag_values false = []

-- these are the values of the options of a command that were read
pub record HaveRead (v : Verb) (gs : List Given) (values : Values) : Type 0 where
  pub paths : values_of v for_path gs ≡ values.paths
  pub steps : map number_of (values_of v for_steps gs) ≡ one_or_none values.steps
  pub depths : map number_of (values_of v for_depth gs) ≡ one_or_none values.depth
  pub flags : values_of v for_ignoring gs ≡ flag_values values.ignore_unknown

-- an option is one of the command, and may stand behind these
pub record MayFollow (v : VerbRead) (o : CommandOption) (gs : List Given) : Type 0 where
  pub is : named o.name (command_options (seen_verb v)) ≡ Some o
  pub follows : may_follow o.often (values_of (seen_verb v) o.purpose gs) ≡ true

abbrev pub seen_words : OptionWords → Form × ℕ × List (List ℕ)
seen_words w = (form_of w.form, w.last, map string_bytes w.behind.now)

-- the words of an option whose first word has number n, where the next one is its value
abbrev pub next_word : (n : ℕ) → List (List ℕ) → Option (Form × ℕ × List (List ℕ))
next_word n [] = None
next_word n (word ∷ words) = Some (apart word, n + 1, words)

-- the words of an option whose first word has number n: how it stands in them, the number of the last one, and the words behind
abbrev pub words_behind : CommandOption → (n : ℕ) → Option (List ℕ) → List (List ℕ) → Option (Form × ℕ × List (List ℕ))
words_behind o n (Some value) words = Some (joined value, n, words)
words_behind o n None words = if may_stand o alone then Some (alone, n, words) else next_word n words
