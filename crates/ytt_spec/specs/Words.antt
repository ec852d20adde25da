-- What the words of a command line ask for.
use Rattle.std.specs.Prelude.{ℕ, ◌+◌, ◌==◌, Bool, true, false, nat_le, ◌&&◌, List, [], ◌∷◌, ◌++◌, length, codes, bytes_eq, Option, Some, None, is_some, option_and_then, unwrap_or, if◌then◌else◌}
use Rattle.std.specs.List.{list_all}
use Rattle.std.specs.Option.{option_map_or}
use Rattle.std.specs.Str.{all_ascii_digits}
use Rattle.std.specs.Str.Parse.{digits_value}
use Rattle.world_spec.specs.Parts.{Budget}

-- what `render` is asked with: the paths in their order, the budget of the run, and whether comments of no known form may stand in a template
pub record Render : Type 0 where
  pub paths : List (List ℕ)
  pub budget : Budget
  pub ignore_unknown : Bool

-- what `compile` is asked with: the path of the file whose listing is wanted, and whether comments of no known form may stand in it
pub record Compile : Type 0 where
  pub path : List ℕ
  pub ignore_unknown : Bool

-- what may be asked for
pub data Command : Type 0 where
  render : Render → Command
  compile : Compile → Command

-- a command by its word
pub data Verb : Type 0 where
  rendering : Verb
  compiling : Verb

-- a command, or the number, from 1, of the first word at which no request goes on
pub data Asked : Type 0 where
  asked_for : Command → Asked
  wrong : ℕ → Asked

-- ---- values

-- a path has 1 to 1,024 bytes
abbrev pub is_path : List ℕ → Bool
is_path path = nat_le 1 (length path) && nat_le (length path) 1024

-- how many steps a run takes where the words don't say, and how many they may say
abbrev pub default_steps : ℕ
default_steps = 5000000

abbrev pub most_steps : ℕ
most_steps = 20000000

-- the same for how deep calls stand in one another
abbrev pub default_depth : ℕ
default_depth = 100

abbrev pub most_depth : ℕ
most_depth = 100

abbrev pub number_of : List ℕ → ℕ
number_of word = digits_value 10 word

-- 1 to 8 decimal digits
abbrev pub is_number : List ℕ → Bool
is_number word = nat_le 1 (length word) && nat_le (length word) 8 && all_ascii_digits word

-- whose number is from 1 to the most that there may be
abbrev pub is_number_to : (most : ℕ) → List ℕ → Bool
is_number_to most word = is_number word && (nat_le 1 (number_of word) && nat_le (number_of word) most)

abbrev pub is_steps : List ℕ → Bool
is_steps word = is_number_to most_steps word

abbrev pub is_depth : List ℕ → Bool
is_depth word = is_number_to most_depth word

-- ---- options

-- how often an option may stand
pub data Often : Type 0 where
  at_least_once : Often
  exactly_once : Often
  at_most_once : Often

-- what an option takes: a value, by the texts that are one, or none, as a flag
pub data Takes : Type 0 where
  a_value : (List ℕ → Bool) → Takes
  no_value : Takes

-- what an option is given for; it may have more than one name
pub data Purpose : Type 0 where
  for_path : Purpose
  for_steps : Purpose
  for_depth : Purpose
  for_ignoring : Purpose

abbrev pub same_purpose : Purpose → Purpose → Bool
same_purpose for_path for_path = true
same_purpose for_steps for_steps = true
same_purpose for_depth for_depth = true
same_purpose for_ignoring for_ignoring = true
same_purpose _ _ = false

-- an option by one of its names: whether that is a long one, whose value may stand behind `=` in the same word; what it is given for; how
-- often it may stand, by all of its names together; and what it takes
pub record CommandOption : Type 0 where
  pub name : List ℕ
  pub is_long : Bool
  pub purpose : Purpose
  pub often : Often
  pub takes : Takes

abbrev pub file_option : CommandOption
file_option = record { name = codes "-f"; is_long = false; purpose = for_path; often = at_least_once; takes = a_value is_path }

abbrev pub long_file_option : CommandOption
long_file_option = record { name = codes "--file"; is_long = true; purpose = for_path; often = at_least_once; takes = a_value is_path }

abbrev pub steps_option : CommandOption
steps_option = record { name = codes "--steps"; is_long = true; purpose = for_steps; often = at_most_once; takes = a_value is_steps }

abbrev pub depth_option : CommandOption
depth_option = record { name = codes "--depth"; is_long = true; purpose = for_depth; often = at_most_once; takes = a_value is_depth }

abbrev pub ignore_option : CommandOption
ignore_option = record { name = codes "--ignore-unknown-comments"; is_long = true; purpose = for_ignoring; often = at_most_once; takes = no_value }

-- those of a command that wants one file alone
abbrev pub one_file_option : CommandOption
one_file_option = record file_option { often = exactly_once }

abbrev pub one_long_file_option : CommandOption
one_long_file_option = record long_file_option { often = exactly_once }

-- all options of a command
abbrev pub command_options : Verb → List CommandOption
command_options rendering = file_option ∷ long_file_option ∷ steps_option ∷ depth_option ∷ ignore_option ∷ []
command_options compiling = one_file_option ∷ one_long_file_option ∷ ignore_option ∷ []

-- the option of this name
abbrev pub named : List ℕ → List CommandOption → Option CommandOption
named name [] = None
named name (o ∷ os) = if bytes_eq name o.name then Some o else named name os

-- how an option stands in the words: alone, with the next word as its value, or with its value behind `=` in the same word
pub data Form : Type 0 where
  alone : Form
  apart : (value : List ℕ) → Form
  joined : (value : List ℕ) → Form

abbrev pub is_flag : Takes → Bool
is_flag no_value = true
is_flag (a_value is_value) = false

-- it takes this text
abbrev pub takes_text : Takes → List ℕ → Bool
takes_text no_value text = false
takes_text (a_value is_value) text = is_value text

-- a flag stands alone, another option with a value of it, and in one word only a long one
abbrev pub may_stand : CommandOption → Form → Bool
may_stand o alone = is_flag o.takes
may_stand o (apart value) = takes_text o.takes value
may_stand o (joined value) = o.is_long && takes_text o.takes value

-- an option that stands in the words
pub record Given : Type 0 where
  pub name : List ℕ
  pub form : Form

-- its value; a flag has the empty one
abbrev pub value_of : Form → List ℕ
value_of alone = []
value_of (apart value) = value
value_of (joined value) = value

-- the option of this name is for this
abbrev pub is_for : Purpose → Option CommandOption → Bool
is_for purpose None = false
is_for purpose (Some o) = same_purpose purpose o.purpose

-- the values that the options of a command for this have, in their order
abbrev pub values_of : Verb → Purpose → List Given → List (List ℕ)
values_of v purpose [] = []
values_of v purpose (g ∷ gs) = if is_for purpose (named g.name (command_options v)) then value_of g.form ∷ values_of v purpose gs else values_of v purpose gs

-- an option may have these values, and no others
abbrev pub may_have : Often → List (List ℕ) → Bool
may_have at_most_once [] = true
may_have _ [] = false
may_have _ (x ∷ []) = true
may_have at_least_once (x ∷ y ∷ xs) = true
may_have _ (x ∷ y ∷ xs) = false

-- an option that has these values may stand once more
abbrev pub may_follow : Often → List (List ℕ) → Bool
may_follow at_least_once xs = true
may_follow _ [] = true
may_follow _ (x ∷ xs) = false

-- each option of the command stands as often as it must
abbrev pub are_all_given : Verb → List Given → Bool
are_all_given v gs = list_all (λ o. may_have o.often (values_of v o.purpose gs)) (command_options v)

abbrev pub first_of : List (List ℕ) → Option (List ℕ)
first_of [] = None
first_of (x ∷ xs) = Some x

-- the number that the option of this name has, or this one where it isn't there
abbrev pub number_given : CommandOption → (default : ℕ) → List Given → ℕ
number_given o default gs = option_map_or number_of (first_of (values_of rendering o.purpose gs)) default

-- a flag stands in the words
abbrev pub is_given : Verb → Purpose → List Given → Bool
is_given v purpose gs = is_some (first_of (values_of v purpose gs))

-- the command that is asked for with these options
abbrev pub command_given : Verb → List Given → Command
command_given rendering gs = render (record {
  paths = values_of rendering for_path gs;
  budget = record { steps = number_given steps_option default_steps gs; depth = number_given depth_option default_depth gs };
  ignore_unknown = is_given rendering for_ignoring gs;
})
command_given compiling gs = compile (record { path = unwrap_or (first_of (values_of compiling for_path gs)) []; ignore_unknown = is_given compiling for_ignoring gs })

-- ---- words

abbrev pub equals : ℕ
equals = 61

-- what stands before the first `=` of a word, or all of it, and what stands behind
abbrev pub name_in : List ℕ → List ℕ
name_in [] = []
name_in (b ∷ bs) = if b == equals then [] else b ∷ name_in bs

abbrev pub value_in : List ℕ → Option (List ℕ)
value_in [] = None
value_in (b ∷ bs) = if b == equals then Some bs else value_in bs

-- the option of this name, where it may stand behind those that are given
abbrev pub begun : Verb → List Given → (name : List ℕ) → Option CommandOption
begun v gs name = option_and_then (λ o. if may_follow o.often (values_of v o.purpose gs) then Some o else None) (named name (command_options v))

abbrev pub added : List Given → List ℕ → Form → List Given
added gs name form = gs ++ record { name = name; form = form } ∷ []

abbrev mutual
  -- the words of a command from number n on, behind these options; where a word is missing, its number is the one behind the last
  pub asked_from : Verb → ℕ → List Given → List (List ℕ) → Asked
  asked_from v n gs [] = if are_all_given v gs then asked_for (command_given v gs) else wrong n
  asked_from v n gs (word ∷ words) =
      elim (begun v gs (name_in word)) [
        | None ↦ wrong n
        | Some o ↦ elim (value_in word) [
          | Some value ↦ if may_stand o (joined value) then asked_from v (n + 1) (added gs (name_in word) (joined value)) words else wrong n
          | None ↦ if may_stand o alone then asked_from v (n + 1) (added gs (name_in word) alone) words else asked_value v (n + 1) gs o (name_in word) words
        ]
      ]

  -- the same, where the first word is the value of an option
  pub asked_value : Verb → ℕ → List Given → CommandOption → (name : List ℕ) → List (List ℕ) → Asked
  asked_value v n gs o name [] = wrong n
  asked_value v n gs o name (value ∷ words) = if may_stand o (apart value) then asked_from v (n + 1) (added gs name (apart value)) words else wrong n

-- the word of a command
abbrev pub verb_word : Verb → List ℕ
verb_word rendering = codes "render"
verb_word compiling = codes "compile"

-- the command of a word
abbrev pub verb_of : List ℕ → Option Verb
verb_of word = if bytes_eq word (verb_word rendering) then Some rendering else if bytes_eq word (verb_word compiling) then Some compiling else None

-- the command, which is `render` where its word is left out, and then its options
abbrev pub asked : List (List ℕ) → Asked
asked [] = wrong 1
asked (word ∷ words) = elim (verb_of word) [ Some v ↦ asked_from v 2 [] words | None ↦ asked_from rendering 1 [] (word ∷ words) ]
