-- What a request is, and which word of a command line is wrong: in terms of how requests are spelled.
use Rattle.std.specs.Prelude.{◌≡◌, ◌⊎◌, ℕ, ◌+◌, ◌-◌, ◌≤◌, Bool, true, false, List, [], ◌∷◌, ◌++◌, length, take, Some, None}
use Rattle.std.specs.List.{list_all}
use Rattle.ytt_spec.specs.Words.{Command, Verb, rendering, Given, alone, apart, joined, are_all_given, command_given, command_options, equals, may_stand, named, verb_word}

-- the words of an option
abbrev pub spelled_one : Given → List (List ℕ)
spelled_one g = elim g.form [ alone ↦ g.name ∷ [] | apart value ↦ g.name ∷ value ∷ [] | joined value ↦ (g.name ++ equals ∷ value) ∷ [] ]

-- the words of options
abbrev pub spelled : List Given → List (List ℕ)
spelled [] = []
spelled (g ∷ gs) = spelled_one g ++ spelled gs

-- it is an option of the command, and may stand so
abbrev pub is_good : Verb → Given → Bool
is_good v g = elim (named g.name (command_options v)) [ None ↦ false | Some o ↦ may_stand o g.form ]

-- a command with these options: behind its word, which `render` may go without
abbrev pub IsSpelled : Verb → List Given → (words : List (List ℕ)) → Type 0
IsSpelled v gs words = ((v ≡ rendering) × (words ≡ spelled gs)) ⊎ (words ≡ verb_word v ∷ spelled gs)

-- A request for this command: options in any order, each as often as it must stand, behind the command's word.
pub record IsRequest (words : List (List ℕ)) (command : Command) : Type 0 where
  pub verb : Verb
  pub given : List Given
  pub spelled_is : IsSpelled verb given words
  pub good : list_all (is_good verb) given ≡ true
  pub complete : are_all_given verb given ≡ true
  pub command_is : command ≡ command_given verb given

-- some request begins with these words
pub record Begins (words : List (List ℕ)) : Type 0 where
  pub more : List (List ℕ)
  pub command : Command
  pub request : IsRequest (words ++ more) command

-- These words are no request, and n is the number of the first one at which no request goes on, or where there is none, the one behind the last word.
pub record IsFirstWrong (words : List (List ℕ)) (n : ℕ) : Type 0 where
  pub before : Begins (take (n - 1) words)
  pub at : n ≤ length words → Begins (take n words) → ⊥
  pub within : n ≤ length words + 1
  pub no_request : (command : Command) → IsRequest words command → ⊥
