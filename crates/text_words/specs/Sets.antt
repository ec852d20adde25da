-- Sets of characters that are stripped.
use Rattle.std.specs.Prelude.{ℕ, List}
use Rattle.text_spec.specs.Texts.{texts_of}
use Rattle.text_words.specs.Strips.{AreCharacters, HasAllIfAny}
use Rattle.text_words.specs.declared.character_set.CharacterSet.{CharacterSet}

abbrev pub characters_in : CharacterSet → List (List ℕ)
characters_in set = texts_of set.given.now

-- what is given are characters, and a set that is made has all of them
abbrev pub IsCharacterSet : CharacterSet → Type 0
IsCharacterSet set = AreCharacters (characters_in set) × HasAllIfAny set.many (characters_in set)
