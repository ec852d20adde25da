use Rattle.std.proofs.Common.{subst, sym}
use Rattle.text_words.specs.Strips.{AreCharacters}
use Rattle.text_words.proofs.Stripping.{are_characters}
use Rattle.text_words.proofs.character_set.characters_of.Goals as goal

pub returns-in-Some-clause-characters : goal.returns-in-Some-clause-characters
returns-in-Some-clause-characters c =
    let given = rw c.in-Some.is at c.requires in
    subst AreCharacters (sym given.1) (are_characters given.0)
