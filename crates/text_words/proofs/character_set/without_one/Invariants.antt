use Rattle.std.proofs.Common.{◌≡◌, length}
use Rattle.text_spec.specs.Texts.{texts_of}
use Rattle.text_words.specs.Strips.{AreCharacters, cut_at}
use Rattle.text_words.proofs.character_set.without_one.Given as goal

abbrev pub invariant-loop-parts : goal.invariant-loop-parts
invariant-loop-parts l = record {
  characters : AreCharacters (texts_of l.parts);
  same : cut_at l.end (texts_of l.parts) l.text ≡ cut_at l.end (texts_of l.set) l.text;
}

abbrev pub decreases-loop-parts : goal.decreases-loop-parts
decreases-loop-parts l = length l.parts
