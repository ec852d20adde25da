use Rattle.std.proofs.Common.{◌≡◌, drop, take}
use Rattle.star_grammar.specs.Language.{language}
use Rattle.star_grammar.specs.Standing.{stands, at_first}
use Rattle.star_machine.specs.Pending.{items_of}
use Rattle.star_machine.specs.Turns.{value_of}
use Rattle.star_machine.specs.Weights.{Weighed}
use Rattle.star_read.proofs.Anchored.{Anchored}
use Rattle.star_read.proofs.Answering.{read, read_all}
use Rattle.star_read.proofs.reader.read_tokens.Given as goal

abbrev pub invariant-loop-token : goal.invariant-loop-token
invariant-loop-token l = record {
  same : read (drop l.token-index l.found) l.machine.pending (value_of l.machine) ≡ read_all l.start l.found;
  stand_is : l.stand ≡ stands l.start at_first (take l.token-index l.found);
  anchored : Anchored language (items_of l.machine.pending);
  weighed : Weighed l.weight l.machine.pending l.machine.shapes;
}
