use Rattle.std.proofs.Common.{◌≡◌, ◌+◌, ◌*◌, ◌^◌, ◌≤◌, length, drop}
use Rattle.text_spec.specs.Cutting.{more_joined}
use Rattle.text_spec.specs.Texts.{texts_of}
use Rattle.text_pieces.proofs.joins.joined_length.Given as goal

abbrev pub invariant-loop-part : goal.invariant-loop-part
invariant-loop-part l = record {
  few : l.total ≤ l.part-index * 2 ^ 64;
  same : l.total + length (more_joined l.between (texts_of (drop l.part-index l.parts))) ≡ length (more_joined l.between (texts_of l.parts));
}
