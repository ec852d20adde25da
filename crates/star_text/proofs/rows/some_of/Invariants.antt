use Rattle.std.proofs.Common.{◌≡◌, drop}
use Rattle.text_spec.specs.Methods.{some_of}
use Rattle.text_spec.specs.Texts.{texts_of}
use Rattle.star_text.specs.View.{at_end}
use Rattle.star_text.proofs.rows.some_of.Given as goal

abbrev pub invariant-loop-part : goal.invariant-loop-part
invariant-loop-part l = some_of (λ x. at_end l.end x l.text) (texts_of (drop l.part-index l.parts)) ≡ some_of (λ x. at_end l.end x l.text) (texts_of l.parts)
