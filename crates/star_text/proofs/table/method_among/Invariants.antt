use Rattle.std.proofs.Common.{◌≡◌, drop}
use Rattle.text_spec.specs.Methods.{method_in}
use Rattle.star_text.specs.View.{named_methods}
use Rattle.star_text.proofs.table.method_among.Given as goal

abbrev pub invariant-loop-method : goal.invariant-loop-method
invariant-loop-method l = method_in l.name (named_methods l.methods) ≡ method_in l.name (named_methods (drop l.method-index l.methods))
