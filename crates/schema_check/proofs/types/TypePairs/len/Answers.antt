use Rattle.std.proofs.Common.{◌∙◌, ap, sym, min}
use Rattle.schema_check.specs.declared.types.TypePairs.{out-TypePairs}
use Rattle.schema_check.specs.Places.{type_count}
use Rattle.schema_check.proofs.ByPlace.{type_count-min}
use Rattle.schema_check.proofs.Views.{types_of-is}
use Rattle.schema_check.proofs.types.TypePairs.len.Goals as goal

pub returns : goal.returns
returns c =
    let inside = out-TypePairs c.args.self.now in
    let parts = ap type_count (types_of-is c.args.self.now) ∙ type_count-min inside.names inside.types in
    c.min.ensures ∙ (λ i. min (c.len.ensures i) (c.len-2.ensures i)) ∙ sym parts
