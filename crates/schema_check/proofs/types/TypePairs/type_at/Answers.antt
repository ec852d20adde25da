use Rattle.std.proofs.Common.{◌≡◌, ◌∙◌, Option, Some, None, Bor, ap, refl, sym}
use Rattle.std.specs.Option.{option_copied, option_map}
use Rattle.schema_spec.specs.Schemas.{type_at}
use Rattle.schema_check.specs.declared.types.Schema.{Schema}
use Rattle.schema_check.specs.declared.types.TypePairs.{out-TypePairs}
use Rattle.schema_check.specs.View.{schema_of}
use Rattle.schema_check.proofs.ByPlace.{at_place, type_at-place}
use Rattle.schema_check.proofs.Views.{types_of-is}
use Rattle.schema_check.proofs.types.TypePairs.type_at.Goals as goal

seen : (o : Option (Bor Schema)) → option_map (λ s. schema_of s.now) o ≡ option_map schema_of (option_copied o)
seen None = refl
seen (Some s) = refl

pub returns-in_err-at : goal.returns-in_err-at
returns-in_err-at c =
    let inside = out-TypePairs c.args.self.now in
    let parts = ap (type_at c.args.name.now) (types_of-is c.args.self.now) ∙ type_at-place c.args.name.now inside.names inside.types in
    ap (option_map (λ s. schema_of s.now)) c.from_residual.ensures ∙ ap (at_place inside.types) c.in_err-at.ensures ∙ sym parts

pub returns : goal.returns
returns c =
    let inside = out-TypePairs c.args.self.now in
    let parts = ap (type_at c.args.name.now) (types_of-is c.args.self.now) ∙ type_at-place c.args.name.now inside.names inside.types in
    seen c.get.result ∙ ap (option_map schema_of) c.get.ensures.value ∙ ap (at_place inside.types) c.in_ok-at.ensures ∙ sym parts
