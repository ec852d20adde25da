use Rattle.std.proofs.Common.{◌∙◌, ap, sym, slice_get}
use Rattle.std.specs.Option.{option_map}
use Rattle.schema_check.specs.declared.types.TypePairs.{out-TypePairs}
use Rattle.schema_check.specs.Places.{entry_at}
use Rattle.schema_check.specs.View.{schema_of}
use Rattle.schema_check.proofs.ByPlace.{both, entry_at-both}
use Rattle.schema_check.proofs.Views.{types_of-is}
use Rattle.schema_check.proofs.types.TypePairs.get.Goals as goal

pub returns-in_err-name : goal.returns-in_err-name
returns-in_err-name c =
    let inside = out-TypePairs c.args.self.now in
    let parts = ap (entry_at c.args.at) (types_of-is c.args.self.now) ∙ entry_at-both c.args.at inside.names inside.types in
    ap (option_map (λ e. (e.0.now, schema_of e.1.now))) c.from_residual.ensures ∙ ap (λ o. both o (slice_get inside.types c.args.at)) c.in_err-name.ensures ∙ sym parts

pub returns-in_err-schema : goal.returns-in_err-schema
returns-in_err-schema c =
    let inside = out-TypePairs c.args.self.now in
    let parts = ap (entry_at c.args.at) (types_of-is c.args.self.now) ∙ entry_at-both c.args.at inside.names inside.types in
    ap (option_map (λ e. (e.0.now, schema_of e.1.now))) c.from_residual-in_err-schema.ensures ∙ (λ i. both (c.in_ok-name.ensures i) (c.in_err-schema.ensures.value i)) ∙ sym parts

pub returns : goal.returns
returns c =
    let inside = out-TypePairs c.args.self.now in
    let parts = ap (entry_at c.args.at) (types_of-is c.args.self.now) ∙ entry_at-both c.args.at inside.names inside.types in
    (λ i. both (c.in_ok-name.ensures i) (c.in_ok-schema.ensures.value i)) ∙ sym parts
