use Rattle.std.proofs.Common.{◌∙◌, ap}
use Rattle.ytt_base.proofs.Views.{tree_of-Map}
use Rattle.ytt_base.specs.declared.tree.Tree.TheVariants as held
use Rattle.ytt_base.specs.Trees.{map}
use Rattle.ytt_base.specs.View.{pairs_of, tree_of}
use Rattle.schema_spec.specs.Offences.{fill}
use Rattle.schema_spec.specs.Schemas.{simple}
use Rattle.schema_check.proofs.Views.{kind_of-Map}
use Rattle.schema_check.specs.View.{schema_of, types_of}
use Rattle.schema_read.proofs.Made.{map-made}
use Rattle.schema_read.proofs.types.map_schema.Goals as goal

pub returns : goal.returns
returns c =
    let own = c.simple-schema.result in
    let same = c.simple-schema.ensures ∙ ap (λ k. simple k (tree_of held.Null)) (kind_of-Map c.args.types) in
    map-made own (types_of c.args.types) _ c.in_ok-schema.field-0 same (c.in_ok-schema.ensures ∙ ap (fill (schema_of own)) (tree_of-Map c.new.result ∙ ap (λ ps. map (pairs_of ps)) c.new.ensures))
