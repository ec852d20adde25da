use Rattle.std.proofs.Common.{◌≡◌, ◌∙◌, ◌++◌, ◌∷◌, [], length, ap, sym}
use Rattle.schema_check.specs.declared.types.TypePairs.{out-TypePairs}
use Rattle.schema_check.specs.Places.{and_type}
use Rattle.schema_check.specs.View.{named_of, schema_of}
use Rattle.schema_check.proofs.ByPlace.{named_of-last, same-lengths}
use Rattle.schema_check.proofs.Views.{names-rolled, types-rolled, types_of-is, types_of-rolled}
use Rattle.schema_check.proofs.types.TypePairs.push.Goals as goal

pub returns-clause-ok : goal.returns-clause-ok
returns-clause-ok c =
    let inside = out-TypePairs c.args.self.now in
    let name = c.args.name in
    let schema = c.args.schema in
    let names : c.push-2.new.self ≡ inside.names ++ name ∷ [] = c.in_default.ensures.ok ∙ ap (λ ns. ns ++ name ∷ []) (names-rolled _ _) in
    types_of-rolled _ _ ∙ ap (named_of c.push-2.new.self) (types-rolled _ _) ∙ (λ i. named_of (names i) (c.in_ok-push.ensures.ok i))
    ∙ named_of-last inside.names inside.types name schema c.requires ∙ ap (λ ts. and_type ts name (schema_of schema)) (sym (types_of-is c.args.self.now))

pub returns-clause-whole : goal.returns-clause-whole
returns-clause-whole c =
    let inside = out-TypePairs c.args.self.now in
    let name = c.args.name in
    let schema = c.args.schema in
    let names : c.push-2.new.self ≡ inside.names ++ name ∷ [] = c.in_default.ensures.ok ∙ ap (λ ns. ns ++ name ∷ []) (names-rolled _ _) in
    ap length (names-rolled _ _ ∙ names) ∙ same-lengths inside.names inside.types name schema c.requires
    ∙ sym (ap length (types-rolled _ _ ∙ (types-rolled _ _ ∙ c.in_ok-push.ensures.ok)))
