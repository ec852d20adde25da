use Rattle.std.proofs.Common.{◌≡◌, ap, sym, subst, ◌∙◌, map as each}
use Rattle.std.specs.Prelude.{string_bytes}
use Rattle.star_resolve.specs.Variables.{each_once, with_name}
use Rattle.star_resolve.proofs.OneBox.{once_kept}
use Rattle.star_resolve.proofs.Sets.{added}
use Rattle.star_resolve.proofs.scope.Scope.add.Goals as goal

pub invariant_of-self-2 : goal.invariant_of-self-2
invariant_of-self-2 c =
    let names = each string_bytes c.self.inside.names.keys in
    let more : each string_bytes c.insert.new.self.keys ≡ with_name names (string_bytes c.in_ok-from_str.field-0) =
    ap (λ ks. each string_bytes ks) c.in_ok-insert.ensures.keys ∙ added c.in_ok-from_str.field-0 c.self.inside.names.keys
    in subst (λ ns. each_once ns ≡ ns) (sym more) (once_kept names (string_bytes c.in_ok-from_str.field-0) c.self.invariant)

pub returns : goal.returns
returns c =
    ap (λ ks. each string_bytes ks) c.in_ok-insert.ensures.keys
    ∙ added c.in_ok-from_str.field-0 c.self.inside.names.keys
    ∙ (λ i. with_name (c.self.view_is i) ((c.in_ok-from_str.ensures.ok ∙ c.as_str.ensures) i))
