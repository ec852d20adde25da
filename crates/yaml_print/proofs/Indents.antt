-- The spaces of an indent inside another.
use Rattle.std.proofs.Common.{◌≡◌, ℕ, ◌+◌, ◌∷◌, Some, ap, ◌∙◌, Bor, arith, suc}
use Rattle.yaml_print.specs.declared.indent.Indent.{Indent, out-Indent, fold_out-Indent}
use Rattle.yaml_print.specs.Indent.{width, width_step}
use Rattle.yaml_spec.specs.Text.{spaces}

width-inside : (i : Indent) (o : Bor Indent) → (out-Indent i).outer ≡ Some o → width i ≡ width o.now + 2
width-inside i o e = rw (fold_out-Indent ℕ width_step i, e)

spaces-two : (n : ℕ) → spaces (n + 2) ≡ 32 ∷ 32 ∷ spaces n
spaces-two n = let e : n + 2 ≡ suc (suc n) = omega arith in rw e

pub spaces-inside : (i : Indent) (o : Bor Indent) → (out-Indent i).outer ≡ Some o → spaces (width i) ≡ 32 ∷ 32 ∷ spaces (width o.now)
spaces-inside i o e = ap spaces (width-inside i o e) ∙ spaces-two (width o.now)
