-- The names of a template's program are the template's.
use Rattle.std.proofs.Common.{◌≡◌, ℕ, List, [], Option, Some, None, Ok, Err, refl, sym, ap, ◌∙◌, IsSome, subst}
use Rattle.ytt_base.specs.Outcomes.{Outcome}
use Rattle.ytt_base.specs.declared.fault.Fault.{Fault}
use Rattle.code_spec.specs.Blocks.{blocks, whole, no_ops}
use Rattle.code_spec.specs.Program.{Instruction}
use Rattle.code_spec.specs.Scopes.{Use, program_names, program_uses, names_of_file, uses_of_file, unknown_first}
use Rattle.star_resolve.specs.Variables.{fault_of_use, program_fault}
use Rattle.template_spec.specs.Compiled.{compiled}
use Rattle.template_spec.specs.Names.{items_names}
use Rattle.code_spec.specs.Names.{language_names}
use Rattle.template_spec.specs.Numbered.{numbered}
use Rattle.passes_spec.specs.Passes.{bound, unless_unknown}
use Rattle.template_spec.specs.Template.{Items}
use Rattle.template_spec.specs.Uses.{items_uses}
use Rattle.template_spec.proofs.NamesAgree.{same_names}
use Rattle.template_spec.proofs.Nested.{compiled_blocks, items_ops}
use Rattle.template_spec.proofs.UsesAgree.{same_uses}
use Rattle.template_program.proofs.NamesKeep.{names_same, uses_same}

blocks_of : (t : Items) → blocks (compiled t) ≡ Some (items_ops t no_ops)
blocks_of t = ap whole (compiled_blocks t)

-- a template's program is cut into its blocks
pub has_blocks : (t : Items) (is : List Instruction) → is ≡ compiled t → IsSome (blocks is)
has_blocks t is e = subst IsSome (sym (ap blocks e ∙ blocks_of t)) refl

-- numbers change none of its names
names_of : (t : Items) → program_names (compiled (numbered t)) ≡ items_names t
names_of t = ap names_of_file (blocks_of (numbered t)) ∙ same_names (numbered t) ∙ names_same t

uses_of : (t : Items) → program_uses (compiled (numbered t)) ≡ items_uses [] t
uses_of t = ap uses_of_file (blocks_of (numbered t)) ∙ same_uses (numbered t) ∙ uses_same t

-- what is told of a name that is bound nowhere
abbrev told : Items → Option Fault → Outcome Items
told t None = Ok t
told t (Some f) = Err f

told_of_use : (t : Items) (u : Option Use) → told t (fault_of_use u) ≡ unless_unknown t u
told_of_use t None = refl
told_of_use t (Some u) = refl

-- what resolving the program tells is what is said of the template's names
told_of : (t : Items) (is : List Instruction) (names : List (List ℕ)) → is ≡ compiled (numbered t) → names ≡ language_names → told t (program_fault names is) ≡ bound t
told_of t is names e n =
    (λ i. told t (program_fault (n i) (e i)))
    ∙ (λ i. told t (fault_of_use (unknown_first (names_of t i) language_names (uses_of t i))))
    ∙ told_of_use t (unknown_first (items_names t) language_names (items_uses [] t))

pub all_bound : (t : Items) (is : List Instruction) (names : List (List ℕ)) → is ≡ compiled (numbered t) → names ≡ language_names → program_fault names is ≡ None → bound t ≡ Ok t
all_bound t is names e n k = sym (told_of t is names e n) ∙ ap (told t) k

pub bound_refuses : (t : Items) (is : List Instruction) (names : List (List ℕ)) (f : Fault) → is ≡ compiled (numbered t) → names ≡ language_names → program_fault names is ≡ Some f → bound t ≡ Err f
bound_refuses t is names f e n k = sym (told_of t is names e n) ∙ ap (told t) k
