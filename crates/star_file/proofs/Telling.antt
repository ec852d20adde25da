-- What is told of a program of a file of code: its names first, and then what of it isn't built.
use Rattle.std.proofs.Common.{◌≡◌, ℕ, List, [], Option, Some, None, Result, Ok, Err, OnOk, refl, sym, ap, ◌∙◌, subst}
use Rattle.ytt_base.specs.Outcomes.{Gives, Outcome, and_then, fault_at}
use Rattle.ytt_base.specs.declared.fault.Fault.{Fault}
use Rattle.ytt_base.specs.declared.fault.FaultKind.TheVariants as kind
use Rattle.ytt_base.specs.declared.fault.Place.{Place}
use Rattle.ytt_base.specs.declared.fault.Stop.{Stop}
use Rattle.ytt_base.specs.declared.fault.Stop.TheVariants as stop
use Rattle.code_spec.specs.Blocks.{Ops, blocks}
use Rattle.code_spec.specs.Names.{language_names}
use Rattle.code_spec.specs.Program.{Instruction}
use Rattle.code_spec.specs.Scopes.{Use, names_of_file, program_names, program_uses, unknown_first, uses_of_file}
use Rattle.star_resolve.specs.Variables.{IfFault, IfRefused, fault_of_use, program_fault}
use Rattle.star_resolve.specs.declared.binding.Resolved.{Resolved}
use Rattle.template_spec.specs.Names.{items_names}
use Rattle.passes_spec.specs.Passes.{all_built, bound, unless_unbuilt, unless_unknown}
use Rattle.template_spec.specs.Template.{Items}
use Rattle.passes_spec.specs.Unbuilt.{first_unbuilt}
use Rattle.template_spec.specs.Uses.{items_uses}
use Rattle.template_spec.proofs.NamesAgree.{same_names}
use Rattle.template_spec.proofs.Nested.{blocks_of, to_ops}
use Rattle.template_spec.proofs.UsesAgree.{same_uses}
use Rattle.world_spec.proofs.CodeBlocks.{code_is_compiled}
use Rattle.world_spec.specs.StarFiles.{AreCode, ops_items}
use Rattle.world_spec.specs.Units.{passed}
use Rattle.star_file.specs.Loads.{load_places}
use Rattle.star_file.specs.Passing.{Bound}
use Rattle.star_file.proofs.Loading.{loaded_places}

abbrev told : Items → Option Fault → Outcome Items
told t None = Ok t
told t (Some f) = Err f

told_of_use : (t : Items) (u : Option Use) → told t (fault_of_use u) ≡ unless_unknown t u
told_of_use t None = refl
told_of_use t (Some u) = refl

module _ (is : List Instruction) (os : Ops) (code : AreCode os) (e : blocks is ≡ Some os) where
  abbrev t : Items
  t = ops_items os

  -- ---- names

  same_blocks : blocks is ≡ Some (to_ops t)
  same_blocks = e ∙ sym (code_is_compiled os code) ∙ blocks_of t

  names_of : program_names is ≡ items_names t
  names_of = ap names_of_file same_blocks ∙ same_names t

  uses_of : program_uses is ≡ items_uses [] t
  uses_of = ap uses_of_file same_blocks ∙ same_uses t

  -- what resolving the program tells is what is said of the names of its items
  told_of : (names : List (List ℕ)) → names ≡ language_names → told t (program_fault names is) ≡ bound t
  told_of names n =
      ap (λ n. told t (program_fault n is)) n
      ∙ (λ i. told t (fault_of_use (unknown_first (names_of i) language_names (uses_of i))))
      ∙ told_of_use t (unknown_first (items_names t) language_names (items_uses [] t))

  pub all_bound : (names : List (List ℕ)) → names ≡ language_names → program_fault names is ≡ None → bound t ≡ Ok t
  all_bound names n k = sym (told_of names n) ∙ ap (told t) k

  pub one_unknown : (X : Type 0) (names : List (List ℕ)) (s : Stop) → names ≡ language_names → IfFault s (λ f. program_fault names is ≡ Some f) → Gives {X = X} (λ r. t) (Err s) (bound t)
  one_unknown X names (stop.Fault f) n k = sym (told_of names n) ∙ ap (told t) k
  one_unknown X names stop.Memory n k = tt

  -- ---- what isn't built

  module _ (o : Option Place) (first : o ≡ first_unbuilt (load_places is)) where
    built_or : bound t ≡ Ok t → passed t ≡ unless_unbuilt t o
    built_or known = ap (and_then all_built) known ∙ ap (unless_unbuilt t) (sym (first ∙ ap first_unbuilt (loaded_places is os e)))

    pub built_whole : bound t ≡ Ok t → o ≡ None → passed t ≡ Ok t
    built_whole known none = built_or known ∙ ap (unless_unbuilt t) none

    pub one_unbuilt : (X : Type 0) (p : Place) (s : Stop) → s ≡ stop.Fault (fault_at kind.NotBuilt p) → bound t ≡ Ok t → o ≡ Some p → Gives {X = X} (λ r. t) (Err s) (passed t)
    one_unbuilt X p s same known some = subst (λ s. Gives {X = X} (λ r. t) (Err s) (passed t)) (sym same) (built_or known ∙ ap (unless_unbuilt t) some)

-- what resolving tells
pub names_pass : (is : List Instruction) (names : List (List ℕ)) (result : Result Resolved Stop) → names ≡ language_names → OnOk result (program_fault names is ≡ None) →
    IfRefused result (λ f. program_fault names is ≡ Some f) → Bound is result
names_pass is names (Ok q) n known told = λ os code e. all_bound is os code e names n known
names_pass is names (Err s) n known told = λ os code e. one_unknown is os code e Resolved names s n told

-- a name that is refused is told first
pub refused_first : (X : Type 0) (t : Items) (s : Stop) → Gives {X = X} (λ r. t) (Err s) (bound t) → Gives {X = X} (λ r. t) (Err s) (passed t)
refused_first X t (stop.Fault f) e = ap (and_then all_built) e
refused_first X t stop.Memory e = tt
