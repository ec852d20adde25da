-- Paths of modules.
use Rattle.std.proofs.Common.{◌≡◌, ◌∙◌, ℕ, nat_eq, List, [], ◌∷◌, option_map, refl, drop, length, Option, Some, None, MatchOption, true, false, sym, ap, subst, Bor}
use Rattle.std.specs.List.{starts_with}
use Rattle.std.specs.Str.{IsCharBoundary}
use Rattle.std.specs.Str.Pattern.{FindsTextPrefix, StripsPrefix}
use Rattle.std.proofs.lemmas.Str.Pattern.{starts_text}
use Rattle.code_spec.specs.Code.{Name}
use Rattle.load_names.specs.Loads.{globals_of}
use Rattle.load_names.specs.Made.{globals_made, module_globals}
use Rattle.module_spec.specs.Modules.{module_in, modules}
use Rattle.star_values.specs.View.{View}
use Rattle.star_values.specs.declared.value.NamedValue.{NamedValue}
use Rattle.template_meaning.specs.Files.{Globals, Loading, loaded, missing}
use Rattle.value_spec.specs.Values.{Value}
use Rattle.world_spec.specs.Worlds.{module_loading}

pub strips : (s front : List ℕ) (r : Option (Bor (List ℕ))) → MatchOption r (FindsTextPrefix front s None) (λ x. StripsPrefix (FindsTextPrefix front) s x.now) →
    MatchOption r (starts_with nat_eq s front ≡ false) (λ x. (starts_with nat_eq s front ≡ true) × (x.now ≡ drop (length front) s))
strips s front None h = sym (starts_text false front s h)
strips s front (Some x) h =
    let boundary = subst (λ (n : ℕ). IsCharBoundary s n) (sym h.1.0) h.1.2 in
    (sym (starts_text true front s (h.0, h.1, boundary)), h.2 ∙ ap (λ (n : ℕ). drop n s) h.1.0)

-- ---- what was made of a module

abbrev as_loading : Option Globals → Loading
as_loading None = missing
as_loading (Some gs) = loaded gs

as_module : (m : Option (Name × Value)) → as_loading (option_map (λ m. m ∷ []) m) ≡ module_loading m
as_module None = refl
as_module (Some m) = refl

pub no_module : (a : View) (x : Name) → globals_made a None ≡ module_globals x → missing ≡ module_loading (module_in x modules)
no_module a x h = ap as_loading h ∙ as_module (module_in x modules)

pub a_module : (a : View) (x : Name) (gs : List NamedValue) → globals_made a (Some gs) ≡ module_globals x → loaded (globals_of a gs) ≡ module_loading (module_in x modules)
a_module a x gs h = ap as_loading h ∙ as_module (module_in x modules)
