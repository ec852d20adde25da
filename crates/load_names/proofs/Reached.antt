-- The names of a load statement, one behind another.
use Rattle.std.proofs.Common.{◌≡◌, ◌++◌, ◌+◌, ◌<◌, ℕ, List, [], ◌∷◌, Some, None, Err, sym, ap, ◌∙◌, append-nil, append_assoc, drop, get_or, length}
use Rattle.std.proofs.lemmas.List.{drop_more, map-append}
use Rattle.ytt_base.specs.declared.fault.FaultKind.TheVariants as kind
use Rattle.ytt_base.specs.declared.fault.Place.{Place}
use Rattle.ytt_base.specs.declared.fault.Stop.{Stop}
use Rattle.ytt_base.specs.declared.fault.Stop.TheVariants as stop
use Rattle.code_spec.specs.Code.{Name, LoadedNames, no_loaded, a_loaded}
use Rattle.star_tree.specs.Whole.{loaded_names_of}
use Rattle.star_tree.specs.declared.code.Loaded.{Loaded}
use Rattle.star_values.specs.View.{View, value_of}
use Rattle.star_values.specs.declared.value.NamedValue.{NamedValue}
use Rattle.template_meaning.specs.Files.{Globals, names_loaded, value_among, value_loaded}
use Rattle.value_spec.proofs.Computations.{then_assoc, then_ext, then_give}
use Rattle.value_spec.specs.Outcomes.{State, done, bad, give, then_do}
use Rattle.value_spec.specs.Values.{Value}
use Rattle.load_names.specs.Loads.{FaultsWith, NamesLoaded, World, globals_of}

-- what a load statement's names are comes to what these are that are left, behind those that are here
abbrev pub Reaches : Place → (globals : Globals) → (names left : LoadedNames) → (here : Globals) → Type 0
Reaches p gs names left here = (s : State World) → names_loaded p gs names s ≡ then_do (names_loaded p gs left s) (λ more. give (here ++ more))

-- what is left to do where so many were got
pub record Got (p : Place) (globals : Globals) (names left : LoadedNames) (new old : Globals) : Type 0 where
  pub here : Globals
  pub reaches : Reaches p globals names left here
  pub behind : new ≡ old ++ here

pub none_got : (p : Place) (gs : Globals) (names : LoadedNames) (old : Globals) → Got p gs names names old old
none_got p gs names old = record {
  here = [];
  reaches = λ s. then_give (names_loaded p gs names s);
  behind = sym (append-nil old);
}

-- the next one is there
one_reached : (p : Place) (gs : Globals) (names left : LoadedNames) (x origin : Name) (v : Value) (here : Globals) → value_among origin gs ≡ Some v → Reaches p gs names (a_loaded x origin left) here → Reaches p gs names left (here ++ (x, v) ∷ [])
one_reached p gs names left x origin v here there reaches = λ s.
    let rest = names_loaded p gs left s in
    reaches s
    ∙ (λ i. then_do (then_do (value_loaded p origin (there i) s) (λ v. λ t. then_do (names_loaded p gs left t) (λ more. give ((x, v) ∷ more)))) (λ more. give (here ++ more)))
    ∙ then_assoc rest (λ more. give ((x, v) ∷ more)) (λ more. give (here ++ more))
    ∙ then_ext rest (λ more. give (here ++ (x, v) ∷ more)) (λ more. give ((here ++ (x, v) ∷ []) ++ more)) (λ more t. ap (λ l. done l t) (sym (append_assoc here ((x, v) ∷ []) more)))

pub one_got : (p : Place) (gs : Globals) (names left : LoadedNames) (x origin : Name) (v : Value) (old now new : Globals) → value_among origin gs ≡ Some v → Got p gs names (a_loaded x origin left) now old → new ≡ now ++ (x, v) ∷ [] → Got p gs names left new old
one_got p gs names left x origin v old now new there g e = record {
  here = g.here ++ (x, v) ∷ [];
  reaches = one_reached p gs names left x origin v g.here there g.reaches;
  behind = e ∙ ap (λ l. l ++ (x, v) ∷ []) g.behind ∙ append_assoc old g.here ((x, v) ∷ []);
}

-- none is left
pub all_got : (p : Place) (gs : Globals) (names left : LoadedNames) (new old : Globals) → left ≡ no_loaded → Got p gs names left new old → (here : Globals) × ((s : State World) → names_loaded p gs names s ≡ done here s) × (new ≡ old ++ here)
all_got p gs names left new old e g = (
  g.here,
  λ s. g.reaches s ∙ ap (λ l. then_do (names_loaded p gs l s) (λ more. give (g.here ++ more))) e ∙ ap (λ l. done l s) (append-nil g.here),
  g.behind,
)

-- the next one isn't there
pub one_missing : (p : Place) (gs : Globals) (names left : LoadedNames) (x origin : Name) (old now new : Globals) (e : Stop) → value_among origin gs ≡ None → Got p gs names (a_loaded x origin left) now old → FaultsWith kind.LoadMissing p origin e → NamesLoaded p gs names (Err e) new old
one_missing p gs names left x origin old now new (stop.Fault f) none g is = λ s.
    g.reaches s
    ∙ (λ i. then_do (then_do (value_loaded p origin (none i) s) (λ v. λ t. then_do (names_loaded p gs left t) (λ more. give ((x, v) ∷ more)))) (λ more. give (g.here ++ more)))
    ∙ ap (λ f. bad f s) (sym is)
one_missing p gs names left x origin old now new stop.Memory none g is = tt

-- ---- names with values

pub globals_joined : (a : View) (xs ys : List NamedValue) → globals_of a (xs ++ ys) ≡ globals_of a xs ++ globals_of a ys
globals_joined a xs ys = map-append (λ v. (v.name, value_of a v.value)) xs ys

-- the names that are left begin with the one at the index
pub names_next : (names : List Loaded) (i : ℕ) (x : Loaded) → i < length names → x ≡ get_or names i x → loaded_names_of (drop i names) ≡ a_loaded x.bound x.origin (loaded_names_of (drop (i + 1) names))
names_next names i x lt e = ap loaded_names_of (drop_more names i x lt ∙ ap (λ y. y ∷ drop (i + 1) names) (sym e))
