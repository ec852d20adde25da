-- What is answered to events is what the definitions say of the uses in them.
use Rattle.std.proofs.Common.{◌≡◌, ℕ, suc, ◌+◌, Bool, true, false, ◌||◌, cond, List, [], ◌∷◌, ◌++◌, Option, Some, None, if◌then◌else◌, refl, sym, ap, ◌∙◌, arith, map as each}
use Rattle.std.proofs.Math.Bool.{or-false, or_assoc}
use Rattle.std.proofs.lemmas.Bool.Decides.{Decides-like, same_from_decides}
use Rattle.std.proofs.lemmas.Slice.Eq.{bytes_eq-Decides}
use Rattle.std.specs.List.{list_any, position}
use Rattle.std.specs.Option.{option_map}
use Rattle.std.specs.Prelude.{bytes_eq, IsSome}
use Rattle.ytt_base.specs.declared.fault.Place.{Place}
use Rattle.code_spec.specs.Blocks.{blocks}
use Rattle.code_spec.specs.Code.{Name}
use Rattle.code_spec.specs.Options.{further, or_else}
use Rattle.code_spec.specs.Program.{Instruction}
use Rattle.code_spec.specs.Scopes.{Around, Use, Home, local, global, builtin, unknown, use_at, binds, first_if_unknown, home_by, home_of, outward, program_names, program_uses, unknown_first}
use Rattle.star_resolve.specs.declared.event.Event.{Event}
use Rattle.star_resolve.specs.declared.event.Event.TheVariants as event
use Rattle.star_resolve.specs.declared.levels.Variable.{Variable}
use Rattle.star_resolve.specs.declared.levels.Variable.TheVariants as variable
use Rattle.star_resolve.specs.Answers.{Answer, answers, found, found_in, left, local_if, local_in, program_answers, refused, refused_if}
use Rattle.star_resolve.specs.Events.{program_events}
use Rattle.star_resolve.specs.Gathered.{all_names, behind, front}
use Rattle.star_resolve.specs.Variables.{each_once, fault_of_use, number_in, program_fault, program_variables, scope_at, unknown_name, variable_at, variable_of, with_each, with_name}
use Rattle.star_resolve.proofs.Nesting.{globals_are, program_runs}
use Rattle.star_resolve.proofs.Running.{Levels, outer_levels, run, scopes_in}
use Rattle.star_resolve.proofs.Sets.{position_by}

-- ---- each name once

pub bytes_eq-sym : (a b : List ℕ) → bytes_eq a b ≡ bytes_eq b a
bytes_eq-sym a b = same_from_decides (bytes_eq a b) (bytes_eq b a) (bytes_eq-Decides a b) (Decides-like (bytes_eq b a) sym sym (bytes_eq-Decides b a))

pub any_more : (x y : Name) (ns : List Name) → list_any (bytes_eq x) (ns ++ y ∷ []) ≡ (list_any (bytes_eq x) ns || bytes_eq x y)
any_more x y [] = or-false (bytes_eq x y)
any_more x y (n ∷ ns) = ap (λ b. bytes_eq x n || b) (any_more x y ns) ∙ sym (or_assoc (bytes_eq x n) (list_any (bytes_eq x) ns) (bytes_eq x y))

-- a name that is there already
any_same : (x y : Name) (ns : List Name) → list_any (bytes_eq y) ns ≡ true → (b : Bool) → bytes_eq x y ≡ b → list_any (bytes_eq x) ns ≡ (list_any (bytes_eq x) ns || b)
any_same x y ns h true e =
    let same : x ≡ y = (bytes_eq-Decides x y).0 e in
    let there : list_any (bytes_eq x) ns ≡ true = ap (λ z. list_any (bytes_eq z) ns) same ∙ h in
    there ∙ ap (λ b. b || true) (sym there)
any_same x y ns h false e = sym (or-false (list_any (bytes_eq x) ns))

any_with : (x y : Name) (ns : List Name) (b : Bool) → list_any (bytes_eq y) ns ≡ b →
    list_any (bytes_eq x) (if b then ns else ns ++ y ∷ []) ≡ (list_any (bytes_eq x) ns || bytes_eq x y)
any_with x y ns true h = any_same x y ns h (bytes_eq x y) refl
any_with x y ns false h = any_more x y ns

any_each : (x : Name) (ns xs : List Name) → list_any (bytes_eq x) (with_each ns xs) ≡ (list_any (bytes_eq x) ns || binds x xs)
any_each x ns [] = sym (or-false (list_any (bytes_eq x) ns))
any_each x ns (y ∷ ys) =
    any_each x (with_name ns y) ys
    ∙ ap (λ b. b || binds x ys) (any_with x y ns (list_any (bytes_eq y) ns) refl)
    ∙ ap (λ b. (list_any (bytes_eq x) ns || b) || binds x ys) (bytes_eq-sym x y)
    ∙ or_assoc (list_any (bytes_eq x) ns) (bytes_eq y x) (binds x ys)

-- the position of a name is its number, where it is bound
pub position_is : (x : Name) (names : List Name) → position (bytes_eq x) (each_once names) ≡ cond (binds x names) (Some (number_in names x)) None
position_is x names = position_by (bytes_eq x) (each_once names) ∙ ap (λ b. cond b (Some (number_in names x)) None) (any_each x [] names)

-- ---- scopes

abbrev once : Option (List Name) → Option (List Name)
once None = None
once (Some names) = Some (each_once names)

abbrev local_variable : ℕ → Around → Name → Option ℕ → Option Variable
local_variable n around x None = None
local_variable n around x (Some k) = Some (variable.Local (n + k) (number_in (scope_at k around) x))

one_out : (n : ℕ) (names : List Name) (around : Around) (x : Name) (o : Option ℕ) → local_variable (n + 1) around x o ≡ local_variable n (names ∷ around) x (further o)
one_out n names around x None = refl
one_out n names around x (Some k) = let same : n + 1 + k ≡ n + suc k = omega arith in ap (λ m. Some (variable.Local m (number_in (scope_at k around) x))) same

here_or_out : (n : ℕ) (names : List Name) (around : Around) (x : Name) (b : Bool) →
    local_if n (cond b (Some (number_in names x)) None) (local_variable (n + 1) around x (outward x around)) ≡ local_variable n (names ∷ around) x (if b then Some 0 else further (outward x around))
here_or_out n names around x true = let same : n ≡ n + 0 = omega arith in ap (λ m. Some (variable.Local m (number_in names x))) same
here_or_out n names around x false = one_out n names around x (outward x around)

local_is : (n : ℕ) (x : Name) (ls : Levels) → local_in n x (each once ls) ≡ local_variable n (scopes_in ls) x (outward x (scopes_in ls))
local_is n x [] = refl
local_is n x (None ∷ ls) = local_is n x ls
local_is n x (Some names ∷ ls) =
    (λ i. local_if n (position_is x names i) (local_is (n + 1) x ls i)) ∙ here_or_out n names (scopes_in ls) x (binds x names)

home_variable : (globals builtins : List Name) (u : Use) (o : Option ℕ) (g b : Bool) →
    or_else (local_variable 0 u.around u.name o)
    (or_else (option_map variable.Global (cond g (Some (number_in globals u.name)) None)) (option_map variable.Builtin (cond b (Some (number_in builtins u.name)) None)))
    ≡ variable_at (home_by o g b) globals builtins u
home_variable globals builtins u (Some k) g b = let same : 0 + k ≡ k = omega arith in ap (λ m. Some (variable.Local m (number_in (scope_at k u.around) u.name))) same
home_variable globals builtins u None true b = refl
home_variable globals builtins u None false true = refl
home_variable globals builtins u None false false = refl

found_is : (globals builtins : List Name) (ls : Levels) (p : Place) (x : Name) →
    found (each_once globals) (each_once builtins) (each once ls) x ≡ variable_of globals builtins (use_at (scopes_in ls) p x)
found_is globals builtins ls p x =
    (λ i. or_else (local_is 0 x ls i) (or_else (option_map variable.Global (position_is x globals i)) (option_map variable.Builtin (position_is x builtins i))))
    ∙ home_variable globals builtins (use_at (scopes_in ls) p x) (outward x (scopes_in ls)) (binds x globals) (binds x builtins)

-- ---- events

abbrev answer_of : (globals builtins : List Name) → Use → Answer
answer_of globals builtins u = record { place = u.place; name = u.name; found = variable_of globals builtins u }

left_once : (ls : Levels) → left (each once ls) ≡ each once (outer_levels ls)
left_once [] = refl
left_once (l ∷ ls) = refl

answers_are : (globals builtins : List Name) (ls : Levels) (es : List Event) →
    answers (each_once globals) (each_once builtins) (each once ls) es ≡ each (answer_of globals builtins) (run ls es)
answers_are globals builtins ls [] = refl
answers_are globals builtins ls (event.Name p x ∷ es) =
    λ i. record { place = p; name = x; found = found_is globals builtins ls p x i } ∷ answers_are globals builtins ls es i
answers_are globals builtins ls (event.Function n ∷ es) = answers_are globals builtins ls es
answers_are globals builtins ls (event.Enter names ∷ es) = answers_are globals builtins (Some names ∷ ls) es
answers_are globals builtins ls (event.Block ∷ es) = answers_are globals builtins (None ∷ ls) es
answers_are globals builtins ls (event.Leave ∷ es) =
    ap (λ ks. answers (each_once globals) (each_once builtins) ks es) (left_once ls) ∙ answers_are globals builtins (outer_levels ls) es

-- ---- programs

variables_found : (globals builtins : List Name) (us : List Use) → found_in (each (answer_of globals builtins) us) ≡ each (variable_of globals builtins) us
variables_found globals builtins [] = refl
variables_found globals builtins (u ∷ us) = ap (λ vs. variable_of globals builtins u ∷ vs) (variables_found globals builtins us)

one_refused : (globals builtins : List Name) (u : Use) (h : Home) (later : Option Use) →
    refused_if (variable_at h globals builtins u) (unknown_name u.place u.name) (fault_of_use later) ≡ fault_of_use (first_if_unknown h u later)
one_refused globals builtins u (local n) later = refl
one_refused globals builtins u global later = refl
one_refused globals builtins u builtin later = refl
one_refused globals builtins u unknown later = refl

first_refused : (globals builtins : List Name) (us : List Use) → refused (each (answer_of globals builtins) us) ≡ fault_of_use (unknown_first globals builtins us)
first_refused globals builtins [] = refl
first_refused globals builtins (u ∷ us) =
    ap (λ f. refused_if (variable_of globals builtins u) (unknown_name u.place u.name) f) (first_refused globals builtins us)
    ∙ one_refused globals builtins u (home_of globals builtins u) (unknown_first globals builtins us)

answers_of_program : (builtins : List Name) (is : List Instruction) → IsSome (blocks is) → program_answers builtins is ≡ each (answer_of (program_names is) builtins) (program_uses is)
answers_of_program builtins is h =
    answers_are (front (all_names is)) builtins [] (program_events (behind (all_names is)) is) ∙ (λ i. each (answer_of (globals_are is h i) builtins) (program_runs is h i))

pub variables_are : (builtins : List Name) (is : List Instruction) → IsSome (blocks is) → found_in (program_answers builtins is) ≡ program_variables builtins is
variables_are builtins is h = ap found_in (answers_of_program builtins is h) ∙ variables_found (program_names is) builtins (program_uses is)

pub refused_is : (builtins : List Name) (is : List Instruction) → IsSome (blocks is) → refused (program_answers builtins is) ≡ program_fault builtins is
refused_is builtins is h = ap refused (answers_of_program builtins is h) ∙ first_refused (program_names is) builtins (program_uses is)
