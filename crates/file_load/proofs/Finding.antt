-- Which file is found: among those that gave something, those that wait, and the programs of a run.
use Rattle.std.proofs.Common.{◌≡◌, ◌≢◌, ◌∙◌, ◌-◌, ◌+◌, ℕ, zero, suc, ◌≤◌, ◌<◌, ◌==◌, Bool, true, ◌||◌, List, [], ◌∷◌, get_or, length, slice_get, take, Option, Some, None, if◌then◌else◌, refl, ap, sym, subst, arith, rules}
use Rattle.std.proofs.lemmas.Bool.{eq-eqb, ne_eqb}
use Rattle.std.proofs.lemmas.Option.{slice_get_read}
use Rattle.code_spec.specs.Blocks.{Ops}
use Rattle.code_spec.specs.Scopes.{ops_names}
use Rattle.star_eval.specs.FileRun.{block_of}
use Rattle.star_eval.specs.Finishes.{globals_of}
use Rattle.star_resolve.specs.Variables.{each_once}
use Rattle.star_values.proofs.Growing.{each_at}
use Rattle.star_values.specs.Owns.{OwnsFields}
use Rattle.star_values.specs.View.{View}
use Rattle.template_meaning.specs.Files.{Globals}
use Rattle.world_spec.specs.Paths.{name_at, name_or_none, number_from}
use Rattle.world_spec.specs.Worlds.{given_by, is_begun}
use Rattle.file_load.proofs.Putting.{one_less}
use Rattle.file_load.specs.Gave.{OwnsGiven, given_in, one_given}
use Rattle.file_load.specs.Programs.{AreRunnable, Finds, Stands, blocks_from, names_in}
use Rattle.file_load.specs.Seen.{files_of}
use Rattle.file_load.specs.declared.given.Given.{Given}
use Rattle.file_load.specs.declared.programs.Program.{Program}
use Rattle.file_load.specs.declared.waiting.Waiting.{Waiting}

-- ---- among what files gave, from the end

module _ (f : ℕ) (a : View) (gs : List Given) (j k : ℕ) (x : Given) (next : k ≡ suc j) (within : k ≤ length gs) (here : x ≡ get_or gs j x) where
  abbrev rest : List (ℕ × Globals)
  rest = given_in a (take j gs)

  opened : given_by f (given_in a (take k gs)) ≡ given_by f (one_given a x ∷ rest)
  opened = ap (given_by f) (one_less (one_given a) gs j k x next within here)

  pub given_turn : x.file ≢ f → given_by f (given_in a (take k gs)) ≡ given_by f rest
  given_turn other = opened ∙ (λ i. if ne_eqb f x.file (λ same. other (sym same)) i then Some (globals_of a x.globals) else given_by f rest)

  pub given_here : x.file ≡ f → given_by f (given_in a (take k gs)) ≡ Some (globals_of a x.globals)
  given_here same = opened ∙ (λ i. if eq-eqb f x.file (sym same) i then Some (globals_of a x.globals) else given_by f rest)

-- ---- among those that wait, from the end

module _ (f : ℕ) (ws : List Waiting) (j k : ℕ) (x : Waiting) (next : k ≡ suc j) (within : k ≤ length ws) (here : x ≡ get_or ws j x) where
  reopened : is_begun f (files_of (take k ws)) ≡ (f == x.file || is_begun f (files_of (take j ws)))
  reopened = ap (is_begun f) (one_less (λ (w : Waiting). w.file) ws j k x next within here)

  pub begun_turn : x.file ≢ f → is_begun f (files_of (take k ws)) ≡ is_begun f (files_of (take j ws))
  begun_turn other = reopened ∙ ap (λ (b : Bool). b || is_begun f (files_of (take j ws))) (ne_eqb f x.file (λ same. other (sym same)))

  pub begun_here : x.file ≡ f → is_begun f (files_of (take k ws)) ≡ true
  begun_here same = reopened ∙ ap (λ (b : Bool). b || is_begun f (files_of (take j ws))) (eq-eqb f x.file (sym same))

-- ---- among programs

same_member : (p q : Program) → Some q ≡ Some p → q ≡ p
same_member p q e = search (rules, e)

name_there : (ps : List Program) (i : ℕ) (p : Program) → slice_get ps i ≡ Some p → slice_get (names_in ps) i ≡ Some p.name.now
name_there [] i p e = absurd (search (rules, e))
name_there (q ∷ ps) zero p e = ap (λ (r : Program). Some r.name.now) (same_member p q e)
name_there (q ∷ ps) (suc i) p e = name_there ps i p e

abbrev blocks_some : Program → Option Ops
blocks_some p = Some (block_of p.block.now)

-- what the number of a program says of it
pub record At (n : ℕ) (ps : List Program) (i : ℕ) (p : Program) : Type 0 where
  pub file_is : p.block.now.file ≡ i + n
  pub block : blocks_from n ps p.block.now.file ≡ Some (block_of p.block.now)
  pub scope : p.scope.now ≡ each_once (ops_names (block_of p.block.now))

at_place : (n : ℕ) (ps : List Program) (i : ℕ) (p : Program) → AreRunnable n ps → slice_get ps i ≡ Some p → At n ps i p
at_place n [] i p h e = absurd (search (rules, e))
at_place n (q ∷ ps) zero p h e =
    let same : q ≡ p = same_member p q e in
    let file : p.block.now.file ≡ n = ap (λ (r : Program). r.block.now.file) (sym same) ∙ h.0.file_is in
    record {
      file_is = omega (arith, file);
      block = (λ i. if eq-eqb p.block.now.file n file i then blocks_some q else blocks_from (suc n) ps p.block.now.file) ∙ ap blocks_some same;
      scope = subst (λ (r : Program). r.scope.now ≡ each_once (ops_names (block_of r.block.now))) same h.0.scope;
    }
at_place n (q ∷ ps) (suc i) p h e =
    let more = at_place (suc n) ps i p h.1 e in
    record {
      file_is = omega (arith, more.file_is);
      block = (λ j. if ne_eqb p.block.now.file n (λ same. omega (arith, more.file_is, same)) j then blocks_some q else blocks_from (suc n) ps p.block.now.file) ∙ more.block;
      scope = more.scope;
    }

name_by : (names : List (List ℕ)) (i f : ℕ) (x : List ℕ) → f ≡ suc i → slice_get names i ≡ Some x → name_at names f ≡ x
name_by names i f x e here =
    let less : f - 1 ≡ i = omega (arith, e) in
    (λ j. if ne_eqb f 0 (λ same. omega (arith, e, same)) j then [] else name_or_none (slice_get names (f - 1)))
    ∙ ap (λ (k : ℕ). name_or_none (slice_get names k)) less ∙ ap name_or_none here

-- a program at a place stands, with the number behind the place
pub stands_at : (ps : List Program) (i : ℕ) (p : Program) → AreRunnable 1 ps → slice_get ps i ≡ Some p → Stands ps p × (p.block.now.file ≡ suc i)
stands_at ps i p h e =
    let there = at_place 1 ps i p h e in
    let file : p.block.now.file ≡ suc i = omega (arith, there.file_is) in
    (record { name = name_by (names_in ps) i p.block.now.file p.name.now file (name_there ps i p e); block = there.block; scope = there.scope }, file)

pub none_there : (ps : List Program) (i : ℕ) → i < length ps → slice_get ps i ≡ None → ⊥
none_there [] i le e = omega (arith, le)
none_there (q ∷ ps) zero le e = absurd (search (rules, e))
none_there (q ∷ ps) (suc i) le e = none_there ps i (omega (arith, le)) e

-- the program at the place of a name is the one that is found
pub found_at : (ps : List Program) (x : List ℕ) (i : ℕ) (o : Option Program) → AreRunnable 1 ps → Some (suc i) ≡ number_from 1 x (names_in ps) → i < length ps → o ≡ slice_get ps i → Finds ps x o
found_at ps x i None h e le there = absurd (none_there ps i le (sym there))
found_at ps x i (Some p) h e le there =
    let stands = stands_at ps i p h (sym there) in
    (sym e ∙ ap (λ (n : ℕ). Some n) (sym stands.1), stands.0)

-- what is owned of one of those that gave something
pub one_owned : (a : View) (gs : List Given) (j : ℕ) (x : Given) → j < length gs → x ≡ get_or gs j x → OwnsGiven a gs → OwnsFields a x.globals
one_owned a gs j x within here owned = each_at (λ (g : Given). OwnsFields a g.globals) gs j x owned (slice_get_read gs (length gs) j x refl within here)
