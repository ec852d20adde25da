-- Units that are held run as the files mean that they are read from.
use Rattle.std.proofs.Common.{◌≡◌, ℕ, suc, ◌==◌, Bool, true, false, List, [], ◌∷◌, length, refl, ap, ◌∙◌, if◌then◌else◌}
use Rattle.code_spec.specs.Blocks.{blocks}
use Rattle.module_spec.specs.Answering.{modules_answer}
use Rattle.template_meaning.specs.Files.{FileResult}
use Rattle.template_spec.specs.Compiled.{compiled}
use Rattle.template_spec.specs.ControlWords.{WordsStand, free}
use Rattle.value_spec.specs.Outcomes.{Computation, give, ◌>>=◌}
use Rattle.world_spec.proofs.Together.{units_run_as_built}
use Rattle.world_spec.specs.Held.{AreUnits, HeldCode, program, documents, HeldUnit, Holds, blocks_from, blocks_held, blocks_of_code, source_seen, units_seen}
use Rattle.world_spec.specs.Laws.{AreProgramsOf, HeldRunAsMeant}
use Rattle.world_spec.specs.Parts.{World, Files, all_parts, at_start, data_found, documents_from, overlaid, outcome_of, role_documents, source_documents, trees_before, units_meaning, units_run}
use Rattle.world_spec.specs.Units as units
use Rattle.world_spec.specs.Units.{FileUnit, Role, Source, code, plain, items_at, items_from, items_of, names_of}
use Rattle.world_spec.specs.Worlds.{table_of, unit_run}

-- ---- blocks

code_blocks : (n : ℕ) (s : Source) (c : HeldCode) → Holds n s c → blocks_of_code c ≡ blocks (compiled (items_of s))
code_blocks n (code t) (program f os) h = h.blocks_are
code_blocks n (plain ds) (documents es) h = refl
code_blocks n (code t) (documents es) h = absurd h
code_blocks n (plain ds) (program f os) h = absurd h

code_stands : (n : ℕ) (s : Source) (c : HeldCode) → Holds n s c → WordsStand free (items_of s)
code_stands n (code t) (program f os) h = h.words_stand
code_stands n (plain ds) (documents es) h = tt
code_stands n (code t) (documents es) h = absurd h
code_stands n (plain ds) (program f os) h = absurd h

all_blocks : (n : ℕ) (us : List FileUnit) (hs : List HeldUnit) → AreUnits n us hs → (f : ℕ) → blocks_from n hs f ≡ blocks (compiled (items_from n us f))
all_blocks n [] [] p f = refl
all_blocks n [] (h ∷ hs) p f = absurd p
all_blocks n (u ∷ us) [] p f = absurd p
all_blocks n (u ∷ us) (h ∷ hs) p f = by (f == n) (all_blocks (suc n) us hs p.1 f)
  where
    by : (b : Bool) → blocks_from (suc n) hs f ≡ blocks (compiled (items_from (suc n) us f))
        → (if b then blocks_of_code h.code else blocks_from (suc n) hs f) ≡ blocks (compiled (if b then items_of u.source else items_from (suc n) us f))
    by true more = code_blocks n u.source h.code p.0.holds
    by false more = more

all_stand : (n : ℕ) (us : List FileUnit) (hs : List HeldUnit) → AreUnits n us hs → (f : ℕ) → WordsStand free (items_from n us f)
all_stand n [] [] p f = tt
all_stand n [] (h ∷ hs) p f = absurd p
all_stand n (u ∷ us) [] p f = absurd p
all_stand n (u ∷ us) (h ∷ hs) p f = by (f == n) (all_stand (suc n) us hs p.1 f)
  where
    by : (b : Bool) → WordsStand free (items_from (suc n) us f) → WordsStand free (if b then items_of u.source else items_from (suc n) us f)
    by true more = code_stands n u.source h.code p.0.holds
    by false more = more

programs : (us : List FileUnit) (hs : List HeldUnit) → AreUnits 1 us hs → AreProgramsOf (items_at us) (blocks_held hs)
programs us hs p = record { blocks_are = all_blocks 1 us hs p; words_stand = all_stand 1 us hs p }

-- ---- what a run sees of them besides

same_names : (n : ℕ) (us : List FileUnit) (hs : List HeldUnit) → AreUnits n us hs → names_of (units_seen hs) ≡ names_of us
same_names n [] [] p = refl
same_names n [] (h ∷ hs) p = absurd p
same_names n (u ∷ us) [] p = absurd p
same_names n (u ∷ us) (h ∷ hs) p = λ i. p.0.name_is i ∷ same_names (suc n) us hs p.1 i

same_length : (n : ℕ) (us : List FileUnit) (hs : List HeldUnit) → AreUnits n us hs → length (units_seen hs) ≡ length us
same_length n [] [] p = refl
same_length n [] (h ∷ hs) p = absurd p
same_length n (u ∷ us) [] p = absurd p
same_length n (u ∷ us) (h ∷ hs) p = ap (λ k. suc k) (same_length (suc n) us hs p.1)

same_source : (n : ℕ) (file : Computation World FileResult) (s : Source) (c : HeldCode) → Holds n s c → source_documents file (source_seen c) ≡ source_documents file s
same_source n file (code t) (program f os) h = refl
same_source n file (plain ds) (documents es) h = λ i. give (h i)
same_source n file (code t) (documents es) h = absurd h
same_source n file (plain ds) (program f os) h = absurd h

same_by_role : (n : ℕ) (file : Computation World FileResult) (s : Source) (c : HeldCode) → Holds n s c → (r : Role) → role_documents file (source_seen c) r ≡ role_documents file s r
same_by_role n file s c h units.template = same_source n file s c h
same_by_role n file s c h units.loaded = refl

same_documents : (files : Files) (n m : ℕ) (us : List FileUnit) (hs : List HeldUnit) → AreUnits n us hs → documents_from files m (units_seen hs) ≡ documents_from files m us
same_documents files n m [] [] p = refl
same_documents files n m [] (h ∷ hs) p = absurd p
same_documents files n m (u ∷ us) [] p = absurd p
same_documents files n m (u ∷ us) (h ∷ hs) p = λ i.
    (ap (role_documents (files m) (source_seen h.code)) p.0.role_is ∙ same_by_role n (files m) u.source h.code p.0.holds u.role) i
    >>= λ ts. same_documents files (suc n) (suc m) us hs p.1 i >>= λ more. give (trees_before ts more)

same_parts : (files : Files) (us : List FileUnit) (hs : List HeldUnit) → AreUnits 1 us hs → all_parts files (units_seen hs) ≡ all_parts files us
same_parts files us hs p = λ i. data_found files us >>= λ u. same_documents files 1 1 us hs p i >>= overlaid

pub held_run_as_meant : HeldRunAsMeant
unfolding units_meaning units_run
held_run_as_meant budget us hs p =
    (λ i. outcome_of (all_parts (unit_run modules_answer (same_names 1 us hs p i) (table_of (blocks_held hs)) (blocks_held hs) budget.depth (suc (same_length 1 us hs p i))) (units_seen hs) (at_start budget.steps)))
    ∙ (λ i. outcome_of (same_parts (unit_run modules_answer (names_of us) (table_of (blocks_held hs)) (blocks_held hs) budget.depth (suc (length us))) us hs p i (at_start budget.steps)))
    ∙ units_run_as_built budget us (blocks_held hs) (programs us hs p)
