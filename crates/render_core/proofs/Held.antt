-- Files that are held run as the units mean that they are held of.
use Rattle.std.proofs.Common.{◌≡◌, ◌∙◌, ℕ, suc, ◌==◌, Bool, true, false, List, [], ◌∷◌, length, map as each, Option, Some, refl, ap, sym, if◌then◌else◌}
use Rattle.std.proofs.lemmas.Bool.{eq-eqb, eqb-true, eqb-false, ne_eqb}
use Rattle.ytt_base.specs.Trees.{Trees}
use Rattle.code_spec.specs.Blocks.{Ops}
use Rattle.code_spec.specs.Code.{Name}
use Rattle.code_spec.specs.Scopes.{ops_names}
use Rattle.file_load.specs.Programs as programs
use Rattle.file_load.specs.Programs.{AreRunnable, names_in}
use Rattle.file_load.specs.declared.programs.Program.{Program}
use Rattle.file_units.specs.Held.{AreHeld, IsWhole, MayRun, block_of, code_in, role_in}
use Rattle.file_units.specs.declared.units.Content.{Content}
use Rattle.file_units.specs.declared.units.Content.TheVariants as content
use Rattle.module_spec.specs.Answering.{modules_answer}
use Rattle.star_blocks.specs.Nested.{ops_of}
use Rattle.star_functions.specs.Known.{files_of, known}
use Rattle.star_functions.specs.Table as held
use Rattle.star_functions.specs.declared.functions.Functions.{Functions}
use Rattle.star_functions.specs.declared.programs.FileBlock.{FileBlock}
use Rattle.star_resolve.specs.Variables.{each_once}
use Rattle.star_spec.specs.Calls.{Code}
use Rattle.template_meaning.specs.Calls.{ops_function, program_function}
use Rattle.value_spec.specs.Outcomes.{Ending, asks, bad, done, give, then_do, ◌>>=◌}
use Rattle.world_spec.proofs.Held.{held_run_as_meant}
use Rattle.world_spec.specs.Held.{AreUnits, HeldUnit, blocks_from, blocks_held, blocks_of_code, source_seen, units_seen}
use Rattle.world_spec.specs.Parts.{Budget, Files, World, at_start, documents_from, outcome_of, overlaid, role_documents, trees_before, units_meaning, units_run}
use Rattle.world_spec.specs.Units.{FileUnit, names_of}
use Rattle.world_spec.specs.Worlds.{table_of, unit_run}
use Rattle.render_core.specs.Parts.{AreWhole, file_blocks, gives_in, scope_in, scopes_of}
use Rattle.render_core.specs.Runs.{all_documents, files_in, output_documents}

-- ---- programs of files that are whole may run

scope_is : (b : FileBlock) (c : Content) → IsWhole b c → scope_in c ≡ each_once (ops_names (block_of b))
scope_is b (content.Template names) h = h
scope_is b (content.Library names) h = h
scope_is b (content.Documents trees) h = ap (λ (os : Ops). each_once (ops_names os)) (sym h)

pub runnable : (n : ℕ) (ps : List Program) → AreWhole n (file_blocks ps) (scopes_of ps) → AreRunnable n ps
runnable n [] h = tt
runnable n (p ∷ ps) h = (record { file_is = h.0; scope = h.1 }, runnable (suc n) ps h.2)

pub whole : (n : ℕ) (bs : List FileBlock) (cs : List Content) → MayRun n bs cs → AreWhole n bs (each scope_in cs)
whole n [] [] may = tt
whole n [] (c ∷ cs) may = absurd may
whole n (b ∷ bs) [] may = absurd may
whole n (b ∷ bs) (c ∷ cs) may = (may.0, scope_is b c may.1, whole (suc n) bs cs may.2)

pub many_scopes : (n : ℕ) (bs : List FileBlock) (xss : List (List Name)) → AreWhole n bs xss → length xss ≡ length bs
many_scopes n [] [] h = refl
many_scopes n [] (xs ∷ xss) h = absurd h
many_scopes n (b ∷ bs) [] h = absurd h
many_scopes n (b ∷ bs) (xs ∷ xss) h = ap (λ k. suc k) (many_scopes (suc n) bs xss h.2)

pub many_names : (n : ℕ) (us : List FileUnit) (bs : List FileBlock) (cs : List Content) → AreHeld n us bs cs → length (names_of us) ≡ length bs
many_names n [] [] [] h = refl
many_names n [] [] (c ∷ cs) h = absurd h
many_names n [] (b ∷ bs) cs h = absurd h
many_names n (u ∷ us) [] cs h = absurd h
many_names n (u ∷ us) (b ∷ bs) [] h = absurd h
many_names n (u ∷ us) (b ∷ bs) (c ∷ cs) h = ap (λ k. suc k) (many_names (suc n) us bs cs h.1)

-- as many files as are held
pub as_many : (n : ℕ) (bs : List FileBlock) (cs : List Content) → MayRun n bs cs → length cs ≡ length bs
as_many n [] [] may = refl
as_many n [] (c ∷ cs) may = absurd may
as_many n (b ∷ bs) [] may = absurd may
as_many n (b ∷ bs) (c ∷ cs) may = ap (λ k. suc k) (as_many (suc n) bs cs may.2)

-- ---- the units that are held

abbrev helds : List FileUnit → List FileBlock → List Content → List HeldUnit
helds (u ∷ us) (b ∷ bs) (c ∷ cs) = record { name = u.name; role = role_in c; code = code_in b c } ∷ helds us bs cs
helds _ _ _ = []

are_units : (n : ℕ) (us : List FileUnit) (bs : List FileBlock) (cs : List Content) → AreHeld n us bs cs → AreUnits n us (helds us bs cs)
are_units n [] [] [] h = tt
are_units n [] [] (c ∷ cs) h = absurd h
are_units n [] (b ∷ bs) cs h = absurd h
are_units n (u ∷ us) [] cs h = absurd h
are_units n (u ∷ us) (b ∷ bs) [] h = absurd h
are_units n (u ∷ us) (b ∷ bs) (c ∷ cs) h = (record { name_is = refl; role_is = h.0.role_is; holds = h.0.holds }, are_units (suc n) us bs cs h.1)

-- a file without code has an empty block
code_blocks : (b : FileBlock) (c : Content) → IsWhole b c → blocks_of_code (code_in b c) ≡ Some (block_of b)
code_blocks b (content.Template names) h = refl
code_blocks b (content.Library names) h = refl
code_blocks b (content.Documents trees) h = ap (λ (os : Ops). Some os) (sym h)

-- ---- the table of all functions

one_known : (b : FileBlock) (n f k : ℕ) → b.file ≡ n → (more : Option (Code Ops)) (t : Bool) → (f == n) ≡ t →
    (if b.file == f then ops_function k (ops_of f b.block) else more) ≡ (if t then ops_function k (block_of b) else more)
one_known b n f k e more true h =
    let same : f ≡ b.file = eqb-true f n h ∙ sym e in
    (λ i. if eq-eqb b.file f (sym same) i then ops_function k (ops_of f b.block) else more) ∙ ap (λ (g : ℕ). ops_function k (ops_of g b.block)) same
one_known b n f k e more false h =
    λ i. if ne_eqb b.file f (λ same. eqb-false f n h (sym same ∙ e)) i then ops_function k (ops_of f b.block) else more

held_known : (n : ℕ) (us : List FileUnit) (bs : List FileBlock) (cs : List Content) → MayRun n bs cs → AreHeld n us bs cs → (f k : ℕ) →
    known (files_of bs) f k ≡ program_function k (blocks_from n (helds us bs cs) f)
held_known n [] [] [] may h f k = refl
held_known n [] [] (c ∷ cs) may h f k = absurd h
held_known n [] (b ∷ bs) cs may h f k = absurd h
held_known n (u ∷ us) [] cs may h f k = absurd h
held_known n (u ∷ us) (b ∷ bs) [] may h f k = absurd h
held_known n (u ∷ us) (b ∷ bs) (c ∷ cs) may h f k =
    one_known b n f k may.0 (known (files_of bs) f k) (f == n) refl ∙ by (f == n) (held_known (suc n) us bs cs may.2 h.1 f k)
  where
    by : (t : Bool) → known (files_of bs) f k ≡ program_function k (blocks_from (suc n) (helds us bs cs) f) →
        (if t then ops_function k (block_of b) else known (files_of bs) f k) ≡ program_function k (if t then blocks_of_code (code_in b c) else blocks_from (suc n) (helds us bs cs) f)
    by true more = sym (ap (λ (os : Option Ops). program_function k os) (code_blocks b c may.1))
    by false more = more

-- ---- names, blocks and how many there are

same_names : (n : ℕ) (us : List FileUnit) (bs : List FileBlock) (cs : List Content) → AreHeld n us bs cs → names_of (units_seen (helds us bs cs)) ≡ names_of us
same_names n [] [] [] h = refl
same_names n [] [] (c ∷ cs) h = absurd h
same_names n [] (b ∷ bs) cs h = absurd h
same_names n (u ∷ us) [] cs h = absurd h
same_names n (u ∷ us) (b ∷ bs) [] h = absurd h
same_names n (u ∷ us) (b ∷ bs) (c ∷ cs) h = ap (λ (xs : List (List ℕ)). u.name ∷ xs) (same_names (suc n) us bs cs h.1)

same_count : (n : ℕ) (us : List FileUnit) (ps : List Program) (cs : List Content) → AreHeld n us (file_blocks ps) cs → length (units_seen (helds us (file_blocks ps) cs)) ≡ length ps
same_count n [] [] [] h = refl
same_count n [] [] (c ∷ cs) h = absurd h
same_count n [] (p ∷ ps) cs h = absurd h
same_count n (u ∷ us) [] cs h = absurd h
same_count n (u ∷ us) (p ∷ ps) [] h = absurd h
same_count n (u ∷ us) (p ∷ ps) (c ∷ cs) h = ap (λ k. suc k) (same_count (suc n) us ps cs h.1)

same_blocks : (n : ℕ) (us : List FileUnit) (ps : List Program) (cs : List Content) → MayRun n (file_blocks ps) cs → AreHeld n us (file_blocks ps) cs → (f : ℕ) →
    blocks_from n (helds us (file_blocks ps) cs) f ≡ programs.blocks_from n ps f
same_blocks n [] [] [] may h f = refl
same_blocks n [] [] (c ∷ cs) may h f = absurd h
same_blocks n [] (p ∷ ps) cs may h f = absurd h
same_blocks n (u ∷ us) [] cs may h f = absurd h
same_blocks n (u ∷ us) (p ∷ ps) [] may h f = absurd h
same_blocks n (u ∷ us) (p ∷ ps) (c ∷ cs) may h f = by (f == n) (same_blocks (suc n) us ps cs may.2 h.1 f)
  where
    by : (t : Bool) → blocks_from (suc n) (helds us (file_blocks ps) cs) f ≡ programs.blocks_from (suc n) ps f →
        (if t then blocks_of_code (code_in p.block.now c) else blocks_from (suc n) (helds us (file_blocks ps) cs) f) ≡ (if t then Some (block_of p.block.now) else programs.blocks_from (suc n) ps f)
    by true more = code_blocks p.block.now c may.1
    by false more = more

-- ---- documents

content_documents : (files : Files) (n : ℕ) (b : FileBlock) (c : Content) → role_documents (files n) (source_seen (code_in b c)) (role_in c) ≡ output_documents files n (gives_in c)
content_documents files n b (content.Template names) = refl
content_documents files n b (content.Library names) = refl
content_documents files n b (content.Documents trees) = refl

same_documents : (files : Files) (n m : ℕ) (us : List FileUnit) (bs : List FileBlock) (cs : List Content) → AreHeld n us bs cs →
    documents_from files m (units_seen (helds us bs cs)) ≡ all_documents files m (each gives_in cs)
same_documents files n m [] [] [] h = refl
same_documents files n m [] [] (c ∷ cs) h = absurd h
same_documents files n m [] (b ∷ bs) cs h = absurd h
same_documents files n m (u ∷ us) [] cs h = absurd h
same_documents files n m (u ∷ us) (b ∷ bs) [] h = absurd h
same_documents files n m (u ∷ us) (b ∷ bs) (c ∷ cs) h = λ i.
    content_documents files m b c i >>= λ ts. same_documents files (suc n) (suc m) us bs cs h.1 i >>= λ vs. give (trees_before ts vs)

-- ---- all of them

no_overlays : (e : Ending World Trees) → outcome_of (then_do e overlaid) ≡ outcome_of e
no_overlays (done ts s) = refl
no_overlays (bad f s) = refl
no_overlays (asks q s k) = refl

-- what units mean is what these programs do that are held of them, with their functions in one table
pub held_means : (budget : Budget) (us : List FileUnit) (cs : List Content) (fs : Functions) (ps : List Program) → names_in ps ≡ names_of us → MayRun 1 (file_blocks ps) cs → AreHeld 1 us (file_blocks ps) cs →
    ((f k : ℕ) → held.table_of fs f k ≡ known (files_of (file_blocks ps)) f k) → units_meaning budget us ≡ outcome_of (all_documents (files_in fs ps budget.depth) 1 (each gives_in cs) (at_start budget.steps))
unfolding units_run files_in
held_means budget us cs fs ps names may h same =
    let bs = file_blocks ps in
    let hs : List HeldUnit = helds us bs cs in
    let start = at_start budget.steps in
    let files : Files = λ f. unit_run modules_answer (names_of (units_seen hs)) (table_of (blocks_held hs)) (blocks_held hs) budget.depth (suc (length (units_seen hs))) f in
    let called = same_names 1 us bs cs h ∙ sym names in
    let blocks = same_blocks 1 us ps cs may h in
    sym (held_run_as_meant budget us hs (are_units 1 us bs cs h))
    ∙ no_overlays (documents_from files 1 (units_seen hs) start)
    ∙ (λ i. outcome_of (same_documents files 1 1 us bs cs h i start))
    ∙ (λ i. outcome_of (all_documents
    (λ f. unit_run modules_answer (called i) (λ g k. (sym (held_known 1 us bs cs may h g k) ∙ sym (same g k)) i) (λ g. blocks g i) budget.depth (suc (same_count 1 us ps cs h i)) f) 1 (each gives_in cs) start))
