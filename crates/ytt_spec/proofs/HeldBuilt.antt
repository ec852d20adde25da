-- The documents that units mean have a text that reads back: they are what the program holds, none is null, and none nests too deep.
use Rattle.std.proofs.Common.{◌≡◌, ◌==◌, ℕ, suc, Bool, true, false, if◌then◌else◌, List, [], ◌∷◌, Ok}
use Rattle.std.specs.Result.{IfOk}
use Rattle.std.proofs.lemmas.Result.{IfOk-at_ok}
use Rattle.ytt_base.specs.Outcomes.{Outcome, ◌>>=◌}
use Rattle.ytt_base.specs.Trees.{Trees, no_trees, tree, AreTrees, Writable}
use Rattle.ytt_laws.proofs.Yielded.{yielded_if, yielded_then, yielded_where}
use Rattle.yaml_spec.specs.Noted.{Documents, has_code}
use Rattle.yaml_spec.specs.Read.{Read, plain_trees, read_trees}
use Rattle.yaml_held.proofs.HeldDocuments.{DocumentsHeld, good_read, reads_trees}
use Rattle.yaml_held.proofs.Shallow.{DocumentsShallow, reads_writable, shallow_read}
use Rattle.code_spec.specs.CodeReading.{CodeReader}
use Rattle.star_grammar.specs.CodeReaders.{IsCodeReader}
use Rattle.module_spec.specs.Answering.{modules_answer}
use Rattle.value_spec.specs.Outcomes.{Ending, asks, bad, done}
use Rattle.template_meaning.proofs.BuildKeeps.{HeldItems, HeldResult, documents_written}
use Rattle.template_meaning.proofs.NumbersHeld.{numbered_held}
use Rattle.template_meaning.specs.Meaning.{documents}
use Rattle.template_spec.specs.Numbered.{numbered}
use Rattle.passes_spec.specs.Passes.{template_passed}
use Rattle.template_spec.specs.Template.{Items, no_items}
use Rattle.file_spec.specs.Finding.{FoundFile}
use Rattle.file_spec.specs.Names.{is_star, is_yaml_library}
use Rattle.world_spec.specs.Parts.{Budget, Files, World, all_parts, at_start, documents_from, loads_for, outcome_of, role_documents, source_documents, trees_before, units_meaning}
use Rattle.world_spec.specs.StarFiles.{star_items}
use Rattle.world_spec.specs.Units as units
use Rattle.world_spec.specs.Units.{FileUnit, Source, code, plain, code_items, code_source, items_at, items_from, items_of, names_of, passed, plain_source, source_of, template_items, unit_of, unit_read, yaml_source}
use Rattle.world_spec.specs.Worlds.{unit_meaning}
use Rattle.ytt_spec.proofs.HeldCode.{ReadsHeld}
use Rattle.ytt_spec.proofs.HeldStar.{star_held}
use Rattle.ytt_spec.proofs.HeldWhole.{passed_held, whole_held}
use Rattle.ytt_spec.proofs.KeepsWorld.{KeepsWorld, KeptWorld, unit_keeps, world_give, world_then}
use Rattle.ytt_spec.proofs.ReadCode.{code_is_held}
use Rattle.ytt_spec.specs.Meaning.{AreRead}

-- documents that the program holds and writes
abbrev pub AreWritten : Trees → Type 0
AreWritten ts = AreTrees ts × Writable ts

-- ---- units

-- items that the program holds, or such documents
abbrev HeldSource : Source → Type 0
HeldSource (code t) = HeldItems 0 t
HeldSource (plain ts) = AreWritten ts

module _ (r : CodeReader) (reads : ReadsHeld r) (ignore : Bool) (n : ℕ) where
  abbrev IsRead : List ℕ → Documents → Type 0
  IsRead bytes ds = (Read n bytes ≡ Ok ds) × DocumentsHeld ds × DocumentsShallow ds

  template_held : (ds : Documents) → DocumentsHeld ds → DocumentsShallow ds → IfOk (template_items r ignore n ds) (HeldItems 0)
  template_held ds h w = yielded_then (HeldItems 0) (HeldItems 0) (template_passed r ignore n ds) (λ t. Ok (numbered t)) (whole_held r reads ignore n ds h w) (λ t g. numbered_held t g)

  code_held : (bytes : List ℕ) → IfOk (code_items r n bytes) (HeldItems 0)
  code_held bytes = yielded_then (HeldItems 0) (HeldItems 0) (star_items r n bytes) passed (star_held r reads n bytes) passed_held

  source_held : (o : Outcome Items) → IfOk o (HeldItems 0) → IfOk (code_source o) HeldSource
  source_held o h = yielded_then (HeldItems 0) HeldSource o (λ t. Ok (code t)) h (λ t k. k)

  plain_written : (bytes : List ℕ) (ds : Documents) (ts : Trees) → Read n bytes ≡ Ok ds → plain_trees ds ≡ Ok ts → AreWritten ts
  unfolding read_trees
  plain_written bytes ds ts e p = let read : read_trees n bytes ≡ Ok ts = rw e p in (reads_trees n bytes ts read, reads_writable n bytes ts read)

  plain_held : (name bytes : List ℕ) (ds : Documents) → Read n bytes ≡ Ok ds → IfOk (plain_source name ds) HeldSource
  plain_held name bytes ds e =
      yielded_if HeldSource (is_yaml_library name) (Ok (code no_items)) _ (λ h. tt)
      (λ h. yielded_then AreWritten HeldSource (plain_trees ds) (λ ts. Ok (plain ts)) (yielded_where AreWritten (plain_trees ds) (λ ts k. plain_written bytes ds ts e k)) (λ ts k. k))

  yaml_held : (name bytes : List ℕ) → IfOk (Read n bytes >>= yaml_source r ignore n name) HeldSource
  yaml_held name bytes =
      yielded_then (IsRead bytes) HeldSource (Read n bytes) (yaml_source r ignore n name)
      (yielded_where (IsRead bytes) (Read n bytes) (λ ds e. (e, IfOk-at_ok DocumentsHeld e (good_read n bytes), IfOk-at_ok DocumentsShallow e (shallow_read n bytes))))
      (λ ds h. yielded_if HeldSource (has_code ds) (code_source (template_items r ignore n ds)) (plain_source name ds)
      (λ k. source_held (template_items r ignore n ds) (template_held ds h.1 h.2)) (λ k. plain_held name bytes ds h.0))

  unit_held : (f : FoundFile) (bytes : List ℕ) → IfOk (unit_read r ignore n f bytes) (λ u. HeldSource u.source)
  unit_held f bytes =
      yielded_then HeldSource (λ u. HeldSource u.source) (source_of r ignore n f.name bytes) (λ s. Ok (unit_of f s))
      (yielded_if HeldSource (is_star f.name) (code_source (code_items r n bytes)) _ (λ h. source_held (code_items r n bytes) (code_held bytes)) (λ h. yaml_held f.name bytes))
      (λ s h. h)

abbrev HeldUnits : List FileUnit → Type 0
HeldUnits [] = Unit {0}
HeldUnits (u ∷ us) = HeldSource u.source × HeldUnits us

units_held : (r : CodeReader) → IsCodeReader r → (ignore : Bool) (n : ℕ) (us : List FileUnit) → AreRead ignore n us → HeldUnits us
units_held r reads ignore n [] h = tt
units_held r reads ignore n (u ∷ us) h =
    (IfOk-at_ok (λ (v : FileUnit). HeldSource v.source) (h.0.2 r reads) (unit_held r (code_is_held r reads) ignore n h.0.0 h.0.1), units_held r reads ignore (suc n) us h.1)

source_code : (s : Source) → HeldSource s → HeldItems 0 (items_of s)
source_code (code t) h = h
source_code (plain ts) h = tt

items_held : (n : ℕ) (us : List FileUnit) → HeldUnits us → (f : ℕ) → HeldItems 0 (items_from n us f)
items_held n [] h f = tt
items_held n (u ∷ us) h f = either (f == n) (source_code u.source h.0) (items_held (suc n) us h.1 f)
  where
    either : (b : Bool) → HeldItems 0 (items_of u.source) → HeldItems 0 (items_from (suc n) us f) → HeldItems 0 (if b then items_of u.source else items_from (suc n) us f)
    either true h k = h
    either false h k = k

-- ---- documents

written_before : (ts us : Trees) → AreWritten ts → AreWritten us → AreWritten (trees_before ts us)
written_before no_trees us h k = k
written_before (tree t ts) us h k = let more = written_before ts us (h.0.1, h.1.2) k in ((h.0.0, more.0), (h.1.0, h.1.1, more.1))

module _ (files : Files) (keeps : (f : ℕ) → KeepsWorld HeldResult (files f)) where
  source_keeps : (f : ℕ) (s : Source) → HeldSource s → KeepsWorld AreWritten (source_documents (files f) s)
  source_keeps f (plain ts) h = world_give ts h
  source_keeps f (code t) h = world_then (keeps f) (λ r g. world_give (documents r.documents) (documents_written r.documents g.0))

  role_keeps : (f : ℕ) (s : Source) (role : units.Role) → HeldSource s → KeepsWorld AreWritten (role_documents (files f) s role)
  role_keeps f s units.template h = source_keeps f s h
  role_keeps f s units.loaded h = world_give no_trees (tt, tt)

  documents_keep : (n : ℕ) (us : List FileUnit) → HeldUnits us → KeepsWorld AreWritten (documents_from files n us)
  documents_keep n [] h = world_give no_trees (tt, tt)
  documents_keep n (u ∷ us) h =
      world_then (role_keeps n u.source u.role h.0) (λ ts k. world_then (documents_keep (suc n) us h.1) (λ more g. world_give (trees_before ts more) (written_before ts more k g)))

  parts_keep : (us : List FileUnit) → HeldUnits us → KeepsWorld AreWritten (all_parts files us)
  parts_keep us h = world_then {P = λ (u : Unit {0}). Unit {0}} (world_give (tt {0}) (tt {0})) (λ u k. world_then (documents_keep 1 us h) (λ ts g. world_give ts g))

ending_written : (e : Ending World Trees) → KeptWorld AreWritten e → IfOk (outcome_of e) AreWritten
ending_written (done ts s) k = k.0
ending_written (bad f s) k = tt
ending_written (asks q s n) k = tt

meaning_holds : (us : List FileUnit) → HeldUnits us → (budget : Budget) → IfOk (units_meaning budget us) AreWritten
unfolding units_meaning
meaning_holds us held budget =
    let files = unit_meaning modules_answer (names_of us) (items_at us) budget.depth (loads_for us) in
    let keeps = unit_keeps (names_of us) (items_at us) (items_held 1 us held) budget.depth (loads_for us) in
    ending_written (all_parts files us (at_start budget.steps)) ((parts_keep files keeps us held).by (at_start budget.steps) (tt, (tt, tt)))

-- the documents of units that were read, whatever reads code as the grammar says
pub units_written : (r : CodeReader) → IsCodeReader r → (ignore : Bool) (us : List FileUnit) → AreRead ignore 1 us → (budget : Budget) (ts : Trees) → units_meaning budget us ≡ Ok ts → AreWritten ts
units_written r reads ignore us read budget ts e = IfOk-at_ok AreWritten e (meaning_holds us (units_held r reads ignore 1 us read) budget)
