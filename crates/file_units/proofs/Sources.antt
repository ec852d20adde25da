-- What is held of the source of a file.
use Rattle.std.proofs.Common.{◌≡◌, ℕ, Bool, true, false, List, [], Some, if◌then◌else◌, Result, Ok, Err, refl, sym, ap, subst, ◌∙◌}
use Rattle.ytt_base.specs.declared.fault.Stop.{Stop}
use Rattle.ytt_base.specs.declared.fault.Stop.TheVariants as stop
use Rattle.ytt_base.specs.declared.tree.Tree.{Tree}
use Rattle.ytt_base.specs.Outcomes.{Gives, Outcome, and_then, ◌>>=◌}
use Rattle.ytt_base.specs.Trees.{Trees}
use Rattle.ytt_base.specs.View.{trees_of}
use Rattle.code_spec.specs.CodeReading.{CodeReader}
use Rattle.code_spec.specs.Scopes.{ops_names}
use Rattle.file_spec.specs.Names.{is_star, is_yaml_library}
use Rattle.star_blocks.specs.Nested.{ops_of}
use Rattle.star_blocks.specs.declared.block.Op.{Op}
use Rattle.star_file.specs.Programs.{IsFileProgram, ReadsProgram}
use Rattle.star_file.specs.declared.program.FileProgram.{FileProgram}
use Rattle.star_functions.specs.declared.programs.FileBlock.{FileBlock}
use Rattle.star_resolve.specs.Variables.{each_once}
use Rattle.template_spec.specs.Template.{Items, no_items}
use Rattle.world_spec.specs.Held.{Holds}
use Rattle.world_spec.specs.Units.{Role, code, code_items, code_source, loaded, plain, template, template_items, yaml_source}
use Rattle.yaml_spec.specs.Noted.{Documents, has_code}
use Rattle.yaml_spec.specs.Read.{Read, plain_trees}
use Rattle.file_units.specs.Files.{IsWholeAs, ReadsSource, content_for, plain_for, role_for, yaml_for}
use Rattle.file_units.specs.Held.{IsWhole, code_in, role_in}
use Rattle.file_units.specs.declared.units.Content.{Content}
use Rattle.file_units.specs.declared.units.Content.TheVariants as content
use Rattle.file_units.specs.declared.units.HeldFile.{HeldFile}

-- ---- programs

module _ (n : ℕ) (outcome : CodeReader → Outcome Items) where
  pub program_stop : (role : Role) (s : Stop) → ReadsProgram n (Err s) outcome → ReadsSource n role (Err s) (λ r. code_source (outcome r))
  program_stop role (stop.Fault f) h = λ r reads. ap code_source (h r reads)
  program_stop role stop.Memory h = tt

  module _ (b : Bool) (p : FileProgram) (h : HeldFile) (block : h.block ≡ p.block) (gives : h.content ≡ content_for b p.globals) where
    role_is : (b : Bool) (names : List (List ℕ)) → role_in (content_for b names) ≡ role_for b
    role_is true names = refl
    role_is false names = refl

    holds_so : (b : Bool) (names : List (List ℕ)) (t : Items) → IsFileProgram n t p → Holds n (code t) (code_in p.block (content_for b names))
    holds_so true names t is = is.program
    holds_so false names t is = is.program

    whole_so : (b : Bool) (t : Items) → IsFileProgram n t p → IsWhole p.block (content_for b p.globals)
    whole_so true t is = is.globals
    whole_so false t is = is.globals

    pub program_held : ReadsProgram n (Ok p) outcome → ReadsSource n (role_for b) (Ok h) (λ r. code_source (outcome r))
    program_held g =
        let Q : FileBlock → Type 0 = λ x. Holds n (code g.0) (code_in x h.content) in
        let R : Content → Type 0 = λ x. Holds n (code g.0) (code_in p.block x) in (
          code g.0,
          λ r reads. ap code_source (g.1 r reads),
          ap role_in gives ∙ role_is b p.globals,
          subst Q (sym block) (subst R (sym gives) (holds_so b p.globals g.0 g.2)),
        )

    pub program_whole : ReadsProgram n (Ok p) outcome → IsWholeAs n h
    program_whole g =
        let Q : FileBlock → Type 0 = λ x. (x.file ≡ n) × IsWhole x h.content in
        let R : Content → Type 0 = λ x. IsWhole p.block x in
        subst Q (sym block) (g.2.program.file_is, subst R (sym gives) (whole_so b g.0 g.2))

-- ---- YAML

module _ (n : ℕ) (ignore : Bool) (b : Bool) (ds : Documents) (res : Result HeldFile Stop) where
  pub with_code : has_code ds ≡ true → ReadsSource n (role_for b) res (λ r. code_source (template_items r ignore n ds)) → ReadsSource n (role_for b) res (λ r. yaml_for r ignore n b ds)
  with_code e g = subst (λ c. ReadsSource n (role_for b) res (λ r. if c then code_source (template_items r ignore n ds) else plain_for b ds)) (sym e) g

  pub no_code : has_code ds ≡ false → ReadsSource n (role_for b) res (λ r. plain_for b ds) → ReadsSource n (role_for b) res (λ r. yaml_for r ignore n b ds)
  no_code e g = subst (λ c. ReadsSource n (role_for b) res (λ r. if c then code_source (template_items r ignore n ds) else plain_for b ds)) (sym e) g

  pub yaml_read : (bytes : List ℕ) → Read n bytes ≡ Ok ds → ReadsSource n (role_for b) res (λ r. yaml_for r ignore n b ds) → ReadsSource n (role_for b) res (λ r. Read n bytes >>= yaml_for r ignore n b)
  yaml_read bytes e g = subst (λ o. ReadsSource n (role_for b) res (λ r. o >>= yaml_for r ignore n b)) (sym e) g

pub yaml_stop : {A : Type 0} (view : A → Documents) (n : ℕ) (ignore : Bool) (b : Bool) (bytes : List ℕ) (s : Stop) → Gives view (Err s) (Read n bytes) → ReadsSource n (role_for b) (Err s) (λ r. Read n bytes >>= yaml_for r ignore n b)
yaml_stop view n ignore b bytes (stop.Fault f) e = λ r reads. ap (and_then (yaml_for r ignore n b)) e
yaml_stop view n ignore b bytes stop.Memory e = tt

-- without code
abbrev held_as : ℕ → List Op → Content → HeldFile
held_as n os c = record { block = record { file = n; block = os }; content = c }

module _ (n : ℕ) (b : Bool) (ds : Documents) where
  module _ (os : List Op) (empty : os ≡ []) where
    pub library_read : (names : List (List ℕ)) → b ≡ true → ReadsSource n (role_for b) (Ok (held_as n os (content.Library names))) (λ r. plain_for b ds)
    library_read names e = (
      code no_items,
      λ r reads. ap (λ b. plain_for b ds) e,
      ap role_for (sym e),
      record { file_is = refl; blocks_are = ap (λ os. Some (ops_of n os)) empty; words_stand = tt },
    )

    pub library_whole : (names : List (List ℕ)) → names ≡ [] → IsWholeAs n (held_as n os (content.Library names))
    library_whole names none = (refl, none ∙ sym (ap (λ os. each_once (ops_names (ops_of n os))) empty))

    pub documents_read : (ts : List Tree) → b ≡ false → plain_trees ds ≡ Ok (trees_of ts) → ReadsSource n (role_for b) (Ok (held_as n os (content.Documents ts))) (λ r. plain_for b ds)
    documents_read ts e g = (
      plain (trees_of ts),
      λ r reads. ap (λ b. plain_for b ds) e ∙ ap (and_then (λ ts. Ok (plain ts))) g,
      ap role_for (sym e),
      refl,
    )

    pub documents_whole : (ts : List Tree) → IsWholeAs n (held_as n os (content.Documents ts))
    documents_whole ts = (refl, ap (λ os. ops_of n os) empty)

  pub documents_stop : {A : Type 0} (view : A → Trees) (s : Stop) → b ≡ false → Gives view (Err s) (plain_trees ds) → ReadsSource n (role_for b) (Err s) (λ r. plain_for b ds)
  documents_stop view (stop.Fault f) e g = λ r reads. ap (λ b. plain_for b ds) e ∙ ap (and_then (λ ts. Ok (plain ts))) g
  documents_stop view stop.Memory e g = tt

-- ---- by the name

module _ (n : ℕ) (ignore : Bool) (name bytes : List ℕ) (res : Result HeldFile Stop) where
  abbrev by_name : Bool → Type 0
  by_name b = ReadsSource n (if b then loaded else if is_yaml_library name then loaded else template) res (λ r. if b then code_source (code_items r n bytes) else (Read n bytes >>= yaml_source r ignore n name))

  pub star_named : is_star name ≡ true → ReadsSource n (role_for true) res (λ r. code_source (code_items r n bytes)) → by_name (is_star name)
  star_named e g = subst by_name (sym e) g

  pub yaml_named : (b : Bool) → is_star name ≡ false → b ≡ is_yaml_library name → ReadsSource n (role_for b) res (λ r. Read n bytes >>= yaml_for r ignore n b) → by_name (is_star name)
  yaml_named b e k g = subst by_name (sym e) (subst (λ b. ReadsSource n (role_for b) res (λ r. Read n bytes >>= yaml_for r ignore n b)) k g)
