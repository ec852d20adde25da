-- The units of a request: its files in the order of their numbers from 1, each with its name, with what it is for, and with what it
-- holds, which is code or documents.
use Rattle.std.specs.Prelude.{ℕ, suc, ◌==◌, Bool, List, [], ◌∷◌, Ok, if◌then◌else◌}
use Rattle.ytt_base.specs.Outcomes.{Outcome, ◌>>=◌}
use Rattle.ytt_base.specs.Trees.{Trees}
use Rattle.code_spec.specs.CodeReading.{CodeReader}
use Rattle.file_spec.specs.Finding.{FoundFile}
use Rattle.file_spec.specs.Names.{is_star, is_yaml_library}
use Rattle.template_spec.specs.Numbered.{numbered}
use Rattle.passes_spec.specs.Passes.{all_built, bound, template_passed}
use Rattle.template_spec.specs.Template.{Items, no_items}
use Rattle.yaml_spec.specs.Noted.{Documents, has_code}
use Rattle.yaml_spec.specs.Read.{Read, plain_trees}
use Rattle.world_spec.specs.StarFiles.{star_items}

-- a file that gives documents, or one that is only loaded; schemas, data and values come later
pub data Role : Type 0 where
  template : Role
  loaded : Role

-- items, whose functions have their numbers, or the documents of a file without code, of which none is null
pub data Source : Type 0 where
  code : Items → Source
  plain : Trees → Source

pub record FileUnit : Type 0 where
  pub name : List ℕ
  pub role : Role
  pub source : Source

-- ---- reading a unit

-- the last passes over a file of code: names, and what isn't built yet
abbrev pub passed : Items → Outcome Items
passed t = bound t >>= all_built

abbrev pub role_of : (name : List ℕ) → Role
role_of name = if is_star name then loaded else if is_yaml_library name then loaded else template

abbrev pub unit_of : FoundFile → Source → FileUnit
unit_of f s = record { name = f.name; role = role_of f.name; source = s }

-- YAML without code: documents in which no key stands twice, or nothing where the file is only loaded
abbrev pub plain_source : (name : List ℕ) → Documents → Outcome Source
plain_source name ds = if is_yaml_library name then Ok (code no_items) else (plain_trees ds >>= λ ts. Ok (plain ts))

-- the items of a template, whose functions have their numbers
abbrev pub template_items : CodeReader → (ignore_unknown : Bool) → (number : ℕ) → Documents → Outcome Items
template_items r ignore n ds = template_passed r ignore n ds >>= (λ t. Ok (numbered t))

-- those of a file of code
abbrev pub code_items : CodeReader → (number : ℕ) → (bytes : List ℕ) → Outcome Items
code_items r n bytes = star_items r n bytes >>= passed

abbrev pub code_source : Outcome Items → Outcome Source
code_source o = o >>= (λ t. Ok (code t))

abbrev pub yaml_source : CodeReader → (ignore_unknown : Bool) → (number : ℕ) → (name : List ℕ) → Documents → Outcome Source
yaml_source r ignore n name ds = if has_code ds then code_source (template_items r ignore n ds) else plain_source name ds

abbrev pub source_of : CodeReader → (ignore_unknown : Bool) → (number : ℕ) → (name bytes : List ℕ) → Outcome Source
source_of r ignore n name bytes = if is_star name then code_source (code_items r n bytes) else (Read n bytes >>= yaml_source r ignore n name)

-- the unit of a file with a number, or the first fault of its passes
abbrev pub unit_read : CodeReader → (ignore_unknown : Bool) → (number : ℕ) → FoundFile → (bytes : List ℕ) → Outcome FileUnit
unit_read r ignore n f bytes = source_of r ignore n f.name bytes >>= (λ s. Ok (unit_of f s))

-- ---- units by their numbers

abbrev pub names_of : List FileUnit → List (List ℕ)
names_of [] = []
names_of (u ∷ us) = u.name ∷ names_of us

abbrev pub items_of : Source → Items
items_of (code t) = t
items_of (plain ts) = no_items

-- the code of all files, by their numbers, where the first of these has this one
abbrev pub items_from : (first : ℕ) → List FileUnit → (file : ℕ) → Items
items_from n [] f = no_items
items_from n (u ∷ us) f = if f == n then items_of u.source else items_from (suc n) us f

abbrev pub items_at : List FileUnit → (file : ℕ) → Items
items_at us = items_from 1 us
