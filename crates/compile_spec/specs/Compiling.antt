-- What `compile` means: the listing of the program of a file, or its first fault; and what is asked of the files for it.
use Rattle.std.specs.Prelude.{ℕ, not, ◌||◌, Bool, true, false, List, [], ◌∷◌, codes, Err}
use Rattle.ytt_base.specs.declared.fault.FaultKind.TheVariants as kind
use Rattle.ytt_base.specs.Outcomes as outcomes
use Rattle.ytt_base.specs.Outcomes.{Outcome}
use Rattle.ytt_outside.specs.Standing.{Standing}
use Rattle.yaml_spec.specs.Noted.{Documents, has_code}
use Rattle.yaml_spec.specs.Read.{Read}
use Rattle.code_spec.specs.CodeReading.{CodeReader}
use Rattle.template_spec.specs.Compiled.{compiled}
use Rattle.template_spec.specs.Template.{Items}
use Rattle.file_spec.specs.Asked.{Traced, after_one, bytes_of, refused, told, ◌>>=◌}
use Rattle.file_spec.specs.Finding.{path_fault}
use Rattle.file_spec.specs.Limits.{largest_file}
use Rattle.file_spec.specs.Names.{has_ending, last_part}
use Rattle.file_spec.specs.Reading.{bytes_within}
use Rattle.listing_spec.specs.Listing.{listing}
use Rattle.world_spec.specs.Units.{template_items}

-- a file of such a name is compiled, a library of YAML too
abbrev pub is_compiled : (name : List ℕ) → Bool
is_compiled name = has_ending name (codes ".yml") || has_ending name (codes ".yaml")

-- The items of the documents of file number 1, whose functions have their numbers, or the first fault of their passes. A file without code
-- counts as a template whose comments are ignored.
abbrev pub listed_items : CodeReader → (ignore_unknown : Bool) → Documents → Outcome Items
listed_items r ignore ds = template_items r (not (has_code ds) || ignore) 1 ds

-- the items of a text, or its first fault
abbrev pub text_items : CodeReader → (ignore_unknown : Bool) → (bytes : List ℕ) → Outcome Items
text_items r ignore bytes = outcomes.and_then (listed_items r ignore) (Read 1 bytes)

-- the listing of their program
abbrev pub listing_of : Items → List ℕ
listing_of t = listing (compiled t)

-- the items of the file at a path; where it has no name of a file that is compiled, it isn't looked for
abbrev pub items_asked : CodeReader → (ignore_unknown : Bool) → (path : List ℕ) → (tree : List ℕ → Standing) → Traced Items
items_asked r ignore path tree =
    elim (is_compiled (last_part path)) [
      | true ↦ after_one (bytes_of path) (told (bytes_within largest_file path (tree path))) >>= (λ bytes. told (text_items r ignore bytes))
      | false ↦ refused (path_fault kind.FileMissing path)
    ]
