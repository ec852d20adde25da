-- What a request means: documents or a listing, or a fault with the names of its files; and what is asked of the files for it.
use Rattle.std.specs.Prelude.{ℕ, suc, List, [], ◌∷◌, codes, Bool, Result, Ok, Err}
use Rattle.ytt_base.specs.declared.fault.Fault.{Fault}
use Rattle.ytt_base.specs.Outcomes as outcomes
use Rattle.ytt_base.specs.Outcomes.{Outcome}
use Rattle.ytt_base.specs.Trees.{Trees}
use Rattle.ytt_outside.specs.Standing.{Standing}
use Rattle.file_spec.specs.Asked.{Ask, Traced, ◌>>=◌}
use Rattle.file_spec.specs.Finding.{FoundFile, files_found}
use Rattle.file_spec.specs.Names.{last_part}
use Rattle.file_spec.specs.Reading.{all_read}
use Rattle.compile_spec.specs.Compiling.{items_asked, listing_of}
use Rattle.world_spec.specs.Parts.{Budget, units_meaning}
use Rattle.code_spec.specs.CodeReading.{CodeReader}
use Rattle.star_grammar.specs.CodeReaders.{MeansCode}
use Rattle.world_spec.specs.Units as units
use Rattle.world_spec.specs.Units.{FileUnit, unit_read}
use Rattle.ytt_spec.specs.Words.{Command, Compile, Render, compile, render}

-- a fault, with the names of the files in which it may stand: the first is that of file number 1
pub record Refusal : Type 0 where
  pub fault : Fault
  pub names : List (List ℕ)

-- what a request gives: documents, or the listing of a program
pub data Produced : Type 0 where
  documents : Trees → Produced
  a_listing : List ℕ → Produced

-- or why it gives nothing
abbrev pub Meant : Type 0
Meant = Result Produced Refusal

-- an outcome, whose fault stands in the files of these names
abbrev pub named_in : {A : Type 0} → List (List ℕ) → Outcome A → Result A Refusal
named_in names (Ok a) = Ok a
named_in names (Err f) = Err (record { fault = f; names = names })

abbrev pub found_names : List FoundFile → List (List ℕ)
found_names [] = []
found_names (f ∷ fs) = f.name ∷ found_names fs

-- ---- parts 1 and 2

-- reading the files that were found
abbrev pub files_read : CodeReader → (ignore_unknown : Bool) → (tree : List ℕ → Standing) → List FoundFile → Traced (List FileUnit)
files_read r ignore tree fs = all_read tree (unit_read r ignore) fs

-- the names of the files that were found; none where a fault comes first
abbrev pub names_found : Outcome (List FoundFile) → List (List ℕ)
names_found (Ok fs) = found_names fs
names_found (Err f) = []

-- finding and reading the files of these paths: the units, or the first fault, and what is asked of the files until then
abbrev pub units_asked : CodeReader → (ignore_unknown : Bool) → (paths : List (List ℕ)) → (tree : List ℕ → Standing) → Traced (List FileUnit)
units_asked r ignore paths tree = files_found tree paths >>= files_read r ignore tree

-- the units, or the first fault with the names of the files
abbrev pub units_found : CodeReader → (ignore_unknown : Bool) → (paths : List (List ℕ)) → (tree : List ℕ → Standing) → Result (List FileUnit) Refusal
units_found r ignore paths tree = named_in (names_found (files_found tree paths).outcome) (units_asked r ignore paths tree).outcome

-- the calls that a run makes of the files, in their order
abbrev pub run_asks : CodeReader → (ignore_unknown : Bool) → (paths : List (List ℕ)) → (tree : List ℕ → Standing) → List Ask
run_asks r ignore paths tree = (units_asked r ignore paths tree).asks

-- units of the numbers from this one on that are read of some bytes
abbrev pub AreRead : (ignore_unknown : Bool) → (number : ℕ) → List FileUnit → Type 0
AreRead ignore n [] = Unit {0}
AreRead ignore n (u ∷ us) = ((f : FoundFile) × (bytes : List ℕ) × MeansCode (λ r. unit_read r ignore n f bytes) (Ok u)) × AreRead ignore (suc n) us

-- ---- a request

-- what comes of a result is produced so
abbrev pub produced : {A : Type 0} → (A → Produced) → Result A Refusal → Meant
produced f (Ok a) = Ok (f a)
produced f (Err refusal) = Err refusal

abbrev pub documents_meant : Render → Result (List FileUnit) Refusal → Meant
documents_meant asked (Ok us) = produced documents (named_in (units.names_of us) (units_meaning asked.budget us))
documents_meant asked (Err refusal) = Err refusal

-- the file has the last part of its path as its name
abbrev pub listing_meant : CodeReader → Compile → (tree : List ℕ → Standing) → Meant
listing_meant r asked tree = produced (λ t. a_listing (listing_of t)) (named_in (last_part asked.path ∷ []) (items_asked r asked.ignore_unknown asked.path tree).outcome)

-- the paths that a command names, and the calls that it makes of the files, in their order
abbrev pub paths_of : Command → List (List ℕ)
paths_of (render asked) = asked.paths
paths_of (compile asked) = asked.path ∷ []

abbrev pub asks_of : CodeReader → Command → (tree : List ℕ → Standing) → List Ask
asks_of r (render asked) tree = run_asks r asked.ignore_unknown asked.paths tree
asks_of r (compile asked) tree = (items_asked r asked.ignore_unknown asked.path tree).asks

-- What a command means over a whole tree of files. The reader of code is a parameter: each that reads as code reads gives the same.
abbrev pub meaning : CodeReader → Command → (tree : List ℕ → Standing) → Meant
meaning r (render asked) tree = documents_meant asked (units_found r asked.ignore_unknown asked.paths tree)
meaning r (compile asked) tree = listing_meant r asked tree

-- it means this, whichever reader reads the code as it reads
abbrev pub Means : Command → (tree : List ℕ → Standing) → Meant → Type 0
Means command tree = MeansCode (λ r. meaning r command tree)

-- ---- one text

-- a file of documents
abbrev pub a_file : FoundFile
a_file = record { path = codes "a.yml"; name = codes "a.yml" }

-- What a text means as the one file of a request: its documents, or its first fault.
abbrev pub text_meaning : CodeReader → (ignore_unknown : Bool) → Budget → List ℕ → Outcome Trees
text_meaning r ignore budget bytes = outcomes.and_then (λ u. units_meaning budget (u ∷ [])) (unit_read r ignore 1 a_file bytes)

-- a text means this outcome, whichever reader reads the code as it reads
abbrev pub TextMeans : (ignore_unknown : Bool) → Budget → List ℕ → Outcome Trees → Type 0
TextMeans ignore budget bytes = MeansCode (λ r. text_meaning r ignore budget bytes)
