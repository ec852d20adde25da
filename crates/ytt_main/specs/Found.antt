-- What is found out before anything is written.
use Rattle.std.specs.Prelude.{◌≡◌, ℕ, List, Ok, Err, IfSome}
use Rattle.ytt_base.specs.FaultText.{fault_line}
use Rattle.ytt_base.specs.Trees.{AreTrees, Trees, Writable}
use Rattle.ytt_base.specs.View.{trees_of}
use Rattle.ytt_outside.specs.Counts.{Rose}
use Rattle.code_spec.specs.CodeReading.{CodeReader}
use Rattle.star_grammar.specs.CodeReaders.{IsCodeReader, MeansCode}
use Rattle.star_spec.specs.Calls.{Host}
use Rattle.star_spec.specs.Eval.{starlark}
use Rattle.template_spec.specs.Compiled.{compiled}
use Rattle.template_spec.specs.Template.{Items}
use Rattle.template_meaning.specs.Meaning.{FilesAgree}
use Rattle.file_spec.specs.Reading.{IsPathOfRun}
use Rattle.world_spec.specs.Worlds.{Kept}
use Rattle.compile_spec.specs.Compiling.{items_asked, listing_of}
use Rattle.ytt_spec.specs.Due.{read_failed_line, text_of, usage_line}
use Rattle.ytt_spec.specs.Meaning.{Meant, Means, Produced, Refusal, asks_of, documents, paths_of}
use Rattle.ytt_spec.specs.Requests.{IsFirstWrong, IsRequest}
use Rattle.ytt_spec.specs.Words.{Command, Compile, compile}
use Rattle.ytt_main.specs.Seen.{Files}
use Rattle.ytt_main.specs.declared.answer.Answer.{Answer}
use Rattle.ytt_main.specs.declared.answer.Answer.TheVariants as answer

-- The words are a request, this is what it means where the files tell, and no call of the files failed.
pub record IsMeant (words : List (List ℕ)) (files : Files) (meant : Meant) : Type 0 where
  pub command : Command
  pub request : IsRequest words command
  pub means : IfSome files.tree (λ tree. Means command tree meant)
  pub none_failed : files.faults_now ≡ files.faults_before

-- the words are a request that means these documents
abbrev pub AreMeant : (words : List (List ℕ)) → Files → Trees → Type 0
AreMeant words files ts = IsMeant words files (Ok (documents ts))

-- this text is due on `out`: that of documents that are meant, or a listing that is
pub record IsDueText (words : List (List ℕ)) (files : Files) (text : List ℕ) : Type 0 where
  pub produced : Produced
  pub meant : IsMeant words files (Ok produced)
  pub text_is : text ≡ text_of produced

-- The program of items runs as the items are built: their file gives the same, whatever a host answers, whatever the other files hold, and
-- whatever they give to those that load them.
abbrev pub RunsAsBuilt : Items → Type 0
RunsAsBuilt t = (host : Host (Kept (Unit {0}))) → FilesAgree starlark host (compiled t) t

-- The words ask for the listing of a file, whose items are these where the files tell; it is the listing of their program.
pub record IsListing (words : List (List ℕ)) (files : Files) (text : List ℕ) : Type 0 where
  pub asked : Compile
  pub request : IsRequest words (compile asked)
  pub items : Items
  pub found : IfSome files.tree (λ tree. MeansCode (λ r. (items_asked r asked.ignore_unknown asked.path tree).outcome) (Ok items))
  pub none_failed : files.faults_now ≡ files.faults_before
  pub text_is : text ≡ listing_of items
  pub runs : RunsAsBuilt items

-- the words are a request that means a refusal, and this is its line
pub record IsFaultLine (words : List (List ℕ)) (files : Files) (line : List ℕ) : Type 0 where
  pub refusal : Refusal
  pub meant : IsMeant words files (Err refusal)
  pub line_is : line ≡ fault_line refusal.names refusal.fault

-- the words are no request, and this is the line with the number of the first one at which none goes on; no call of the files failed
pub record IsUsageLine (words : List (List ℕ)) (files : Files) (line : List ℕ) : Type 0 where
  pub number : ℕ
  pub first_wrong : IsFirstWrong words number
  pub none_failed : files.faults_now ≡ files.faults_before
  pub line_is : line ≡ usage_line number

-- The words are a request, the files' count of failures rose, and this is the line with a path that its run asks for; where the files
-- don't tell, that lies at or below one of the request's.
pub record IsReadLine (words : List (List ℕ)) (files : Files) (line : List ℕ) : Type 0 where
  pub command : Command
  pub request : IsRequest words command
  pub rose : Rose files.faults_before files.faults_now
  pub path : List ℕ
  pub is_asked : (r : CodeReader) → IsCodeReader r → IsPathOfRun (paths_of command) (asks_of r command) files.tree path
  pub line_is : line ≡ read_failed_line path

-- what stands behind an answer to the words; documents are such that their text reads back
abbrev pub Found : (words : List (List ℕ)) → Files → Answer → Type 0
Found words files (answer.Documents trees) = AreMeant words files (trees_of trees) × AreTrees (trees_of trees) × Writable (trees_of trees)
Found words files (answer.Listing text) = IsListing words files text
Found words files (answer.Fault line) = IsFaultLine words files line
Found words files (answer.Usage line) = IsUsageLine words files line
Found words files (answer.ReadFailed line) = IsReadLine words files line
Found words files answer.Memory = Unit {0}
