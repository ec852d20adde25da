-- What is due: the status, and the bytes for `out` and for `err`.
use Rattle.std.specs.Prelude.{ℕ, List, [], ◌∷◌, ◌++◌, codes, decimal, Ok, Err}
use Rattle.ytt_base.specs.FaultText.{fault_line}
use Rattle.ytt_outside.specs.Standing.{Standing}
use Rattle.yaml_spec.specs.Text.{Text}
use Rattle.code_spec.specs.CodeReading.{CodeReader}
use Rattle.star_grammar.specs.CodeReaders.{MeansCode}
use Rattle.ytt_spec.specs.Meaning.{Meant, Produced, a_listing, documents, meaning}
use Rattle.ytt_spec.specs.Words.{Asked, asked_for, wrong, asked}

-- Done with a text for `out`, or Fault or Usage with a line for `err`
pub data Due : Type 0 where
  done : List ℕ → Due
  fault : List ℕ → Due
  usage : List ℕ → Due

abbrev pub usage_line : ℕ → List ℕ
usage_line n = codes "error: usage at word " ++ decimal n ++ 10 ∷ []

abbrev pub read_failed_line : List ℕ → List ℕ
read_failed_line path = codes "error: read failed: " ++ path ++ 10 ∷ []

abbrev pub write_failed_line : List ℕ
write_failed_line = codes "error: write failed\n"

abbrev pub out_of_memory_line : List ℕ
out_of_memory_line = codes "error: out of memory\n"

-- the text of documents, and a listing as it is
abbrev pub text_of : Produced → List ℕ
text_of (documents ts) = Text ts
text_of (a_listing text) = text

-- the text that is due, or the line of a refusal
abbrev pub due_for : Meant → Due
due_for (Ok p) = done (text_of p)
due_for (Err refusal) = fault (fault_line refusal.names refusal.fault)

abbrev pub due_asked : CodeReader → Asked → (List ℕ → Standing) → Due
due_asked r (wrong n) tree = usage (usage_line n)
due_asked r (asked_for command) tree = due_for (meaning r command tree)

-- what is due for these words over these files, where code is read so
abbrev pub due : CodeReader → List (List ℕ) → (List ℕ → Standing) → Due
due r words tree = due_asked r (asked words) tree

-- this is due, whichever reader reads the code as it reads
abbrev pub IsDue : List (List ℕ) → (List ℕ → Standing) → Due → Type 0
IsDue words tree = MeansCode (λ r. due r words tree)
