-- What the answer to the words is.
use Rattle.std.specs.Prelude.{◌≡◌, ℕ, List}
use Rattle.ytt_base.specs.View.{trees_of}
use Rattle.yaml_spec.specs.Text.{Text}
use Rattle.ytt_base.specs.FaultText.{fault_line}
use Rattle.ytt_outside.specs.Standing.{Standing}
use Rattle.star_grammar.specs.CodeReaders.{MeansCode}
use Rattle.file_units.specs.declared.units.RenderStop.{RenderStop}
use Rattle.file_units.specs.declared.units.RenderStop.TheVariants as stop
use Rattle.ytt_spec.specs.Due.{Due, done, due_for, fault, read_failed_line, usage, usage_line}
use Rattle.ytt_spec.specs.Meaning.{meaning}
use Rattle.ytt_spec.specs.Words.{Command}
use Rattle.ytt_words.specs.declared.words.WordsStop.{WordsStop}
use Rattle.ytt_words.specs.declared.words.WordsStop.TheVariants as words_stop
use Rattle.ytt_main.specs.declared.answer.Answer.{Answer}
use Rattle.ytt_main.specs.declared.answer.Answer.TheVariants as answer

-- The answer is something of which this holds, as that it is due, unless the files failed or there was no room.
abbrev pub Answers : (Due → Type 0) → Answer → Type 0
Answers IsAnswer (answer.Documents trees) = IsAnswer (done (Text (trees_of trees)))
Answers IsAnswer (answer.Listing text) = IsAnswer (done text)
Answers IsAnswer (answer.Fault line) = IsAnswer (fault line)
Answers IsAnswer (answer.Usage line) = IsAnswer (usage line)
Answers IsAnswer (answer.ReadFailed line) = Unit {0}
Answers IsAnswer answer.Memory = Unit {0}

-- this is due for a command over a tree of files, whichever reader reads the code as it reads
abbrev pub IsMeantDue : Command → (List ℕ → Standing) → Due → Type 0
IsMeantDue command tree = MeansCode (λ r. due_for (meaning r command tree))

-- the answer is the line of a stop, unless there was no room
abbrev pub AnswersStop : RenderStop → Answer → Type 0
AnswersStop (stop.Refused f names) (answer.Fault line) = line ≡ fault_line names f
AnswersStop (stop.ReadFailed path) (answer.ReadFailed line) = line ≡ read_failed_line path
AnswersStop s answer.Memory = Unit {0}
AnswersStop s _ = ⊥

-- the answer is the line of a wrong word, unless there was no room
abbrev pub AnswersWords : WordsStop → Answer → Type 0
AnswersWords (words_stop.Wrong n) (answer.Usage line) = line ≡ usage_line n
AnswersWords s answer.Memory = Unit {0}
AnswersWords s _ = ⊥
