-- What a call returned, beside rows and events.
use Rattle.std.specs.Prelude.{◌≡◌, ℕ, Bool, true, false, List, [], ◌∷◌, ◌++◌, option_map, Option, Result, Ok, Err, Some, None, MatchOption, IfOk, IfSome}
use Rattle.ytt_base.specs.declared.fault.Stop.{Stop}
use Rattle.ytt_base.specs.declared.fault.Stop.TheVariants as stop
use Rattle.ytt_base.specs.declared.text.Memory.{Memory}
use Rattle.ytt_base.specs.Outcomes.{Outcome}
use Rattle.yaml_noted.specs.declared.noted.NotedItem.{NotedItem}
use Rattle.yaml_noted.specs.View.{comment_of, comments_of, content_of, note_of}
use Rattle.yaml_spec.specs.Noted.{Comment, Documents, code_in}
use Rattle.star_tree.specs.declared.program.ItemKind.{ItemKind}
use Rattle.star_tree.specs.View.{item_kind_of}
use Rattle.star_grammar.specs.CodeReaders.{IsCodeReader}
use Rattle.code_spec.specs.CodeReading.{CodeReader}
use Rattle.template_spec.specs.Events.{Event, events}
use Rattle.notes_read.specs.Depths.{depth_of}
use Rattle.template_pass.specs.Rows.{AreRows, Row}
use Rattle.template_events.specs.Levels.{Owner, Part, by_line, loose_all, owner, parts_in, start, trailing}
use Rattle.template_events.specs.Hearing as hearing
use Rattle.template_events.specs.Hearing.{behind, let_go, rows_from}
use Rattle.template_events.specs.View.{held_of, rows_of, waiting_of}
use Rattle.template_events.specs.declared.event.Row as code
use Rattle.template_events.specs.declared.gather.Gathering.{Gathering}
use Rattle.template_events.specs.declared.gather.Held.{Held}
use Rattle.template_events.specs.declared.gather.Setting.{Setting}
use Rattle.template_events.specs.declared.hear.Hearing.{Hearing}
use Rattle.template_events.specs.declared.kept.Growth.{Growth}

-- The rows are the events of the documents; a fault is the one that hearing them ends with; want of memory says nothing.
abbrev pub HasRows : {A : Type 0} → (rows : A → List code.Row) → (file : ℕ) → Documents → Result A Stop → Outcome (List Event) → Type 0
HasRows rows file ds (Ok x) o = (es : List Event) × (o ≡ Ok es) × AreRows ds es (rows_of file (rows x))
HasRows rows file ds (Err (stop.Fault f)) o = o ≡ Err f
HasRows rows file ds (Err stop.Memory) o = Unit {0}

-- by each reader of code
abbrev pub AreHeard : {A : Type 0} → (rows : A → List code.Row) → (ignore_unknown : Bool) → (file : ℕ) → Documents → Result A Stop → Type 0
AreHeard rows ignore file ds result = (r : CodeReader) → IsCodeReader r → HasRows rows file ds result (events r ignore file ds)

-- What was due before a step is due behind it, or the step's fault is.
abbrev pub Goes : {A : Type 0} → (before : Outcome (List Row)) → Result A Stop → (after : Outcome (List Row)) → Type 0
Goes before (Ok x) after = before ≡ after
Goes before (Err (stop.Fault f)) after = before ≡ Err f
Goes before (Err stop.Memory) after = Unit {0}

-- what is due where these parts follow in this order: the rows so far, and behind them those of what is held and of the parts
abbrev pub due_in_order : CodeReader → Setting → Gathering → List Part → Outcome (List Row)
due_in_order r s g ps = behind (rows_of s.file g.rows.items) (rows_from r s.ignore_unknown s.file (held_of g.held) ps)

-- what is due where these parts follow, behind what waits
abbrev pub due : CodeReader → Setting → Hearing → List Part → Outcome (List Row)
due r s h ps = due_in_order r s h.gathering (by_line (waiting_of h.waiting) ps)

-- the rows so far, and behind them that of what is held
abbrev pub with_held : Setting → List code.Row → Option Held → CodeReader → Outcome (List Row)
with_held s rows held r = behind (rows_of s.file rows) (let_go r s.ignore_unknown s.file (held_of held))

-- an item as it begins, behind the comments before it
abbrev pub begin_parts : (level : ℕ) → ItemKind → NotedItem → List Part
begin_parts level kind i = loose_all (comments_of i.before) ++ start level (item_kind_of kind) (note_of i) (content_of i.content) ∷ []

-- the comment of an item
abbrev pub trailing_parts : (level : ℕ) → ItemKind → NotedItem → List Part
trailing_parts level kind i = trailing (owner level (item_kind_of kind) (content_of i.content)) (option_map comment_of i.trailing)

-- A step gathers these parts, whatever follows.
abbrev pub Gathers : Setting → List Part → (old new : Gathering) → Result (Unit {0}) Stop → Type 0
Gathers s ps old new result = (r : CodeReader) → IsCodeReader r → (rest : List Part) → Goes (due_in_order r s old (ps ++ rest)) result (due_in_order r s new rest)

-- A step hears these parts, whatever follows.
abbrev pub Hears : Setting → List Part → (old new : Hearing) → Result (Unit {0}) Stop → Type 0
Hears s ps old new result = (r : CodeReader) → IsCodeReader r → (rest : List Part) → Goes (due r s old (ps ++ rest)) result (due r s new rest)

-- The rows are those of the documents, or the stop is their fault.
abbrev pub HearsWhole : Setting → Documents → (new : Gathering) → Result (Unit {0}) Stop → Type 0
HearsWhole s ds new result = (r : CodeReader) → IsCodeReader r → Goes (rows_from r s.ignore_unknown s.file None (by_line None (parts_in ds))) result (Ok (rows_of s.file new.rows.items))

-- this, unless there was a stop
abbrev pub kept : {A : Type 0} → Result (Unit {0}) Stop → A → Result A Stop
kept (Ok u) x = Ok x
kept (Err e) x = Err e

-- ---- what goes on

-- Where so many brackets are said to be open at the end of a comment, they are.
abbrev pub AreOpen : (text : List ℕ) → Option ℕ → Type 0
AreOpen text found = IfSome found (λ n. depth_of text ≡ Some n)

-- Some are said to be open just where the comment may go on.
abbrev pub Tells : (may_go_on : Bool) → Option ℕ → Type 0
Tells may_go_on found = MatchOption found (may_go_on ≡ false) (λ n. may_go_on ≡ true)

-- What continues a comment, if it does: the code of this text.
abbrev pub Continues : (goes_on : Bool) → (text : List ℕ) → Option Growth → Type 0
Continues goes_on text found = MatchOption found (goes_on ≡ false) (λ g. (goes_on ≡ true) × (g.code.now ≡ code_in text))

-- So of what is held, by each reader of code.
abbrev pub ContinuesHeld : Option hearing.Held → Option Owner → (below : Comment) → Result (Option Growth) Memory → Type 0
ContinuesHeld h o below result = (r : CodeReader) → IsCodeReader r → (file : ℕ) → IfOk result (Continues (hearing.goes_on r file h o below) below.text)

-- Some are said to be open, by each reader of code, just where the comment may go on.
abbrev pub TellsOpen : Comment → Result (Option ℕ) Memory → Type 0
TellsOpen c result = (r : CodeReader) → IsCodeReader r → (file : ℕ) → IfOk result (Tells (hearing.may_go_on r file c))

-- the brackets before it are those of the comment
abbrev pub GrowsFrom : (text : List ℕ) → Option Growth → Type 0
GrowsFrom text found = IfSome found (λ g. depth_of text ≡ Some g.open)

-- so of what is held
abbrev pub AreOpenBefore : Option hearing.Held → Option Growth → Type 0
AreOpenBefore None found = Unit {0}
AreOpenBefore (Some h) found = GrowsFrom h.comment.text found
