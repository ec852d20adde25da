-- Readers of code whose literals are what the program holds: integers of 128 bits, and texts in UTF-8; and whose functions have
-- names in UTF-8. So are those of what comments say by them, and of the events of a text.
use Rattle.std.proofs.Common.{ℕ, Bool, ◌||◌, List, [], ◌∷◌, drop, Ok, IsUtf8}
use Rattle.std.specs.Prelude.{codes}
use Rattle.std.specs.Result.{IfOk}
use Rattle.ytt_base.specs.declared.fault.FaultKind.TheVariants as kind
use Rattle.ytt_base.specs.declared.fault.Place.{Place}
use Rattle.ytt_base.specs.Outcomes.{place_at}
use Rattle.ytt_laws.proofs.Yielded.{yielded_if, yielded_then}
use Rattle.yaml_spec.specs.Bytes.{is_empty, is_word}
use Rattle.yaml_spec.specs.Noted.{Comment, Documents, is_note, is_code, code_in}
use Rattle.yaml_spec.specs.Refusals.{refused}
use Rattle.code_spec.specs.Code.{Name, Exprs, no_exprs, an_expr}
use Rattle.code_spec.specs.CodeReading.{CodeReader, Header, if_header, elif_header, else_header, for_header, def_header, end_header}
use Rattle.code_spec.specs.Program.{Instruction, part, statement, begin_if, begin_elif, begin_else, begin_for, begin_def, close}
use Rattle.star_spec.specs.Held.{HeldExpr, HeldExprs, HeldParameters, HeldStatement}
use Rattle.template_spec.specs.Comments.{begins as said_begins}
use Rattle.template_spec.specs.Comments.{Said, ignored, a_note, a_value, statements, opens, elif, otherwise, closes, arguments_in, code_said, comment_said, header_said, is_bare_note, is_for_one, is_header, known_said, marked_said, name_in, note_names, note_said, note_with, plain_said, value_said, without_end}
use Rattle.template_spec.specs.Events.{Event, begins, beside, says, Raw, begun, trails, loose, events, gathered, heard, nothing, raw_text, none_waits, by_line, spoken}

-- ---- readers

abbrev pub HeldHeader : Header → Type 0
HeldHeader (if_header e) = HeldExpr e
HeldHeader (elif_header e) = HeldExpr e
HeldHeader else_header = Unit {0}
HeldHeader (for_header x e) = HeldExpr x × HeldExpr e
HeldHeader (def_header x ps) = IsUtf8 x × HeldParameters ps
HeldHeader end_header = Unit {0}

abbrev pub HeldInstruction : Instruction → Type 0
HeldInstruction (part o) = Unit {0}
HeldInstruction (statement s) = HeldStatement s
HeldInstruction (begin_if p e) = HeldExpr e
HeldInstruction (begin_elif p e) = HeldExpr e
HeldInstruction (begin_else p) = Unit {0}
HeldInstruction (begin_for p x e) = HeldExpr x × HeldExpr e
HeldInstruction (begin_def p n fragment x ps) = IsUtf8 x × HeldParameters ps
HeldInstruction (close p) = Unit {0}

abbrev pub HeldLine : List Instruction → Type 0
HeldLine [] = Unit {0}
HeldLine (i ∷ is) = HeldInstruction i × HeldLine is

-- whatever it reads
pub record ReadsHeld (r : CodeReader) : Type 0 where
  pub expr : (place : Place) (text : List ℕ) → IfOk (r.expr place text) HeldExpr
  pub args : (place : Place) (text : List ℕ) → IfOk (r.args place text) HeldExprs
  pub simple : (place : Place) (text : List ℕ) → IfOk (r.simple place text) HeldLine
  pub header : (place : Place) (text : List ℕ) → IfOk (r.header place text) HeldHeader
  pub file : (number : ℕ) (text : List ℕ) → IfOk (r.file number text) HeldLine

-- ---- what is said

abbrev pub HeldSaid : Said → Type 0
HeldSaid ignored = Unit {0}
HeldSaid (a_note x es) = HeldExprs es
HeldSaid (a_value e) = HeldExpr e
HeldSaid (statements is) = HeldLine is
HeldSaid (opens h z) = HeldHeader h
HeldSaid (elif e) = HeldExpr e
HeldSaid otherwise = Unit {0}
HeldSaid closes = Unit {0}

abbrev pub HeldEvent : Event → Type 0
HeldEvent (begins p k l) = Unit {0}
HeldEvent (beside p k b l s) = HeldSaid s
HeldEvent (says l s) = HeldSaid s

abbrev pub HeldEvents : List Event → Type 0
HeldEvents [] = Unit {0}
HeldEvents (e ∷ es) = HeldEvent e × HeldEvents es

note_held : (place : Place) (x : Name) (es : Exprs) → HeldExprs es → IfOk (note_with place x es) HeldSaid
note_held place x no_exprs h = tt
note_held place x (an_expr e es) h = yielded_if HeldSaid (is_bare_note x) _ _ (λ k. tt) (λ k. h)

header_held : (z : Bool) (h : Header) → HeldHeader h → IfOk (header_said z h) HeldSaid
header_held z (if_header e) h = h
header_held z (elif_header e) h = h
header_held z else_header h = tt
header_held z (for_header x e) h = h
header_held z (def_header x ps) h = h
header_held z end_header h = tt

spoken_held : (s : Said) (event : Said → Event) (es : List Event) → (HeldSaid s → HeldEvent (event s)) → HeldSaid s → HeldEvents es → HeldEvents (spoken s event es)
spoken_held ignored event es f h g = g
spoken_held (a_note x vs) event es f h g = (f h, g)
spoken_held (a_value e) event es f h g = (f h, g)
spoken_held (statements is) event es f h g = (f h, g)
spoken_held (opens k z) event es f h g = (f h, g)
spoken_held (elif e) event es f h g = (f h, g)
spoken_held otherwise event es f h g = (f h, g)
spoken_held closes event es f h g = (f h, g)

module _ (r : CodeReader) (reads : ReadsHeld r) where
  known_held : (place : Place) (x : Name) (arguments : List ℕ) → IfOk (known_said r place x arguments) HeldSaid
  known_held place x arguments = yielded_then HeldExprs HeldSaid (r.args place arguments) (note_with place x) (reads.args place arguments) (note_held place x)

  noted_held : (place : Place) (text : List ℕ) → IfOk (note_said r place text) HeldSaid
  noted_held place text =
      yielded_if HeldSaid (is_empty text) _ _ (λ e. tt)
      (λ e. yielded_if HeldSaid (is_word note_names (name_in text)) _ _ (λ f. known_held place (name_in text) (arguments_in text)) (λ f. tt))

  code_held : (place : Place) (text : List ℕ) → IfOk (code_said r place text) HeldSaid
  code_held place text =
      yielded_if HeldSaid (is_header text) _ _
      (λ e. yielded_then HeldHeader HeldSaid (r.header place (without_end text)) (header_said (is_for_one text)) (reads.header place (without_end text)) (header_held (is_for_one text)))
      (λ e. yielded_then HeldLine HeldSaid (r.simple place text) (λ is. Ok (statements is)) (reads.simple place text) (λ is h. h))

  value_held : (place : Place) (text : List ℕ) → IfOk (value_said r place text) HeldSaid
  value_held place text = yielded_then HeldExpr HeldSaid (r.expr place text) (λ e. Ok (a_value e)) (reads.expr place text) (λ e h. h)

  marked_held : (place : Place) (own_line : Bool) (text : List ℕ) → IfOk (marked_said r place own_line text) HeldSaid
  marked_held place own_line text =
      yielded_if HeldSaid (is_code text) _ _
      (λ e. yielded_if HeldSaid own_line _ _ (λ f. code_held place (code_in text)) (λ f. value_held place (code_in text))) (λ e. noted_held place (drop 2 text))

  plain_held : (ignore : Bool) (place : Place) (text : List ℕ) → IfOk (plain_said ignore place text) HeldSaid
  plain_held ignore place text = yielded_if HeldSaid (said_begins text (codes "#!") || ignore) (Ok ignored) (refused kind.PlainComment place) (λ f. tt) (λ f. tt)

  comment_held : (ignore : Bool) (place : Place) (c : Comment) → IfOk (comment_said r ignore place c) HeldSaid
  unfolding comment_said
  comment_held ignore place c =
      yielded_if HeldSaid (is_note c.text) _ _ (λ e. marked_held place c.own_line c.text) (λ e. plain_held ignore place c.text)

  heard_held : (ignore : Bool) (file : ℕ) (xs : List Raw) → IfOk (heard r ignore file xs) HeldEvents
  heard_held ignore file [] = tt
  heard_held ignore file (begun p k l ∷ xs) =
      yielded_then HeldEvents HeldEvents (heard r ignore file xs) (λ es. Ok (begins p k l ∷ es)) (heard_held ignore file xs) (λ es h. (tt, h))
  heard_held ignore file (trails p k b c ∷ xs) =
      yielded_then HeldSaid HeldEvents (comment_said r ignore (place_at file c.line) c) _ (comment_held ignore (place_at file c.line) c)
      (λ s g. yielded_then HeldEvents HeldEvents (heard r ignore file xs) (λ es. Ok (spoken s (beside p k b c.line) es)) (heard_held ignore file xs)
      (λ es h. spoken_held s (beside p k b c.line) es (λ k. k) g h))
  heard_held ignore file (loose c ∷ xs) =
      yielded_then HeldSaid HeldEvents (comment_said r ignore (place_at file c.line) c) _ (comment_held ignore (place_at file c.line) c)
      (λ s g. yielded_then HeldEvents HeldEvents (heard r ignore file xs) (λ es. Ok (spoken s (says c.line) es)) (heard_held ignore file xs)
      (λ es h. spoken_held s (says c.line) es (λ k. k) g h))

  pub events_held : (ignore : Bool) (file : ℕ) (ds : Documents) → IfOk (events r ignore file ds) HeldEvents
  unfolding events
  events_held ignore file ds = heard_held ignore file (gathered r file nothing (by_line none_waits (raw_text ds)))
