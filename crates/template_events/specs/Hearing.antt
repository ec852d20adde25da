-- The rows of items and comments: each code comment is heard together with those that continue it.
use Rattle.std.specs.Prelude.{ℕ, Bool, false, ◌&&◌, if◌then◌else◌, List, [], ◌∷◌, ◌++◌, Option, Some, None, Ok}
use Rattle.ytt_base.specs.Outcomes.{Outcome, ◌>>=◌, place_at}
use Rattle.yaml_spec.specs.Bytes.{line_feed}
use Rattle.yaml_spec.specs.Noted.{Comment, is_code, code_in}
use Rattle.code_spec.specs.CodeReading.{CodeReader}
use Rattle.template_spec.specs.Comments.{Said, ignored, comment_said, without_end}
use Rattle.template_spec.specs.Events.{continues_it}
use Rattle.template_pass.specs.Rows.{Row, begins, beside, says}
use Rattle.template_events.specs.Levels.{Owner, Part, starts, comment}

-- a comment that may go on, and the line of its last part
pub record Held : Type 0 where
  pub owner : Option Owner
  pub comment : Comment
  pub last : ℕ

abbrev pub held_from : Option Owner → Comment → Held
held_from o c = record { owner = o; comment = c; last = c.line }

-- with more code
abbrev pub longer_by : Comment → (code : List ℕ) → Comment
longer_by c code = record { line = c.line; own_line = c.own_line; text = c.text ++ line_feed ∷ code }

-- with more code, up to this line
abbrev pub grown_by : Held → (code : List ℕ) → (line : ℕ) → Held
grown_by h code l = record { owner = h.owner; comment = longer_by h.comment code; last = l }

-- it is code whose brackets are open
abbrev pub may_go_on : CodeReader → (file : ℕ) → Comment → Bool
may_go_on r file c = is_code c.text && r.is_open (place_at file c.line) (without_end (code_in c.text))

-- only a comment of no item continues another
abbrev pub goes_on : CodeReader → (file : ℕ) → Option Held → Option Owner → (below : Comment) → Bool
goes_on r file None o d = false
goes_on r file (Some h) (Some o) d = false
goes_on r file (Some h) None d = continues_it r file h.comment h.last d

-- with the code of the comment that continues it
abbrev pub grown : Option Held → (code : List ℕ) → (line : ℕ) → Option Held
grown None code l = None
grown (Some h) code l = Some (grown_by h code l)

-- ---- rows

abbrev pub row_of : Option Owner → (line : ℕ) → Said → Row
row_of None l s = says l s
row_of (Some o) l s = beside o.level o.kind o.is_collection l s

-- ignored comments are no rows
abbrev pub spoken : Option Owner → (line : ℕ) → Said → List Row
spoken o l ignored = []
spoken o l s = row_of o l s ∷ []

-- the row of a comment
abbrev pub heard : CodeReader → (ignore_unknown : Bool) → (file : ℕ) → Held → Outcome (List Row)
heard r ignore file h = comment_said r ignore (place_at file h.comment.line) h.comment >>= (λ s. Ok (spoken h.owner h.comment.line s))

-- the row of what is held
abbrev pub let_go : CodeReader → (ignore_unknown : Bool) → (file : ℕ) → Option Held → Outcome (List Row)
let_go r ignore file None = Ok []
let_go r ignore file (Some h) = heard r ignore file h

-- rows behind others
abbrev pub behind : List Row → Outcome (List Row) → Outcome (List Row)
behind rs o = o >>= (λ more. Ok (rs ++ more))

-- first some rows, and then others
abbrev pub and_rows : Outcome (List Row) → Outcome (List Row) → Outcome (List Row)
and_rows o more = o >>= (λ rs. behind rs more)

-- the rows of items and comments behind what is held, or the first fault of a comment
abbrev pub rows_from : CodeReader → (ignore_unknown : Bool) → (file : ℕ) → Option Held → List Part → Outcome (List Row)
rows_from r ignore file h [] = let_go r ignore file h
rows_from r ignore file h (starts d k l key w ∷ ps) = and_rows (let_go r ignore file h) (behind (begins d k l key w ∷ []) (rows_from r ignore file None ps))
rows_from r ignore file h (comment o c ∷ ps) =
    if goes_on r file h o c then rows_from r ignore file (grown h (code_in c.text) c.line) ps else and_rows (let_go r ignore file h) (rows_from r ignore file (Some (held_from o c)) ps)
