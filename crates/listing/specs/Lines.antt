-- The line of an instruction in parts: its word, and what stands behind it.
use Rattle.std.specs.Prelude.{ℕ, List, [], ◌∷◌, ◌++◌, Option, Some, None, codes}
use Rattle.yaml_spec.specs.Bytes.{space}
use Rattle.code_spec.specs.Code.{Name, Parameters, Statement, evaluate, assign, augment, load, return, break, continue, pass}
use Rattle.code_spec.specs.Program.{ItemKind, NodePart, node_start, node_note, node_key, node_key_from, node_value, node_value_from, node_end, Instruction, part, statement, begin_if, begin_elif, begin_else, begin_for, begin_def, close}
use Rattle.listing_spec.specs.Listing.{binary_word, exprs_phrases, holds_word, kind_word, loaded_phrases, parameters_phrases, scalar_phrase}
use Rattle.listing_spec.specs.Phrases.{quoted, bracketed, spaced_text}
use Rattle.listing.specs.Forms.{spaced, spaced_expr}

-- ---- the word, behind a space

abbrev pub node_word : NodePart → List ℕ
node_word (node_start p k h) = codes " start"
node_word (node_note p x es) = codes " note"
node_word (node_key p x) = codes " key"
node_word (node_key_from p e) = codes " key-from"
node_word (node_value p x) = codes " value"
node_word (node_value_from p e) = codes " value-from"
node_word (node_end p) = codes " end"

abbrev pub statement_word : Statement → List ℕ
statement_word (evaluate p e) = codes " expr"
statement_word (assign p x e) = codes " assign"
statement_word (augment p o q x e) = codes " augment"
statement_word (load p path xs) = codes " load"
statement_word (return p e) = codes " return"
statement_word (break p) = codes " break"
statement_word (continue p) = codes " continue"
statement_word (pass p) = codes " pass"

abbrev pub function_word : Option ItemKind → List ℕ
function_word None = codes " def"
function_word (Some k) = codes " fragment"

abbrev pub first_word : Instruction → List ℕ
first_word (part o) = node_word o
first_word (statement s) = statement_word s
first_word (begin_if p e) = codes " if"
first_word (begin_elif p e) = codes " elif"
first_word (begin_else p) = codes " else"
first_word (begin_for p x e) = codes " for"
first_word (begin_def p n fragment x ps) = function_word fragment
first_word (close p) = codes " close"

-- ---- what stands behind it

abbrev pub node_rest : NodePart → List ℕ
node_rest (node_start p k h) = (space ∷ kind_word k) ++ (space ∷ holds_word h)
node_rest (node_note p x es) = (space ∷ x) ++ spaced_text (exprs_phrases es)
node_rest (node_key p x) = spaced (scalar_phrase x)
node_rest (node_key_from p e) = spaced_expr e
node_rest (node_value p x) = spaced (scalar_phrase x)
node_rest (node_value_from p e) = spaced_expr e
node_rest (node_end p) = []

abbrev pub statement_rest : Statement → List ℕ
statement_rest (evaluate p e) = spaced_expr e
statement_rest (assign p x e) = spaced_expr x ++ spaced_expr e
statement_rest (augment p o q x e) = (space ∷ (binary_word o ++ codes "=")) ++ (spaced_expr x ++ spaced_expr e)
statement_rest (load p path xs) = spaced (quoted path) ++ spaced_text (loaded_phrases xs)
statement_rest (return p e) = spaced_expr e
statement_rest (break p) = []
statement_rest (continue p) = []
statement_rest (pass p) = []

-- the kind of a fragment's items
abbrev pub fragment_rest : Option ItemKind → List ℕ
fragment_rest None = []
fragment_rest (Some k) = space ∷ kind_word k

abbrev pub function_rest : Option ItemKind → Name → Parameters → List ℕ
function_rest fragment x ps = fragment_rest fragment ++ ((space ∷ x) ++ spaced (bracketed (parameters_phrases ps)))

abbrev pub rest : Instruction → List ℕ
rest (part o) = node_rest o
rest (statement s) = statement_rest s
rest (begin_if p e) = spaced_expr e
rest (begin_elif p e) = spaced_expr e
rest (begin_else p) = []
rest (begin_for p x e) = spaced_expr x ++ spaced_expr e
rest (begin_def p n fragment x ps) = function_rest fragment x ps
rest (close p) = []
