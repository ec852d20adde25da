-- Where comments, statements, blocks, items and notes stand, by computing: texts with a toy reader, which takes any code as what its
-- first word says, refuses `bad`, and counts round brackets alone.
use Rattle.std.proofs.Common.{◌≡◌, ℕ, zero, suc, Bool, true, false, not, ◌&&◌, ◌==◌, if◌then◌else◌, List, [], ◌∷◌, ◌++◌, map, Some, None, Ok, Err, refl, codes, bytes_eq, pos}
use Rattle.std.specs.Fmt.{digits}
use Rattle.std.specs.List.{list_any}
use Rattle.std.specs.Str.{chars, is_utf8}
use lib.Utf8.{encode}
use Rattle.ytt_base.specs.declared.fault.Fault.{Fault}
use Rattle.ytt_base.specs.declared.fault.FaultKind.{FaultKind}
use Rattle.ytt_base.specs.declared.fault.FaultKind.TheVariants as kind
use Rattle.ytt_base.specs.declared.fault.Place.{Place}
use Rattle.ytt_base.specs.Outcomes.{Outcome, ◌>>=◌, place_at}
use Rattle.ytt_base.specs.Trees.{integer, string}
use Rattle.yaml_spec.specs.Refusals.{refused}
use Rattle.yaml_spec.specs.Lines.{cut, lines_of, checked, Lines}
use Rattle.yaml_spec.specs.Scalars.{form, plain}
use Rattle.yaml_spec.specs.Folding.{fold_parts}
use Rattle.yaml_spec.specs.Quotes.{single, double, parts as quote_parts, Quote}
use Rattle.yaml_spec.specs.Blocks.{header, body, block_text, Block}
use Rattle.yaml_spec.specs.Plain.{start_fault, span, further, plain_lines}
use Rattle.yaml_spec.specs.Flow.{gap, flow_key, elements as flow_elements, pair_value, pairs as flow_pairs, flow_scalar, flow}
use Rattle.yaml_spec.specs.Values.{noted as with_comment, ended, value}
use Rattle.yaml_spec.specs.Rows.{key_at, heads_of, row_at, taken, rows}
use Rattle.yaml_spec.specs.Entries.{cut_after, content_of, entry_content, entry, entry_at, entries, Doc}
use Rattle.yaml_spec.specs.Read.{segments, explicit, ended as read_ended, documents, implicit, Read}
use Rattle.code_spec.specs.Code.{Expr, Exprs, no_exprs, an_expr, name, no_parameters, no_loaded, Statement, load, return, break, continue, pass}
use Rattle.code_spec.specs.CodeReading.{CodeReader, Header, if_header, elif_header, else_header, for_header, def_header, end_header}
use Rattle.code_spec.specs.Program.{statement, document_item, pair_item, element_item}
use Rattle.template_spec.specs.Comments.{begins_with_word, comment_said}
use Rattle.template_spec.specs.Events.{events}
use Rattle.template_spec.specs.Misplaced.{placing_fault}
use Rattle.template_spec.specs.Nesting.{placed_whole}
use Rattle.template_spec.specs.Template.{Items, no_items, an_item, Item, node, code, if_block, for_block, else_branch, Notes, no_notes, note, no_key, written_key, Content, written_value, value_from, pairs, elements}

-- ---- a toy reader

abbrev unless_bad : {A : Type 0} → Place → List ℕ → A → Outcome A
unless_bad p t x = if bytes_eq t (codes "bad") then refused kind.CodeForm p else Ok x

abbrev code_at : Place → List ℕ → Expr
code_at p t = name p t

abbrev toy_args : Place → List ℕ → Exprs
toy_args p [] = no_exprs
toy_args p (b ∷ bs) = an_expr (code_at p (b ∷ bs)) no_exprs

abbrev toy_statement : Place → List ℕ → Statement
toy_statement p t =
    if bytes_eq t (codes "return") then return p (code_at p []) else if bytes_eq t (codes "break") then break p else if bytes_eq t (codes "continue") then continue p else if bytes_eq t (codes "load") then load p [] no_loaded else pass p

abbrev toy_header : Place → List ℕ → Header
toy_header p t =
    if begins_with_word t (codes "if") then if_header (code_at p t) else if begins_with_word t (codes "elif") then elif_header (code_at p t) else if begins_with_word t (codes "else") then else_header
    else if begins_with_word t (codes "for") then for_header (code_at p t) (code_at p t) else if begins_with_word t (codes "def") then def_header [] no_parameters else end_header

abbrev toy : CodeReader
toy = record {
  expr = λ p t. unless_bad p t (code_at p t);
  args = λ p t. unless_bad p t (toy_args p t);
  simple = λ p t. unless_bad p t (statement (toy_statement p t) ∷ []);
  header = λ p t. Ok (toy_header p t);
  is_open = λ p t. list_any (λ b. b == 40) t && not (list_any (λ b. b == 41) t);
  file = λ n t. Ok [];
}

-- ---- verdicts

abbrev template_of : (ignore_unknown : Bool) → List ℕ → Outcome Items
template_of ignore text = Read 1 text >>= placed_whole toy ignore 1

-- the template is placed, or a fault without a detail stands on this line
data Verdict : Type 0 where
  placed : Verdict
  fails : FaultKind → (line : ℕ) → Verdict
  other : Fault → Verdict

abbrev told : Fault → Verdict
told f = elim f.place [ None ↦ other f | Some p ↦ fails f.kind p.line ]

abbrev verdict_of : Outcome Items → Verdict
verdict_of (Ok t) = placed
verdict_of (Err f) = told f

abbrev verdict : List ℕ → Verdict
verdict text = verdict_of (template_of false text)

abbrev row : Type 0
row = List ℕ × Verdict

abbrev answers : List row → List Verdict
answers rs = map (λ r. verdict r.0) rs

abbrev due : List row → List Verdict
due rs = map (λ r. r.1) rs

-- ---- comment

abbrev comments_due : List row
comments_due =
    (codes "a: 1 # note\nb: #@ 2\n", fails kind.PlainComment 1)
    ∷ (codes "a: 1 #! note\nb: #@ 2\n", placed)
    ∷ (codes "#@\na: 1\n", fails kind.NoteForm 1)
    ∷ (codes "#@nothing/known\na: 1\n", fails kind.NoteUnknown 1)
    ∷ (codes "#@data/values x\n---\na: 1\n", fails kind.NoteForm 1)
    ∷ (codes "#@overlay/remove x\na: 1\n", placed)
    ∷ (codes "#@overlay/remove bad\na: 1\n", fails kind.CodeForm 1)
    ∷ (codes "a: 1 #@overlay/remove\n", placed)
    ∷ (codes "a: #@ bad\n", fails kind.CodeForm 1)
    ∷ (codes "a: [1, #@ x\n  2]\n", fails kind.YamlOut 1)
    ∷ (codes "#@ bad\na: [\n", fails kind.YamlForm 2)
    ∷ (codes "#@ end\n#@ bad\na: 1\n", fails kind.CodeForm 2)
    ∷ []

comments_stand : answers comments_due ≡ due comments_due
unfolding is_utf8 chars encode digits cut lines_of checked Lines form plain fold_parts single double quote_parts Quote header body block_text Block start_fault span further plain_lines gap flow_key flow_elements pair_value flow_pairs flow_scalar flow with_comment ended value key_at heads_of row_at taken rows cut_after content_of entry_content entry entry_at entries Doc segments explicit read_ended documents implicit Read comment_said events placing_fault placed_whole
comments_stand = refl

-- ---- code over several lines

abbrev lines_due : List row
lines_due =
    (codes "#@ x\n#@ bad\na: 1\n", fails kind.CodeForm 2)
    ∷ (codes "#@ (\n#@ bad\na: 1\n", placed)
    ∷ (codes "#@ (\n#@ (\n#@ bad\na: 1\n", placed)
    ∷ (codes "a: #@ (\n#@ bad\n", placed)
    ∷ (codes "#@ (\n\n#@ bad\na: 1\n", fails kind.CodeForm 3)
    ∷ (codes "#@ (\n#! c\n#@ bad\na: 1\n", fails kind.CodeForm 3)
    ∷ (codes "#@ (\na: #@ bad\n", fails kind.CodeForm 2)
    ∷ []

lines_stand : answers lines_due ≡ due lines_due
unfolding is_utf8 chars encode digits cut lines_of checked Lines form plain fold_parts single double quote_parts Quote header body block_text Block start_fault span further plain_lines gap flow_key flow_elements pair_value flow_pairs flow_scalar flow with_comment ended value key_at heads_of row_at taken rows cut_after content_of entry_content entry entry_at entries Doc segments explicit read_ended documents implicit Read comment_said events placing_fault placed_whole
lines_stand = refl

-- ---- blocks

abbrev blocks_due : List row
blocks_due =
    (codes "list:\n#@ for n in [1]:\n- #@ n\nother: 1\n#@ end\n", fails kind.BlockCrossed 4)
    ∷ (codes "#@ for n in [1]:\na: 1\n", fails kind.BlockOpen 1)
    ∷ (codes "a: 1\n#@ end\n", fails kind.BlockStray 2)
    ∷ (codes "#@ else:\na: 1\n", fails kind.BlockStray 1)
    ∷ (codes "#@ elif x:\na: 1\n", fails kind.BlockStray 1)
    ∷ (codes "list:\n#@ for n in x:\n- #@ n\n#@ end\nother: 1\n", placed)
    ∷ (codes "#@ for n in x:\nlist:\n- 1\n#@ end\n", placed)
    ∷ (codes "a:\n  #@ if x:\n  b: 1\n  #@ end\n  c: 1\n", placed)
    ∷ (codes "a:\n  b: 1\n  #@ if x:\nc: 1\n#@ end\n", placed)
    ∷ (codes "#@ if x:\na: 1\n#@ elif y:\nb: 2\n#@ else:\nc: 3\n#@ end\n", placed)
    ∷ (codes "#@ if x:\n#@ else:\n#@ elif y:\n#@ end\na: 1\n", fails kind.BlockStray 3)
    ∷ (codes "#@ if x:\n#@ else:\n#@ else:\n#@ end\na: 1\n", fails kind.BlockStray 3)
    ∷ (codes "#@ for n in x:\n#@ else:\n#@ end\na: 1\n", fails kind.BlockStray 2)
    ∷ (codes "#@ def f():\n#@ elif y:\n#@ end\na: 1\n", fails kind.BlockStray 2)
    ∷ (codes "#@ def f():\n#@ def g():\na: 1\n#@ end\n#@ end\nb: 1\n", placed)
    ∷ (codes "a: 1\n#@ if x:\n#@ end\n", placed)
    ∷ (codes "a: 1\n#@ if x:\n---\nb: 1\n#@ end\n", placed)
    ∷ (codes "#@ if x:\na: 1\n---\nb: 1\n#@ end\n", fails kind.BlockCrossed 3)
    ∷ (codes "a: 1\n#@ end\n#@ end\n", fails kind.BlockStray 2)
    ∷ (codes "#@ if x:\n#@ for n in y:\na: 1\n", fails kind.BlockOpen 2)
    ∷ (codes "#@ if x:\n#@ if y:\na: 1\n#@ end\n", fails kind.BlockOpen 1)
    ∷ (codes "a: 1\n#@ for n in x:\n#@overlay/remove\n", fails kind.NoteForm 3)
    ∷ []

blocks_stand : answers blocks_due ≡ due blocks_due
unfolding is_utf8 chars encode digits cut lines_of checked Lines form plain fold_parts single double quote_parts Quote header body block_text Block start_fault span further plain_lines gap flow_key flow_elements pair_value flow_pairs flow_scalar flow with_comment ended value key_at heads_of row_at taken rows cut_after content_of entry_content entry entry_at entries Doc segments explicit read_ended documents implicit Read comment_said events placing_fault placed_whole
blocks_stand = refl

-- ---- blocks for one item

abbrev one_item_due : List row
one_item_due =
    (codes "#@ for/end n in x:\na: 1\nb: 1\n", placed)
    ∷ (codes "#@ for/end n in x:\n#@overlay/remove\n#! c\n#@ if/end y:\na: 1\n", placed)
    ∷ (codes "#@ for/end n in x:\n#@ y\na: 1\n", fails kind.BlockOpen 1)
    ∷ (codes "#@ if/end x:\n#@ for/end n in y:\n#@ z\na: 1\n", fails kind.BlockOpen 2)
    ∷ (codes "#@ for/end n in x:\n#@ for n in y:\na: 1\n#@ end\n", fails kind.BlockOpen 1)
    ∷ (codes "#@ for/end n in x:\na:\n  b: 1\n  #@ if y:\n  c: 1\n  #@ end\nd: 1\n", placed)
    ∷ (codes "#@ for/end n in x:\na: 1\n#@ end\n", fails kind.BlockStray 3)
    ∷ (codes "#@ if x:\n#@ for/end n in y:\na: 1\n#@ end\nb: 1\n", placed)
    ∷ (codes "#@ for/end n in x:\na:\n  b: 1\n  #@ end\n  c: 1\n", fails kind.BlockStray 4)
    ∷ (codes "a: 1\n#@ for/end n in x:\n", fails kind.BlockOpen 2)
    ∷ (codes "a:\n  b: 1\n  #@ for/end n in x:\n  c: 1\nd: 1\n", placed)
    ∷ []

one_item_stand : answers one_item_due ≡ due one_item_due
unfolding is_utf8 chars encode digits cut lines_of checked Lines form plain fold_parts single double quote_parts Quote header body block_text Block start_fault span further plain_lines gap flow_key flow_elements pair_value flow_pairs flow_scalar flow with_comment ended value key_at heads_of row_at taken rows cut_after content_of entry_content entry entry_at entries Doc segments explicit read_ended documents implicit Read comment_said events placing_fault placed_whole
one_item_stand = refl

-- ---- statements

abbrev statements_due : List row
statements_due =
    (codes "#@ x\n---\na: 1\n", placed)
    ∷ (codes "a: 1\n#@ x\n", placed)
    ∷ (codes "#@ return\na: 1\n", fails kind.CodeForm 1)
    ∷ (codes "#@ def f():\n#@ return\n#@ end\na: 1\n", placed)
    ∷ (codes "#@ def f():\na: 1\n#@ return\n#@ end\n", fails kind.CodeForm 3)
    ∷ (codes "#@ def f():\n#@ return\na: 1\n#@ end\n", fails kind.CodeForm 2)
    ∷ (codes "#@ def f():\n#@ def g():\na: 1\n#@ end\n#@ return\n#@ end\nb: 1\n", placed)
    ∷ (codes "#@ def f():\n#@ if x:\na: 1\n#@ end\n#@ return\n#@ end\n", fails kind.CodeForm 5)
    ∷ (codes "#@ for n in x:\n#@ break\na: 1\n#@ end\n", placed)
    ∷ (codes "#@ for n in x:\na:\n  #@ break\n  b: 1\n#@ end\n", fails kind.CodeForm 3)
    ∷ (codes "#@ if x:\n#@ continue\na: 1\n#@ end\n", fails kind.CodeForm 2)
    ∷ (codes "#@ for n in x:\n#@ def f():\n#@ continue\n#@ end\na: 1\n#@ end\n", fails kind.CodeForm 3)
    ∷ (codes "#@ for n in x:\n#@ if y:\n#@ continue\n#@ end\na: 1\n#@ end\n", placed)
    ∷ (codes "#@ load\na: 1\n", placed)
    ∷ (codes "a:\n  #@ load\n  b: 1\n", placed)
    ∷ (codes "#@ if x:\n#@ load\n#@ end\na: 1\n", fails kind.CodeForm 2)
    ∷ []

statements_stand : answers statements_due ≡ due statements_due
unfolding is_utf8 chars encode digits cut lines_of checked Lines form plain fold_parts single double quote_parts Quote header body block_text Block start_fault span further plain_lines gap flow_key flow_elements pair_value flow_pairs flow_scalar flow with_comment ended value key_at heads_of row_at taken rows cut_after content_of entry_content entry entry_at entries Doc segments explicit read_ended documents implicit Read comment_said events placing_fault placed_whole
statements_stand = refl

-- ---- notes and value expressions

abbrev notes_due : List row
notes_due =
    (codes "a: 1\n#@overlay/remove\n", fails kind.NoteForm 2)
    ∷ (codes "#@ if x:\na: 1\n#@overlay/remove\n#@ end\nb: 1\n", fails kind.NoteForm 3)
    ∷ (codes "#@ if x:\na: 1\n#@overlay/remove\n#@ else:\nb: 1\n#@ end\n", fails kind.NoteForm 3)
    ∷ (codes "#@overlay/remove\n#@ if x:\na: 1\n#@ end\n", placed)
    ∷ (codes "#@data/values\n---\na: 1\n", placed)
    ∷ (codes "#@data/values\na: 1\n", fails kind.NoteForm 1)
    ∷ (codes "a: 1 #@data/values\n", fails kind.NoteForm 1)
    ∷ (codes "--- #@data/values\na: 1\n", placed)
    ∷ (codes "a:\n#@ if x:\n- 1\nb: 1 #@data/values\n#@ end\n", fails kind.BlockCrossed 4)
    ∷ (codes "a: 1 #@ x\n", placed)
    ∷ (codes "a: #@ x\n  b: 1\n", fails kind.CodeForm 1)
    ∷ (codes "a: #@ x\n- 1\n", fails kind.CodeForm 1)
    ∷ (codes "a: [1] #@ x\n", fails kind.CodeForm 1)
    ∷ (codes "--- #@ x\na: 1\n", fails kind.CodeForm 1)
    ∷ []

notes_stand : answers notes_due ≡ due notes_due
unfolding is_utf8 chars encode digits cut lines_of checked Lines form plain fold_parts single double quote_parts Quote header body block_text Block start_fault span further plain_lines gap flow_key flow_elements pair_value flow_pairs flow_scalar flow with_comment ended value key_at heads_of row_at taken rows cut_after content_of entry_content entry entry_at entries Doc segments explicit read_ended documents implicit Read comment_said events placing_fault placed_whole
notes_stand = refl

-- ---- many blocks

abbrev times : ℕ → List ℕ → (rest : List ℕ) → List ℕ
times zero t rest = rest
times (suc n) t rest = t ++ times n t rest

-- so many blocks around one item
abbrev nested : ℕ → List ℕ
nested n = times n (codes "#@ if x:\n") (codes "a: 1\n" ++ times n (codes "#@ end\n") [])

fifty_stand : verdict (nested 50) ≡ placed
unfolding is_utf8 chars encode digits cut lines_of checked Lines form plain fold_parts single double quote_parts Quote header body block_text Block start_fault span further plain_lines gap flow_key flow_elements pair_value flow_pairs flow_scalar flow with_comment ended value key_at heads_of row_at taken rows cut_after content_of entry_content entry entry_at entries Doc segments explicit read_ended documents implicit Read comment_said events placing_fault placed_whole
fifty_stand = refl

one_more_is_refused : verdict (nested 51) ≡ fails kind.TooDeep 51
unfolding is_utf8 chars encode digits cut lines_of checked Lines form plain fold_parts single double quote_parts Quote header body block_text Block start_fault span further plain_lines gap flow_key flow_elements pair_value flow_pairs flow_scalar flow with_comment ended value key_at heads_of row_at taken rows cut_after content_of entry_content entry entry_at entries Doc segments explicit read_ended documents implicit Read comment_said events placing_fault placed_whole
one_more_is_refused = refl

-- ---- templates

abbrev at : ℕ → Place
at line = place_at 1 line

abbrev pair_on : (line : ℕ) → List ℕ → Content → Item
pair_on line key content = node (at line) pair_item no_notes (written_key (string key)) content

abbrev element_on : (line : ℕ) → Notes → Content → Item
element_on line notes content = node (at line) element_item notes no_key content

abbrev number : ℕ → Content
number n = written_value (integer (pos n))

abbrev document_on : (line : ℕ) → Items → Items
document_on line is = an_item (node (at line) document_item no_notes no_key (pairs is)) no_items

unknown_comments_are_ignored : template_of true (codes "a: 1 # note\nb: #@ 2\n") ≡ Ok (document_on 1 (an_item (pair_on 1 (codes "a") (number 1)) (an_item (pair_on 2 (codes "b") (value_from (code_at (at 2) (codes "2")))) no_items)))
unfolding is_utf8 chars encode digits cut lines_of checked Lines form plain fold_parts single double quote_parts Quote header body block_text Block start_fault span further plain_lines gap flow_key flow_elements pair_value flow_pairs flow_scalar flow with_comment ended value key_at heads_of row_at taken rows cut_after content_of entry_content entry entry_at entries Doc segments explicit read_ended documents implicit Read comment_said events placing_fault placed_whole
unknown_comments_are_ignored = refl

branches_nest :
    template_of false (codes "#@ if x:\na: 1\n#@ else:\n#@ y\nb: #@ z\n#@ end\n")
    ≡ Ok (document_on 2 (an_item (if_block (at 1) (code_at (at 1) (codes "if x:")) (an_item (pair_on 2 (codes "a") (number 1)) no_items) (else_branch (at 3) (an_item (code (pass (at 4))) (an_item (pair_on 5 (codes "b") (value_from (code_at (at 5) (codes "z")))) no_items)))) no_items))
unfolding is_utf8 chars encode digits cut lines_of checked Lines form plain fold_parts single double quote_parts Quote header body block_text Block start_fault span further plain_lines gap flow_key flow_elements pair_value flow_pairs flow_scalar flow with_comment ended value key_at heads_of row_at taken rows cut_after content_of entry_content entry entry_at entries Doc segments explicit read_ended documents implicit Read comment_said events placing_fault placed_whole
branches_nest = refl

abbrev loop_on : (line : ℕ) → Items → Item
loop_on line is = for_block (at line) (code_at (at line) (codes "for n in x:")) (code_at (at line) (codes "for n in x:")) is

-- a block for one item is around that item and its notes, and a statement before an item of an outer collection belongs there
one_item_is_nested :
    template_of false (codes "a:\n#@ for/end n in x:\n#@overlay/remove\n- 1\n- 2\n#@ s\nb: 3\n")
    ≡ Ok (document_on 1 (an_item (pair_on 1 (codes "a") (elements (an_item (loop_on 2 (an_item (element_on 4 (note (at 3) (codes "overlay/remove") no_exprs no_notes) (number 1)) no_items)) (an_item (element_on 5 no_notes (number 2)) no_items)))) (an_item (code (pass (at 6))) (an_item (pair_on 7 (codes "b") (number 3)) no_items))))
unfolding is_utf8 chars encode digits cut lines_of checked Lines form plain fold_parts single double quote_parts Quote header body block_text Block start_fault span further plain_lines gap flow_key flow_elements pair_value flow_pairs flow_scalar flow with_comment ended value key_at heads_of row_at taken rows cut_after content_of entry_content entry entry_at entries Doc segments explicit read_ended documents implicit Read comment_said events placing_fault placed_whole
one_item_is_nested = refl

-- in an open block it belongs to the block's collection
statement_stays_in_block :
    template_of false (codes "a:\n#@ for n in x:\n- 1\n#@ s\n#@ end\nb: 3\n")
    ≡ Ok (document_on 1 (an_item (pair_on 1 (codes "a") (elements (an_item (loop_on 2 (an_item (element_on 3 no_notes (number 1)) (an_item (code (pass (at 4))) no_items))) no_items))) (an_item (pair_on 6 (codes "b") (number 3)) no_items)))
unfolding is_utf8 chars encode digits cut lines_of checked Lines form plain fold_parts single double quote_parts Quote header body block_text Block start_fault span further plain_lines gap flow_key flow_elements pair_value flow_pairs flow_scalar flow with_comment ended value key_at heads_of row_at taken rows cut_after content_of entry_content entry entry_at entries Doc segments explicit read_ended documents implicit Read comment_said events placing_fault placed_whole
statement_stays_in_block = refl
