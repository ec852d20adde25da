-- What the definitions give for some command lines, by computing.
use Rattle.std.proofs.Common.{◌≡◌, ℕ, true, false, List, [], ◌∷◌, Ok, refl, bytes_eq, codes, pos, if◌then◌else◌}
use Rattle.std.specs.Fmt.{digits}
use Rattle.std.specs.Str.{chars, is_utf8}
use lib.Utf8.{encode}
use Rattle.yaml_spec.specs.Lines.{cut, lines_of, checked, Lines}
use Rattle.yaml_spec.specs.Scalars.{form, plain}
use Rattle.yaml_spec.specs.Folding.{fold_parts}
use Rattle.yaml_spec.specs.Quotes.{single, double, parts, Quote}
use Rattle.yaml_spec.specs.Blocks.{header, body, block_text, Block}
use Rattle.yaml_spec.specs.Plain.{start_fault, span, further, plain_lines}
use Rattle.yaml_spec.specs.Flow.{gap, flow_key, elements, pair_value, pairs, flow_scalar, flow}
use Rattle.yaml_spec.specs.Values.{noted, ended, value}
use Rattle.yaml_spec.specs.Rows.{key_at, heads_of, row_at, taken, rows}
use Rattle.yaml_spec.specs.Entries.{cut_after, content_of, entry_content, entry, entry_at, entries, Doc}
use Rattle.yaml_spec.specs.Read.{segments, explicit, ended as read_ended, documents, implicit, Read, distinct}
use Rattle.yaml_spec.specs.Text.{fits_plain, fits_literal}
use Rattle.code_spec.specs.Code.{Expr, assign, binary, equal, floor_division, int, name, no_exprs, an_expr, text as written_text, tuple}
use Rattle.code_spec.specs.CodeReading.{CodeReader, Header, if_header, elif_header, else_header, for_header, end_header}
use Rattle.code_spec.specs.Program.{statement}
use Rattle.template_spec.specs.Comments.{comment_said}
use Rattle.template_spec.specs.Events.{events}
use Rattle.template_spec.specs.Misplaced.{placing_fault}
use Rattle.template_spec.specs.Nesting.{placed_whole}
use Rattle.text_template_spec.specs.TextTemplates.{with_texts}
use Rattle.ytt_base.specs.declared.fault.Place.{Place}
use Rattle.ytt_base.specs.Outcomes.{place_at}
use Rattle.ytt_outside.specs.Standing.{Standing, nothing, file, folder}
use Rattle.ytt_spec.specs.Due.{Due, done, fault, usage, due}
use Rattle.world_spec.specs.Parts.{units_meaning}
use Rattle.ytt_spec.specs.Words.{asked, asked_for, render}

-- one thing stands at every path
abbrev due_over : CodeReader → Standing → List (List ℕ) → Due
due_over r standing words = due r words (λ path. standing)

abbrev due_of : CodeReader → List ℕ → Due
due_of r text = due_over r (file text) (codes "render" ∷ codes "-f" ∷ codes "a.yml" ∷ [])

prints_itself : (r : CodeReader) → due_of r (codes "name: web\nport: 80\n") ≡ done (codes "name: web\nport: 80\n")
unfolding units_meaning digits chars encode is_utf8 cut lines_of checked Lines form plain fold_parts single double parts Quote header body block_text Block start_fault span further plain_lines gap flow_key elements pair_value pairs flow_scalar flow noted ended value key_at heads_of row_at taken rows cut_after content_of entry_content entry entry_at entries Doc segments explicit read_ended documents implicit Read distinct fits_plain fits_literal
prints_itself r = refl

reads_quoted : (r : CodeReader) → due_of r (codes "a: \"1\"\nb: \"yes\"\nc: \"\"\n") ≡ done (codes "a: \"1\"\nb: \"yes\"\nc: \"\"\n")
unfolding units_meaning digits chars encode is_utf8 cut lines_of checked Lines form plain fold_parts single double parts Quote header body block_text Block start_fault span further plain_lines gap flow_key elements pair_value pairs flow_scalar flow noted ended value key_at heads_of row_at taken rows cut_after content_of entry_content entry entry_at entries Doc segments explicit read_ended documents implicit Read distinct fits_plain fits_literal
reads_quoted r = refl

refuses_float : (r : CodeReader) → due_of r (codes "v: 1.5\n") ≡ fault (codes "error: FloatScalar at a.yml:1\n")
unfolding units_meaning digits chars encode is_utf8 cut lines_of checked Lines form plain fold_parts single double parts Quote header body block_text Block start_fault span further plain_lines gap flow_key elements pair_value pairs flow_scalar flow noted ended value key_at heads_of row_at taken rows cut_after content_of entry_content entry entry_at entries Doc segments explicit read_ended documents implicit Read distinct fits_plain fits_literal
refuses_float r = refl

empty_file : (r : CodeReader) → due_of r [] ≡ done []
unfolding units_meaning digits chars encode is_utf8 cut lines_of checked Lines form plain fold_parts single double parts Quote header body block_text Block start_fault span further plain_lines gap flow_key elements pair_value pairs flow_scalar flow noted ended value key_at heads_of row_at taken rows cut_after content_of entry_content entry entry_at entries Doc segments explicit read_ended documents implicit Read distinct fits_plain fits_literal
empty_file r = refl

missing_file : (r : CodeReader) → due_over r nothing (codes "render" ∷ codes "-f" ∷ codes "lib/a.yml" ∷ []) ≡ fault (codes "error: FileMissing: lib/a.yml\n")
missing_file r = refl

missing_comes_first : (r : CodeReader) → due_over r nothing (codes "render" ∷ codes "-f" ∷ codes "a.txt" ∷ []) ≡ fault (codes "error: FileMissing: a.txt\n")
missing_comes_first r = refl

-- only what stands at the path that is asked for is read
other_path : (r : CodeReader) → due r (codes "-f" ∷ codes "b.yml" ∷ []) (λ path. if bytes_eq path (codes "a.yml") then file [] else nothing) ≡ fault (codes "error: FileMissing: b.yml\n")
other_path r = refl

-- files that are only loaded, others, and empty folders give nothing
library_file : (r : CodeReader) → due_over r (file (codes "a: 1\n")) (codes "render" ∷ codes "-f" ∷ codes "a.lib.yml" ∷ []) ≡ done []
unfolding units_meaning digits chars encode is_utf8 cut lines_of checked Lines form plain fold_parts single double parts Quote header body block_text Block start_fault span further plain_lines gap flow_key elements pair_value pairs flow_scalar flow noted ended value key_at heads_of row_at taken rows cut_after content_of entry_content entry entry_at entries Doc segments explicit read_ended documents implicit Read distinct fits_plain fits_literal
library_file r = refl

other_file : (r : CodeReader) → due_over r (file (codes "{")) (codes "render" ∷ codes "-f" ∷ codes "a.txt" ∷ []) ≡ done []
unfolding units_meaning
other_file r = refl

a_folder : (r : CodeReader) → due_over r (folder []) (codes "render" ∷ codes "-f" ∷ codes "a.yml" ∷ []) ≡ done []
unfolding units_meaning
a_folder r = refl

-- the documents of files come one after another
two_files : (r : CodeReader) → due_over r (file (codes "a: 1\n")) (codes "-f" ∷ codes "a.yml" ∷ codes "--file=b.yml" ∷ []) ≡ done (codes "a: 1\n---\na: 1\n")
unfolding units_meaning digits chars encode is_utf8 cut lines_of checked Lines form plain fold_parts single double parts Quote header body block_text Block start_fault span further plain_lines gap flow_key elements pair_value pairs flow_scalar flow noted ended value key_at heads_of row_at taken rows cut_after content_of entry_content entry entry_at entries Doc segments explicit read_ended documents implicit Read distinct fits_plain fits_literal
two_files r = refl

shown_by_last_part : (r : CodeReader) → due_over r (file (codes "{")) (codes "render" ∷ codes "-f" ∷ codes "x/y/a.yaml" ∷ []) ≡ fault (codes "error: YamlForm at a.yaml:1\n")
unfolding units_meaning digits chars encode is_utf8 cut lines_of checked Lines form plain fold_parts single double parts Quote header body block_text Block start_fault span further plain_lines gap flow_key elements pair_value pairs flow_scalar flow noted ended value key_at heads_of row_at taken rows cut_after content_of entry_content entry entry_at entries Doc segments explicit read_ended documents implicit Read distinct fits_plain fits_literal
shown_by_last_part r = refl

no_word : (r : CodeReader) → due_over r nothing [] ≡ usage (codes "error: usage at word 1\n")
unfolding digits
no_word r = refl

no_option : (r : CodeReader) → due_over r nothing (codes "render" ∷ []) ≡ usage (codes "error: usage at word 2\n")
unfolding digits
no_option r = refl

empty_path : (r : CodeReader) → due_over r nothing (codes "render" ∷ codes "-f" ∷ [] ∷ codes "more" ∷ []) ≡ usage (codes "error: usage at word 3\n")
unfolding digits
empty_path r = refl

path_before_command : (r : CodeReader) → due_over r nothing (codes "-f" ∷ codes "a" ∷ codes "render" ∷ []) ≡ usage (codes "error: usage at word 3\n")
unfolding digits
path_before_command r = refl

no_steps : (r : CodeReader) → due_over r nothing (codes "-f" ∷ codes "a.yml" ∷ codes "--steps" ∷ codes "0" ∷ []) ≡ usage (codes "error: usage at word 4\n")
unfolding digits
no_steps r = refl

steps_twice : (r : CodeReader) → due_over r nothing (codes "--steps" ∷ codes "7" ∷ codes "-f" ∷ codes "a" ∷ codes "--steps" ∷ []) ≡ usage (codes "error: usage at word 5\n")
unfolding digits
steps_twice r = refl

only_steps : (r : CodeReader) → due_over r nothing (codes "--steps" ∷ codes "20000000" ∷ []) ≡ usage (codes "error: usage at word 3\n")
unfolding digits
only_steps r = refl

too_many_steps : (r : CodeReader) → due_over r nothing (codes "--steps" ∷ codes "20000001" ∷ []) ≡ usage (codes "error: usage at word 2\n")
unfolding digits
too_many_steps r = refl

no_depth : (r : CodeReader) → due_over r nothing (codes "-f" ∷ codes "a.yml" ∷ codes "--depth" ∷ codes "0" ∷ []) ≡ usage (codes "error: usage at word 4\n")
unfolding digits
no_depth r = refl

too_deep : (r : CodeReader) → due_over r nothing (codes "--depth" ∷ codes "101" ∷ []) ≡ usage (codes "error: usage at word 2\n")
unfolding digits
too_deep r = refl

depth_twice : (r : CodeReader) → due_over r nothing (codes "--depth" ∷ codes "100" ∷ codes "--steps" ∷ codes "7" ∷ codes "--depth=1" ∷ []) ≡ usage (codes "error: usage at word 5\n")
unfolding digits
depth_twice r = refl

depth_asks : asked (codes "--depth=7" ∷ codes "-f" ∷ codes "a.yml" ∷ codes "--steps" ∷ codes "2" ∷ []) ≡ asked_for (render (record { paths = codes "a.yml" ∷ []; budget = record { steps = 2; depth = 7 }; ignore_unknown = false }))
depth_asks = refl

one_word_more : (r : CodeReader) → due_over r nothing (codes "render" ∷ codes "-f" ∷ codes "a.yml" ∷ codes "b" ∷ []) ≡ usage (codes "error: usage at word 4\n")
unfolding digits
one_word_more r = refl

-- ---- a value in the word of its option

joined_steps : (r : CodeReader) → due_over r nothing (codes "--steps=7" ∷ codes "-f" ∷ codes "a.yml" ∷ []) ≡ fault (codes "error: FileMissing: a.yml\n")
joined_steps r = refl

no_joined_value : (r : CodeReader) → due_over r nothing (codes "-f" ∷ codes "a.yml" ∷ codes "--steps=" ∷ codes "7" ∷ []) ≡ usage (codes "error: usage at word 3\n")
unfolding digits
no_joined_value r = refl

no_joined_steps : (r : CodeReader) → due_over r nothing (codes "--steps=0" ∷ codes "-f" ∷ codes "a.yml" ∷ []) ≡ usage (codes "error: usage at word 1\n")
unfolding digits
no_joined_steps r = refl

short_option_joined : (r : CodeReader) → due_over r nothing (codes "render" ∷ codes "-f=a.yml" ∷ []) ≡ usage (codes "error: usage at word 2\n")
unfolding digits
short_option_joined r = refl

joined_steps_twice : (r : CodeReader) → due_over r nothing (codes "--steps" ∷ codes "7" ∷ codes "--steps=7" ∷ []) ≡ usage (codes "error: usage at word 3\n")
unfolding digits
joined_steps_twice r = refl

-- ---- a flag, which takes no value

flag_before : (r : CodeReader) → due_over r nothing (codes "--ignore-unknown-comments" ∷ codes "-f" ∷ codes "a.yml" ∷ []) ≡ fault (codes "error: FileMissing: a.yml\n")
flag_before r = refl

flag_behind : (r : CodeReader) → due_over r nothing (codes "render" ∷ codes "-f" ∷ codes "a.yml" ∷ codes "--ignore-unknown-comments" ∷ []) ≡ fault (codes "error: FileMissing: a.yml\n")
flag_behind r = refl

flag_asks : asked (codes "-f" ∷ codes "a.yml" ∷ codes "--ignore-unknown-comments" ∷ []) ≡ asked_for (render (record { paths = codes "a.yml" ∷ []; budget = record { steps = 5000000; depth = 100 }; ignore_unknown = true }))
flag_asks = refl

no_flag_asks : asked (codes "-f" ∷ codes "a.yml" ∷ []) ≡ asked_for (render (record { paths = codes "a.yml" ∷ []; budget = record { steps = 5000000; depth = 100 }; ignore_unknown = false }))
no_flag_asks = refl

-- the value of another option may be a flag's name
flag_as_path : (r : CodeReader) → due_over r nothing (codes "-f" ∷ codes "--ignore-unknown-comments" ∷ []) ≡ fault (codes "error: FileMissing: --ignore-unknown-comments\n")
flag_as_path r = refl

flag_twice : (r : CodeReader) → due_over r nothing (codes "--ignore-unknown-comments" ∷ codes "-f" ∷ codes "a.yml" ∷ codes "--ignore-unknown-comments" ∷ []) ≡ usage (codes "error: usage at word 4\n")
unfolding digits
flag_twice r = refl

flag_with_value : (r : CodeReader) → due_over r nothing (codes "-f" ∷ codes "a.yml" ∷ codes "--ignore-unknown-comments=x" ∷ []) ≡ usage (codes "error: usage at word 3\n")
unfolding digits
flag_with_value r = refl

flag_with_empty_value : (r : CodeReader) → due_over r nothing (codes "--ignore-unknown-comments=" ∷ codes "-f" ∷ codes "a.yml" ∷ []) ≡ usage (codes "error: usage at word 1\n")
unfolding digits
flag_with_empty_value r = refl

-- the word behind a flag is no value of it
flag_and_word : (r : CodeReader) → due_over r nothing (codes "--ignore-unknown-comments" ∷ codes "true" ∷ codes "-f" ∷ codes "a.yml" ∷ []) ≡ usage (codes "error: usage at word 2\n")
unfolding digits
flag_and_word r = refl

only_flag : (r : CodeReader) → due_over r nothing (codes "render" ∷ codes "--ignore-unknown-comments" ∷ []) ≡ usage (codes "error: usage at word 3\n")
unfolding digits
only_flag r = refl

-- ---- templates, whose code is read as its expression

abbrev steps_over : CodeReader → List ℕ → (steps : List ℕ) → Due
steps_over r text steps = due_over r (file text) (codes "--steps" ∷ steps ∷ codes "-f" ∷ codes "a.yml" ∷ [])

abbrev one : Expr
one = int (place_at 1 1) (pos 1)

three_steps : (r : CodeReader) → r.expr (place_at 1 1) (codes "1") ≡ Ok one → steps_over r (codes "a: #@ 1\n") (codes "3") ≡ done (codes "a: 1\n")
unfolding units_meaning digits chars encode is_utf8 cut lines_of checked Lines form plain fold_parts single double parts Quote header body block_text Block start_fault span further plain_lines gap flow_key elements pair_value pairs flow_scalar flow noted ended value key_at heads_of row_at taken rows cut_after content_of entry_content entry entry_at entries Doc segments explicit read_ended documents implicit Read distinct fits_plain fits_literal comment_said events placing_fault placed_whole with_texts
three_steps r read = rw read refl

two_steps : (r : CodeReader) → r.expr (place_at 1 1) (codes "1") ≡ Ok one → steps_over r (codes "a: #@ 1\n") (codes "2") ≡ fault (codes "error: Steps at a.yml:1\n")
unfolding units_meaning digits chars encode is_utf8 cut lines_of checked Lines form plain fold_parts single double parts Quote header body block_text Block start_fault span further plain_lines gap flow_key elements pair_value pairs flow_scalar flow noted ended value key_at heads_of row_at taken rows cut_after content_of entry_content entry entry_at entries Doc segments explicit read_ended documents implicit Read distinct fits_plain fits_literal comment_said events placing_fault placed_whole with_texts
two_steps r read = rw read refl

no_divisor : (r : CodeReader) → r.expr (place_at 1 1) (codes "1 // 0") ≡ Ok (binary (place_at 1 1) floor_division one (int (place_at 1 1) (pos 0)))
    → due_of r (codes "a: #@ 1 // 0\n") ≡ fault (codes "error: DivideZero at a.yml:1\n")
unfolding units_meaning digits chars encode is_utf8 cut lines_of checked Lines form plain fold_parts single double parts Quote header body block_text Block start_fault span further plain_lines gap flow_key elements pair_value pairs flow_scalar flow noted ended value key_at heads_of row_at taken rows cut_after content_of entry_content entry entry_at entries Doc segments explicit read_ended documents implicit Read distinct fits_plain fits_literal comment_said events placing_fault placed_whole with_texts
no_divisor r read = rw read refl

-- a toy reader, which takes each code as a 1
abbrev ones : CodeReader
ones = record { expr = λ p t. Ok (int p (pos 1)); args = λ p t. Ok no_exprs; simple = λ p t. Ok []; header = λ p t. Ok end_header; is_open = λ p t. false; file = λ n t. Ok [] }

-- lists are built, with what stands in them
builds_list : due_of ones (codes "a:\n- #@ 1\n- [2]\n") ≡ done (codes "a:\n- 1\n- - 2\n")
unfolding units_meaning digits chars encode is_utf8 cut lines_of checked Lines form plain fold_parts single double parts Quote header body block_text Block start_fault span further plain_lines gap flow_key elements pair_value pairs flow_scalar flow noted ended value key_at heads_of row_at taken rows cut_after content_of entry_content entry entry_at entries Doc segments explicit read_ended documents implicit Read distinct fits_plain fits_literal comment_said events placing_fault placed_whole with_texts
builds_list = refl

unknown_note : (r : CodeReader) → due_of r (codes "a: 1 #@x\n") ≡ fault (codes "error: NoteUnknown at a.yml:1: x\n")
unfolding units_meaning digits chars encode is_utf8 cut lines_of checked Lines form plain fold_parts single double parts Quote header body block_text Block start_fault span further plain_lines gap flow_key elements pair_value pairs flow_scalar flow noted ended value key_at heads_of row_at taken rows cut_after content_of entry_content entry entry_at entries Doc segments explicit read_ended documents implicit Read distinct fits_plain fits_literal comment_said events placing_fault placed_whole with_texts
unknown_note r = refl

unknown_name : (r : CodeReader) → r.expr (place_at 1 1) (codes "x") ≡ Ok (name (place_at 1 1) (codes "x")) → due_of r (codes "a: #@ x\n") ≡ fault (codes "error: NameUnknown at a.yml:1: x\n")
unfolding units_meaning digits chars encode is_utf8 cut lines_of checked Lines form plain fold_parts single double parts Quote header body block_text Block start_fault span further plain_lines gap flow_key elements pair_value pairs flow_scalar flow noted ended value key_at heads_of row_at taken rows cut_after content_of entry_content entry entry_at entries Doc segments explicit read_ended documents implicit Read distinct fits_plain fits_literal comment_said events placing_fault placed_whole with_texts
unknown_name r read = rw read refl

-- a function of the language is a value, which isn't YAML
known_name : (r : CodeReader) → r.expr (place_at 1 1) (codes "len") ≡ Ok (name (place_at 1 1) (codes "len")) → due_of r (codes "a: #@ len\n") ≡ fault (codes "error: NotYaml at a.yml:1\n")
unfolding units_meaning digits chars encode is_utf8 cut lines_of checked Lines form plain fold_parts single double parts Quote header body block_text Block start_fault span further plain_lines gap flow_key elements pair_value pairs flow_scalar flow noted ended value key_at heads_of row_at taken rows cut_after content_of entry_content entry entry_at entries Doc segments explicit read_ended documents implicit Read distinct fits_plain fits_literal comment_said events placing_fault placed_whole with_texts
known_name r read = rw read refl

-- a comment that says nothing known is refused in a template, unless it is asked to be ignored
plain_comment : (r : CodeReader) → due_of r (codes "a: 1 # x\nb: 2 #@ 1\n") ≡ fault (codes "error: PlainComment at a.yml:1\n")
unfolding units_meaning digits chars encode is_utf8 cut lines_of checked Lines form plain fold_parts single double parts Quote header body block_text Block start_fault span further plain_lines gap flow_key elements pair_value pairs flow_scalar flow noted ended value key_at heads_of row_at taken rows cut_after content_of entry_content entry entry_at entries Doc segments explicit read_ended documents implicit Read distinct fits_plain fits_literal comment_said events placing_fault placed_whole with_texts
plain_comment r = refl

ignored_comment : due_over ones (file (codes "a: 1 # x\nb: #@ 1\n")) (codes "-f" ∷ codes "a.yml" ∷ codes "--ignore-unknown-comments" ∷ []) ≡ done (codes "a: 1\nb: 1\n")
unfolding units_meaning digits chars encode is_utf8 cut lines_of checked Lines form plain fold_parts single double parts Quote header body block_text Block start_fault span further plain_lines gap flow_key elements pair_value pairs flow_scalar flow noted ended value key_at heads_of row_at taken rows cut_after content_of entry_content entry entry_at entries Doc segments explicit read_ended documents implicit Read distinct fits_plain fits_literal comment_said events placing_fault placed_whole with_texts
ignored_comment = refl

-- a file without code takes no steps
plain_file : (r : CodeReader) → steps_over r (codes "a: 1\n") (codes "1") ≡ done (codes "a: 1\n")
unfolding units_meaning digits chars encode is_utf8 cut lines_of checked Lines form plain fold_parts single double parts Quote header body block_text Block start_fault span further plain_lines gap flow_key elements pair_value pairs flow_scalar flow noted ended value key_at heads_of row_at taken rows cut_after content_of entry_content entry entry_at entries Doc segments explicit read_ended documents implicit Read distinct fits_plain fits_literal
plain_file r = refl

-- ---- statements and blocks: texts with a toy reader, which knows their code by heart, and takes any expression as a name

abbrev row_of : Place → Expr → Expr → Expr
row_of p a b = tuple p (an_expr a (an_expr b no_exprs))

abbrev x_is : Place → ℕ → Expr
x_is p n = binary p equal (name p (codes "x")) (int p (pos n))

abbrev toy_header : Place → List ℕ → Header
toy_header p t =
    if bytes_eq t (codes "for n in (\"a\", \"b\"):") then for_header (name p (codes "n")) (row_of p (written_text p (codes "a")) (written_text p (codes "b")))
    else if bytes_eq t (codes "for i in (0, 1):") then for_header (name p (codes "i")) (row_of p (int p (pos 0)) (int p (pos 1)))
    else if bytes_eq t (codes "if x == 1:") then if_header (x_is p 1)
    else if bytes_eq t (codes "elif x == 2:") then elif_header (x_is p 2)
    else if bytes_eq t (codes "else:") then else_header
    else end_header

abbrev toy : CodeReader
toy = record {
  expr = λ p t. Ok (name p t);
  args = λ p t. Ok no_exprs;
  simple = λ p t. Ok (statement (assign p (name p (codes "x")) (int p (pos 2))) ∷ []);
  header = λ p t. Ok (toy_header p t);
  is_open = λ p t. false;
  file = λ n t. Ok [];
}

elements_from_loop : due_of toy (codes "list:\n#@ for n in (\"a\", \"b\"):\n- #@ n\n#@ end\n") ≡ done (codes "list:\n- a\n- b\n")
unfolding units_meaning digits chars encode is_utf8 cut lines_of checked Lines form plain fold_parts single double parts Quote header body block_text Block start_fault span further plain_lines gap flow_key elements pair_value pairs flow_scalar flow noted ended value key_at heads_of row_at taken rows cut_after content_of entry_content entry entry_at entries Doc segments explicit read_ended documents implicit Read distinct fits_plain fits_literal comment_said events placing_fault placed_whole with_texts
elements_from_loop = refl

-- the second turn gives the first one's key
key_from_loop : due_of toy (codes "#@ for i in (0, 1):\nk: #@ i\n#@ end\n") ≡ fault (codes "error: KeyTwice at a.yml:2: k\n")
unfolding units_meaning digits chars encode is_utf8 cut lines_of checked Lines form plain fold_parts single double parts Quote header body block_text Block start_fault span further plain_lines gap flow_key elements pair_value pairs flow_scalar flow noted ended value key_at heads_of row_at taken rows cut_after content_of entry_content entry entry_at entries Doc segments explicit read_ended documents implicit Read distinct fits_plain fits_literal comment_said events placing_fault placed_whole with_texts
key_from_loop = refl

second_branch : due_of toy (codes "#@ x = 2\n#@ if x == 1:\na: 1\n#@ elif x == 2:\na: 2\n#@ else:\na: 3\n#@ end\n") ≡ done (codes "a: 2\n")
unfolding units_meaning digits chars encode is_utf8 cut lines_of checked Lines form plain fold_parts single double parts Quote header body block_text Block start_fault span further plain_lines gap flow_key elements pair_value pairs flow_scalar flow noted ended value key_at heads_of row_at taken rows cut_after content_of entry_content entry entry_at entries Doc segments explicit read_ended documents implicit Read distinct fits_plain fits_literal comment_said events placing_fault placed_whole with_texts
second_branch = refl
