-- What the definitions give for some templates, by computing: first as they are built, and then as their programs run.
use Rattle.std.proofs.Common.{◌≡◌, ℕ, ◌-◌, ◌^◌, ℤ, pos, negsuc, List, [], Some, refl, codes}
use Rattle.ytt_base.specs.declared.fault.Fault.{Fault}
use Rattle.ytt_base.specs.declared.fault.FaultKind.TheVariants as kind
use Rattle.ytt_base.specs.Outcomes.{place_at, fault_at}
use Rattle.ytt_base.specs.Trees.{Scalar, null, integer, string, scalar, list, map, Trees, no_trees, tree, no_pairs, pair}
use Rattle.std.specs.Str.{chars}
use Rattle.yaml_spec.specs.Scalars.{form}
use Rattle.yaml_spec.specs.Text.{fits_plain}
use Rattle.code_spec.specs.Code.{Expr, int, text, name, tuple, unary, binary, negation, addition, multiplication, floor_division, equal, no_exprs, an_expr, assign}
use Rattle.code_spec.specs.Program.{document_item, pair_item, element_item}
use Rattle.value_spec.specs.Outcomes.{State, Ending, done, asks, bad}
use Rattle.star_spec.specs.Calls.{no_natives}
use Rattle.star_spec.specs.Eval.{starlark}
use Rattle.template_spec.specs.Template.{Item, Items, no_items, an_item, node, code, if_block, for_block, no_notes, no_key, written_key, else_branch, elif_branch, Content, written_value, value_from, pairs, elements}
use Rattle.template_spec.specs.Compiled.{compiled}
use Rattle.template_meaning.specs.Files.{FileResult, nothing_to_load}
use Rattle.template_meaning.specs.Meaning.{BuildFile, RunFile, documents}

-- what is left to see of an ending: documents with the steps that are left, or a fault
pub data Seen : Type 0 where
  gives : Trees → (steps : ℕ) → Seen
  faults : Fault → Seen
  asked : Seen

abbrev seen : Ending (Unit {0}) FileResult → Seen
seen (done r s) = gives (documents r.documents) s.steps
seen (bad f s) = faults f
seen (asks q s k) = asked

abbrev at_start : ℕ → State (Unit {0})
at_start steps = record { store = []; steps = steps; host = tt }

-- a template alone in file 1, with so many steps
abbrev built_with : ℕ → Items → Seen
built_with steps t = seen (BuildFile starlark no_natives nothing_to_load (λ f. t) 10 t (at_start steps))

abbrev run_with : ℕ → Items → Seen
run_with steps t = seen (RunFile starlark no_natives nothing_to_load (λ f. compiled t) 10 (compiled t) (at_start steps))

abbrev document : Content → Items → Items
document c more = an_item (node (place_at 1 1) document_item no_notes no_key c) more

abbrev pair_at : ℕ → List ℕ → Content → Items → Items
pair_at line key c more = an_item (node (place_at 1 line) pair_item no_notes (written_key (string key)) c) more

-- `a: ` and an expression, on the second line
abbrev one_pair : Expr → Items
one_pair e = document (pairs (pair_at 2 (codes "a") (value_from e) no_items)) no_items

abbrev number : ℤ → Expr
number z = int (place_at 1 2) z

abbrev words : List ℕ → Expr
words t = text (place_at 1 2) t

abbrev a_is : Scalar → Trees
a_is x = tree (map (pair (string (codes "a")) (scalar x) no_pairs)) no_trees

-- an operation on two operands
abbrev sum : Expr → Expr → Expr
sum a b = binary (place_at 1 2) addition a b

abbrev product : Expr → Expr → Expr
product a b = binary (place_at 1 2) multiplication a b

abbrev quotient : Expr → Expr → Expr
quotient a b = binary (place_at 1 2) floor_division a b

abbrev minus : Expr → Expr
minus a = unary (place_at 1 2) negation a

abbrev two_plus_three_times_four : Items
two_plus_three_times_four = one_pair (sum (number (pos 2)) (product (number (pos 3)) (number (pos 4))))

-- the document, the pair, and five nodes take a step each
sum_and_product : built_with 100 two_plus_three_times_four ≡ gives (a_is (integer (pos 14))) 93
sum_and_product = refl

sum_and_product_run : run_with 100 two_plus_three_times_four ≡ gives (a_is (integer (pos 14))) 93
sum_and_product_run = refl

refuses_zero_divisor : built_with 100 (one_pair (quotient (number (pos 1)) (number (pos 0)))) ≡ faults (fault_at kind.DivideZero (place_at 1 2))
refuses_zero_divisor = refl

refuses_unlike_kinds : built_with 100 (one_pair (sum (number (pos 1)) (words (codes "x")))) ≡ faults (fault_at kind.ValueKind (place_at 1 2))
refuses_unlike_kinds = refl

greatest : built_with 100 (one_pair (number (pos (2 ^ 127 - 1)))) ≡ gives (a_is (integer (pos (2 ^ 127 - 1)))) 97
greatest = refl

refuses_one_more : built_with 100 (one_pair (sum (number (pos (2 ^ 127 - 1))) (number (pos 1)))) ≡ faults (fault_at kind.IntOverflow (place_at 1 2))
refuses_one_more = refl

refuses_quotient_of_least : built_with 100 (one_pair (quotient (number (negsuc (2 ^ 127 - 1))) (minus (number (pos 1))))) ≡ faults (fault_at kind.IntOverflow (place_at 1 2))
refuses_quotient_of_least = refl

refuses_negated_least : built_with 100 (one_pair (minus (number (negsuc (2 ^ 127 - 1))))) ≡ faults (fault_at kind.IntOverflow (place_at 1 2))
refuses_negated_least = refl

rounds_down : built_with 100 (one_pair (quotient (minus (number (pos 7))) (number (pos 2)))) ≡ gives (a_is (integer (negsuc 3))) 94
rounds_down = refl

rounds_down_at_negative : built_with 100 (one_pair (quotient (number (pos 7)) (number (negsuc 1)))) ≡ gives (a_is (integer (negsuc 3))) 95
rounds_down_at_negative = refl

-- the document, the pair and the literal take all three steps
three_steps : built_with 3 (one_pair (number (pos 1))) ≡ gives (a_is (integer (pos 1))) 0
three_steps = refl

two_steps : built_with 2 (one_pair (number (pos 1))) ≡ faults (fault_at kind.Steps (place_at 1 2))
two_steps = refl

two_steps_run : run_with 2 (one_pair (number (pos 1))) ≡ faults (fault_at kind.Steps (place_at 1 2))
two_steps_run = refl

joins : built_with 100 (one_pair (sum (words (codes "ab")) (words (codes "c")))) ≡ gives (a_is (string (codes "abc"))) 95
joins = refl

repeats : built_with 100 (one_pair (product (words (codes "x")) (number (pos 3)))) ≡ gives (a_is (string (codes "xxx"))) 95
repeats = refl

repeats_from_the_left : built_with 100 (one_pair (product (number (pos 3)) (words (codes "x")))) ≡ gives (a_is (string (codes "xxx"))) 95
repeats_from_the_left = refl

empty_below_one : built_with 100 (one_pair (product (words (codes "x")) (minus (number (pos 1))))) ≡ gives (a_is (string [])) 94
empty_below_one = refl

-- the operands have 1 byte and the result 100,000,000: their sixteenth is past the budget
refuses_large_product : built_with 1000000 (one_pair (product (words (codes "x")) (number (pos 100000000)))) ≡ faults (fault_at kind.Steps (place_at 1 2))
refuses_large_product = refl

-- 16 bytes repeated once are 32 bytes of operand and result: two steps; and one for the text that is taken over
text_steps : built_with 100 (one_pair (product (words (codes "0123456789abcdef")) (number (pos 1)))) ≡ gives (a_is (string (codes "0123456789abcdef"))) 92
text_steps = refl

refuses_second_key : built_with 100 (document (pairs (pair_at 2 (codes "a") (written_value null) (pair_at 3 (codes "a") (written_value null) no_items))) no_items) ≡ faults (record { kind = kind.KeyTwice; place = Some (place_at 1 3); detail = codes "a" })
unfolding form fits_plain chars
refuses_second_key = refl

-- a null document is dropped; an empty map stays one
drops_null : built_with 100 (document (written_value null) (document (pairs no_items) no_items)) ≡ gives (tree (map no_pairs) no_trees) 98
drops_null = refl

-- ---- statements and blocks

-- a row of two, on a line
abbrev row_of : ℕ → Expr → Expr → Expr
row_of line a b = tuple (place_at 1 line) (an_expr a (an_expr b no_exprs))

abbrev one_item : Item → Items
one_item i = an_item i no_items

-- a list's elements from a loop:
--   list:
--   #@ for n in ("a", "b"):
--   - #@ n
--   #@ end
abbrev each_name : Items
each_name = document (pairs (pair_at 1 (codes "list") (elements (one_item (for_block (place_at 1 2) (name (place_at 1 2) (codes "n")) (row_of 2 (words (codes "a")) (words (codes "b"))) (one_item (node (place_at 1 3) element_item no_notes no_key (value_from (name (place_at 1 3) (codes "n")))))))) no_items)) no_items

abbrev names_listed : Trees
names_listed = tree (map (pair (string (codes "list")) (list (tree (scalar (string (codes "a"))) (tree (scalar (string (codes "b"))) no_trees))) no_pairs)) no_trees

-- the document, the pair, the loop, its row and two members; each turn, its element and the name take a step each
loop_gives_elements : built_with 100 each_name ≡ gives names_listed 88
loop_gives_elements = refl

loop_gives_elements_run : run_with 100 each_name ≡ gives names_listed 88
loop_gives_elements_run = refl

-- the pair of a loop's second turn has the first one's key:
--   #@ for i in (0, 1):
--   k: #@ i
--   #@ end
abbrev same_key_each_turn : Items
same_key_each_turn = document (pairs (one_item (for_block (place_at 1 1) (name (place_at 1 1) (codes "i")) (row_of 1 (number (pos 0)) (number (pos 1))) (pair_at 2 (codes "k") (value_from (name (place_at 1 2) (codes "i"))) no_items)))) no_items

loop_refuses_second_key : built_with 100 same_key_each_turn ≡ faults (record { kind = kind.KeyTwice; place = Some (place_at 1 2); detail = codes "k" })
unfolding form fits_plain chars
loop_refuses_second_key = refl

loop_refuses_second_key_run : run_with 100 same_key_each_turn ≡ faults (record { kind = kind.KeyTwice; place = Some (place_at 1 2); detail = codes "k" })
unfolding form fits_plain chars
loop_refuses_second_key_run = refl

abbrev x_is : (line : ℕ) → ℤ → Expr
x_is line z = binary (place_at 1 line) equal (name (place_at 1 line) (codes "x")) (int (place_at 1 line) z)

abbrev a_holds : (line : ℕ) → ℤ → Items
a_holds line z = pair_at line (codes "a") (written_value (integer z)) no_items

-- the branch whose test holds:
--   #@ x = 2
--   #@ if x == 1:
--   a: 1
--   #@ elif x == 2:
--   a: 2
--   #@ else:
--   a: 3
--   #@ end
abbrev chosen_by : ℤ → Items
chosen_by z = document (pairs (an_item (code (assign (place_at 1 1) (name (place_at 1 1) (codes "x")) (int (place_at 1 1) z))) (one_item (if_block (place_at 1 2) (x_is 2 (pos 1)) (a_holds 3 (pos 1)) (elif_branch (place_at 1 4) (x_is 4 (pos 2)) (a_holds 5 (pos 2)) (else_branch (place_at 1 6) (a_holds 7 (pos 3)))))))) no_items

-- the document, the statement and its literal, the block, two tests of three nodes each, and the pair take a step each
second_branch : built_with 100 (chosen_by (pos 2)) ≡ gives (a_is (integer (pos 2))) 89
second_branch = refl

second_branch_run : run_with 100 (chosen_by (pos 2)) ≡ gives (a_is (integer (pos 2))) 89
second_branch_run = refl

first_branch : built_with 100 (chosen_by (pos 1)) ≡ gives (a_is (integer (pos 1))) 92
first_branch = refl

last_branch : built_with 100 (chosen_by (pos 0)) ≡ gives (a_is (integer (pos 3))) 89
last_branch = refl
