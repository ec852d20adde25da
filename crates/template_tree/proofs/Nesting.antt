-- What parts of a collection become, one after another.
use Rattle.std.proofs.Common.{◌≡◌, ℕ, Bool, true, false, List, [], ◌∷◌, ◌++◌, reverse, map as each, Option, Some, None, Result, Ok, Err, OnOk, Vec, Global, refl, ap, sym, ◌∙◌, append_assoc, rules}
use Rattle.std.specs.Prelude.{◌↔◌, IsTrue, is_some, not, option_map}
use Rattle.std.proofs.lemmas.List.{map-append, reverse-append, reverse-reverse}
use Rattle.ytt_base.specs.declared.fault.Place.{Place}
use Rattle.ytt_base.specs.Outcomes.{place_at}
use Rattle.code_spec.specs.Code.{Expr, Name, Parameters}
use Rattle.code_spec.specs.CodeReading.{for_header, def_header}
use Rattle.code_spec.specs.CodeReading as plain_header
use Rattle.code_spec.specs.Program.{ItemKind, Instruction, part, statement, begin_if, begin_elif, begin_else, begin_for, begin_def, close}
use Rattle.star_tree.specs.declared.code.Expr as held_expr
use Rattle.star_tree.specs.declared.code.Header.{Header}
use Rattle.star_tree.specs.declared.code.Header.TheVariants as header
use Rattle.star_tree.specs.declared.code.Param.{Param}
use Rattle.star_tree.specs.declared.code.Stmt.{Stmt}
use Rattle.star_tree.specs.declared.program.ItemKind as held_kind
use Rattle.star_tree.specs.View.{item_kind_of}
use Rattle.star_tree.specs.Whole.{expr_of, header_of, instruction_of, instructions_of, parameters_of}
use Rattle.notes_read.specs.declared.comment.Comment.{Comment}
use Rattle.notes_read.specs.View.{said_of}
use Rattle.template_spec.specs.Nesting as nesting
use Rattle.template_spec.specs.Nesting.{broken, at_top, inside, a_node, a_mark, nest, put, put_statements}
use Rattle.template_spec.specs.Template.{Item, Items, Branches, code, no_items, no_branch, else_branch, elif_branch}
use Rattle.template_tree.specs.declared.nest.Nested as held
use Rattle.template_tree.specs.declared.nest.Nested.{Nested, the_lemmas}
use Rattle.template_tree.specs.declared.nest.Part.{Part}
use Rattle.template_tree.specs.declared.tree.TElif.{TElif}
use Rattle.template_tree.specs.declared.tree.TElse.{TElse}
use Rattle.ytt_base.specs.declared.text.Memory.{Memory}
use Rattle.template_tree.specs.declared.tree.TItem.{TItem}
use Rattle.template_tree.specs.declared.tree.TItem as item
use Rattle.template_tree.specs.Nests.{is_no_branch, is_statement, nest_step, nested_of, part_of, parts_of}
use Rattle.template_tree.specs.View.{Onward, branches_of, code_of, elif_of, else_of, in_turn, item_of, items_of, or_nothing}
use Rattle.template_tree.proofs.Views.{item_of-Node, item_of-Code, item_of-If, item_of-For, item_of-Def, branches_of-last, elif_of-elif, else_of-else}

pub nested_of-Broken : (file : ℕ) → nested_of file held.Broken ≡ broken
nested_of-Broken file = search (rules, the_lemmas)

pub nested_of-AtTop : (file : ℕ) (is : Vec TItem Global) → nested_of file (held.AtTop is) ≡ at_top (items_of file is.items)
nested_of-AtTop file is = search (rules, the_lemmas)

pub nested_of-Inside : (file : ℕ) (is : Vec TItem Global) (elifs : List TElif) (last : Option TElse) (outer : Nested) → nested_of file (held.Inside is elifs last outer) ≡ inside (items_of file is.items) (branches_of file elifs last) (nested_of file outer)
nested_of-Inside file is elifs last outer = search (rules, the_lemmas)

pub ruleset nests = (nested_of-Broken, nested_of-AtTop, nested_of-Inside, item_of-Code, item_of-If, item_of-For, item_of-Def)

-- ---- statements

pub statements_behind : (is : List Instruction) (i : Instruction) (n : nesting.Nested) → put_statements (is ++ i ∷ []) n ≡ put_statements is (put_statements (i ∷ []) n)
statements_behind [] i n = refl
statements_behind (part o ∷ is) i n = statements_behind is i n
statements_behind (statement s ∷ is) i n = ap (put (code s)) (statements_behind is i n)
statements_behind (begin_if p e ∷ is) i n = statements_behind is i n
statements_behind (begin_elif p e ∷ is) i n = statements_behind is i n
statements_behind (begin_else p ∷ is) i n = statements_behind is i n
statements_behind (begin_for p x e ∷ is) i n = statements_behind is i n
statements_behind (begin_def p k f x ps ∷ is) i n = statements_behind is i n
statements_behind (close p ∷ is) i n = statements_behind is i n

pub one_statement : (file : ℕ) (i : Instruction) (n : nesting.Nested) → is_statement i ≡ true → put_statements (i ∷ []) n ≡ put (code_of file i) n
one_statement file (statement s) n e = refl
one_statement file (part o) n e = cc
one_statement file (begin_if p x) n e = cc
one_statement file (begin_elif p x) n e = cc
one_statement file (begin_else p) n e = cc
one_statement file (begin_for p x y) n e = cc
one_statement file (begin_def p k f x ps) n e = cc
one_statement file (close p) n e = cc

pub no_statement : (i : Instruction) (n : nesting.Nested) → is_statement i ≡ false → put_statements (i ∷ []) n ≡ n
no_statement (statement s) n e = cc
no_statement (part o) n e = refl
no_statement (begin_if p x) n e = refl
no_statement (begin_elif p x) n e = refl
no_statement (begin_else p) n e = refl
no_statement (begin_for p x y) n e = refl
no_statement (begin_def p k f x ps) n e = refl
no_statement (close p) n e = refl

-- ---- parts

pub nest_more : (file : ℕ) (kind : ItemKind) (p : nesting.Part) (ps : List nesting.Part) → nest file kind (p ∷ ps) ≡ nest_step file kind p (nest file kind ps)
nest_more file kind (a_node i) ps = refl
nest_more file kind (a_mark l s) ps = refl

pub parts_behind : (file : ℕ) (ps : List Part) (p : Part) → parts_of file (ps ++ p ∷ []) ≡ part_of file p ∷ parts_of file ps
parts_behind file ps p = ap (each (part_of file)) (reverse-append ps (p ∷ []))

-- what these parts, the first one last, are before those that are left, the last one last
pub record IsNesting (file : ℕ) (kind : ItemKind) (all left : List Part) (nested : Nested) : Type 0 where
  pub done : List Part
  pub whole : all ≡ done ++ reverse left
  pub is_nested : nested_of file nested ≡ nest file kind (parts_of file done)

pub nesting_starts : (file : ℕ) (kind : ItemKind) (all left : List Part) (none : Vec TItem Global) → left ≡ reverse all → none.items ≡ [] → IsNesting file kind all left (held.AtTop none)
nesting_starts file kind all left none e f = record {
  done = [];
  whole = sym (reverse-reverse all) ∙ ap reverse (sym e);
  is_nested = nested_of-AtTop file none ∙ ap (λ (is : List TItem). at_top (items_of file is)) f;
}

pub nesting_goes_on : (file : ℕ) (kind : ItemKind) (all left left2 : List Part) (p : Part) (nested nested2 : Nested) → IsNesting file kind all left nested → left ≡ left2 ++ p ∷ []
    → nested_of file nested2 ≡ nest_step file kind (part_of file p) (nested_of file nested) → IsNesting file kind all left2 nested2
nesting_goes_on file kind all left left2 p nested nested2 w e h = record {
  done = w.done ++ p ∷ [];
  whole = w.whole ∙ ap (λ (ps : List Part). w.done ++ ps) (ap reverse e ∙ reverse-append left2 (p ∷ [])) ∙ sym (append_assoc w.done (p ∷ []) (reverse left2));
  is_nested = h ∙ ap (nest_step file kind (part_of file p)) w.is_nested ∙ sym (nest_more file kind (part_of file p) (parts_of file w.done)) ∙ ap (nest file kind) (sym (parts_behind file w.done p));
}

append_nil : (ps : List Part) → ps ++ [] ≡ ps
append_nil [] = refl
append_nil (p ∷ ps) = ap (λ qs. p ∷ qs) (append_nil ps)

pub nesting_ends : (file : ℕ) (kind : ItemKind) (all left : List Part) (nested : Nested) → IsNesting file kind all left nested → left ≡ [] → nested_of file nested ≡ nest file kind (parts_of file all)
nesting_ends file kind all left nested w e =
    w.is_nested ∙ ap (λ (ps : List Part). nest file kind (parts_of file ps)) (sym (append_nil w.done) ∙ ap (λ (ps : List Part). w.done ++ reverse ps) (sym e) ∙ sym w.whole)

-- ---- what each call gives

pub done_same : (r : Result (Unit {0}) Memory) (new a b : nesting.Nested) → OnOk r (new ≡ a) → a ≡ b → OnOk r (new ≡ b)
done_same (Ok u) new a b h e = h ∙ e
done_same (Err m) new a b h e = tt

pub statement_same : (file : ℕ) (s : Stmt) (n : nesting.Nested) → true ≡ is_statement (instruction_of file s) → put (item_of file (item.Code s)) n ≡ put_statements (instruction_of file s ∷ []) n
statement_same file s n e = ap (λ i. put i n) (item_of-Code file s) ∙ sym (one_statement file (instruction_of file s) n (sym e))

-- where something follows, whatever branches stand before it
still_some : (file : ℕ) (bs : List TElif) (more : Branches) → is_no_branch more ≡ false → is_no_branch (in_turn (each (elif_of file) bs) more) ≡ false
still_some file [] more e = e
still_some file (b ∷ bs) more e = still_some file bs (elif_of file b more) (ap (λ (f : Onward). is_no_branch (f more)) (elif_of-elif file b))

never : (b : Bool) (bs : List TElif) → true ≡ b → b ≡ false → bs ≡ []
never true bs e h = cc
never false bs e h = cc

some_elif : (file : ℕ) (bs : List TElif) (more : Branches) → true ≡ is_no_branch (in_turn (each (elif_of file) bs) more) → bs ≡ []
some_elif file [] more e = refl
some_elif file (b ∷ bs) more e = never _ (b ∷ bs) e (still_some file bs (elif_of file b more) (ap (λ (f : Onward). is_no_branch (f more)) (elif_of-elif file b)))

clash : (r b : Bool) → r ≡ true → r ≡ false → b ≡ false
clash true b h e = cc
clash false b h e = cc

-- where some branch has a test
pub elif_is : (file : ℕ) (bs : List TElif) (last : Option TElse) (r : Bool) → (IsTrue r ↔ (bs ≡ [])) → r ≡ false → false ≡ is_no_branch (branches_of file bs last)
elif_is file [] last r h e = sym (clash r _ (h.1 refl) e)
elif_is file (b ∷ bs) last r h e = sym (still_some file bs (elif_of file b (or_nothing (option_map (else_of file) last))) (ap (λ (f : Onward). is_no_branch (f (or_nothing (option_map (else_of file) last)))) (elif_of-elif file b)))

else_is : (file : ℕ) (o : Option TElse) (b : Bool) → is_some o ≡ not b → b ≡ is_no_branch (or_nothing (option_map (else_of file) o))
else_is file None true e = refl
else_is file None false e = cc
else_is file (Some x) true e = cc
else_is file (Some x) false e = sym (ap is_no_branch (else_of-else file x))

-- where no branch has a test
pub last_is : (file : ℕ) (bs : List TElif) (last : Option TElse) (r b : Bool) → (IsTrue r ↔ (bs ≡ [])) → r ≡ true → is_some last ≡ not b → b ≡ is_no_branch (branches_of file bs last)
last_is file bs last r b h t e = else_is file last b e ∙ ap (λ (cs : List TElif). is_no_branch (branches_of file cs last)) (sym (h.0 t))

branch_is : (m : Branches) → true ≡ is_no_branch m → m ≡ no_branch
branch_is no_branch e = refl
branch_is (else_branch p is) e = cc
branch_is (elif_branch p x is m) e = cc

for_none : (kind : ItemKind) (p : Place) (x y : Expr) (is : Items) (m : Branches) → false ≡ is_no_branch m → None ≡ nesting.block_of kind p (for_header x y) is m
for_none kind p x y is no_branch e = cc
for_none kind p x y is (else_branch q js) e = refl
for_none kind p x y is (elif_branch q z js m) e = refl

def_none : (kind : ItemKind) (p : Place) (x : Name) (ps : Parameters) (is : Items) (m : Branches) → false ≡ is_no_branch m → None ≡ nesting.block_of kind p (def_header x ps) is m
def_none kind p x ps is no_branch e = cc
def_none kind p x ps is (else_branch q js) e = refl
def_none kind p x ps is (elif_branch q z js m) e = refl

pub for_given : (file : ℕ) (kind : ItemKind) (p : Place) (h : Header) (x y : held_expr.Expr) (is : List TItem) (elifs : List TElif) (last : Option TElse) → h ≡ header.For x y → true ≡ is_no_branch (branches_of file elifs last)
    → Some (item_of file (item.For p x y is)) ≡ nesting.block_of kind (place_at file p.line) (header_of file h) (items_of file is) (branches_of file elifs last)
for_given file kind p h x y is elifs last e b =
    ap (λ i. Some i) (item_of-For file p x y is) ∙ ap (λ (m : Branches). nesting.block_of kind (place_at file p.line) (header_of file (header.For x y)) (items_of file is) m) (sym (branch_is (branches_of file elifs last) b))
    ∙ ap (λ (g : Header). nesting.block_of kind (place_at file p.line) (header_of file g) (items_of file is) (branches_of file elifs last)) (sym e)

pub for_not_given : (file : ℕ) (kind : ItemKind) (p : Place) (h : Header) (x y : held_expr.Expr) (is : List TItem) (elifs : List TElif) (last : Option TElse) → h ≡ header.For x y → false ≡ is_no_branch (branches_of file elifs last)
    → None ≡ nesting.block_of kind (place_at file p.line) (header_of file h) (items_of file is) (branches_of file elifs last)
for_not_given file kind p h x y is elifs last e b =
    for_none kind (place_at file p.line) (expr_of file x) (expr_of file y) (items_of file is) (branches_of file elifs last) b
    ∙ ap (λ (g : Header). nesting.block_of kind (place_at file p.line) (header_of file g) (items_of file is) (branches_of file elifs last)) (sym e)

pub def_given : (file : ℕ) (kind : held_kind.ItemKind) (p : Place) (h : Header) (x : Name) (ps : List Param) (is : List TItem) (elifs : List TElif) (last : Option TElse) → h ≡ header.Def x ps → true ≡ is_no_branch (branches_of file elifs last)
    → Some (item_of file (item.Def p x ps kind is)) ≡ nesting.block_of (item_kind_of kind) (place_at file p.line) (header_of file h) (items_of file is) (branches_of file elifs last)
def_given file kind p h x ps is elifs last e b =
    ap (λ i. Some i) (item_of-Def file p x ps kind is) ∙ ap (λ (m : Branches). nesting.block_of (item_kind_of kind) (place_at file p.line) (header_of file (header.Def x ps)) (items_of file is) m) (sym (branch_is (branches_of file elifs last) b))
    ∙ ap (λ (g : Header). nesting.block_of (item_kind_of kind) (place_at file p.line) (header_of file g) (items_of file is) (branches_of file elifs last)) (sym e)

pub def_not_given : (file : ℕ) (kind : ItemKind) (p : Place) (h : Header) (x : Name) (ps : List Param) (is : List TItem) (elifs : List TElif) (last : Option TElse) → h ≡ header.Def x ps → false ≡ is_no_branch (branches_of file elifs last)
    → None ≡ nesting.block_of kind (place_at file p.line) (header_of file h) (items_of file is) (branches_of file elifs last)
def_not_given file kind p h x ps is elifs last e b =
    def_none kind (place_at file p.line) x (parameters_of file ps) (items_of file is) (branches_of file elifs last) b
    ∙ ap (λ (g : Header). nesting.block_of kind (place_at file p.line) (header_of file g) (items_of file is) (branches_of file elifs last)) (sym e)

no_else : (p : Place) (is : Items) (m : Branches) (o : nesting.Nested) → false ≡ is_no_branch m → broken ≡ nesting.last_branch p (inside is m o)
no_else p is no_branch o e = cc
no_else p is (else_branch q js) o e = refl
no_else p is (elif_branch q z js m) o e = refl

pub else_given : (file : ℕ) (n : Nested) (is new : Vec TItem Global) (elifs elifs2 : List TElif) (last last2 : Option TElse) (b : TElse) (outer outer2 : Nested) → n ≡ held.Inside is elifs last outer
    → elifs2 ≡ elifs → outer2 ≡ outer → true ≡ is_no_branch (branches_of file elifs last) → last2 ≡ Some b → b.body ≡ is.items → new.items ≡ []
    → nested_of file (held.Inside new elifs2 last2 outer2) ≡ nesting.last_branch (place_at file b.place.line) (nested_of file n)
else_given file n is new elifs elifs2 last last2 b outer outer2 e k o h l t f =
    (λ i. nested_of file (held.Inside new (k i) (l i) (o i)))
    ∙ nested_of-Inside file new elifs (Some b) outer
    ∙ ap (λ (js : List TItem). inside (items_of file js) (branches_of file elifs (Some b)) (nested_of file outer)) f
    ∙ ap (λ (bs : List TElif). inside no_items (branches_of file bs (Some b)) (nested_of file outer)) (some_elif file elifs _ h)
    ∙ ap (λ (m : Branches). inside no_items m (nested_of file outer)) (else_of-else file b ∙ ap (λ (js : List TItem). else_branch (place_at file b.place.line) (items_of file js)) t)
    ∙ ap (λ (m : Branches). nesting.last_branch (place_at file b.place.line) (inside (items_of file is.items) m (nested_of file outer))) (sym (branch_is (branches_of file elifs last) h))
    ∙ ap (nesting.last_branch (place_at file b.place.line)) (sym (nested_of-Inside file is elifs last outer) ∙ ap (nested_of file) (sym e))

pub elif_given : (file : ℕ) (n : Nested) (is new : Vec TItem Global) (elifs elifs2 : List TElif) (last last2 : Option TElse) (b : TElif) (outer outer2 : Nested) → n ≡ held.Inside is elifs last outer
    → elifs2 ≡ elifs ++ b ∷ [] → last2 ≡ last → outer2 ≡ outer → b.body ≡ is.items → new.items ≡ []
    → nested_of file (held.Inside new elifs2 last2 outer2) ≡ nesting.next_branch (place_at file b.place.line) (expr_of file b.test) (nested_of file n)
elif_given file n is new elifs elifs2 last last2 b outer outer2 e k l o t f =
    (λ i. nested_of file (held.Inside new (k i) (l i) (o i)))
    ∙ nested_of-Inside file new (elifs ++ b ∷ []) last outer
    ∙ ap (λ (js : List TItem). inside (items_of file js) (branches_of file (elifs ++ b ∷ []) last) (nested_of file outer)) f
    ∙ ap (λ (m : Branches). inside no_items m (nested_of file outer))
    (branches_of-last file elifs b last ∙ ap (λ (js : List TItem). elif_branch (place_at file b.place.line) (expr_of file b.test) (items_of file js) (branches_of file elifs last)) t)
    ∙ ap (nesting.next_branch (place_at file b.place.line) (expr_of file b.test)) (sym (nested_of-Inside file is elifs last outer) ∙ ap (nested_of file) (sym e))

pub else_not_given : (file : ℕ) (p : Place) (n : Nested) (is : Vec TItem Global) (elifs : List TElif) (last : Option TElse) (outer : Nested) → n ≡ held.Inside is elifs last outer → false ≡ is_no_branch (branches_of file elifs last)
    → nested_of file held.Broken ≡ nesting.last_branch (place_at file p.line) (nested_of file n)
else_not_given file p n is elifs last outer e b =
    nested_of-Broken file ∙ no_else (place_at file p.line) (items_of file is.items) (branches_of file elifs last) (nested_of file outer) b
    ∙ ap (nesting.last_branch (place_at file p.line)) (sym (nested_of-Inside file is elifs last outer) ∙ ap (nested_of file) (sym e))

pub block_opened : (file : ℕ) (kind : ItemKind) (p : Place) (h : plain_header.Header) (n : Nested) (items : Vec TItem Global) (body : List TItem) (elifs : List TElif) (last : Option TElse) (outer inner : Nested) (b : Option Item) (front : nesting.Nested) → n ≡ held.Inside items elifs last outer
    → body ≡ items.items → inner ≡ outer → b ≡ nesting.block_of kind p h (items_of file body) (branches_of file elifs last) → front ≡ nesting.put_block b (nested_of file inner) → front ≡ nesting.open_block kind p h (nested_of file n)
block_opened file kind p h n items body elifs last outer inner b front e t o k f =
    f ∙ (λ j. nesting.put_block (k j) (nested_of file (o j))) ∙ ap (λ (is : List TItem). nesting.put_block (nesting.block_of kind p h (items_of file is) (branches_of file elifs last)) (nested_of file outer)) t
    ∙ ap (nesting.open_block kind p h) (sym (nested_of-Inside file items elifs last outer) ∙ ap (nested_of file) (sym e))

pub statements_on : (file : ℕ) (left left2 : List Stmt) (s : Stmt) (front front2 b : nesting.Nested) → left ≡ left2 ++ s ∷ [] → front2 ≡ put_statements (instruction_of file s ∷ []) front
    → put_statements (instructions_of file left) front ≡ b → put_statements (instructions_of file left2) front2 ≡ b
statements_on file left left2 s front front2 b e h k =
    ap (put_statements (instructions_of file left2)) h ∙ sym (statements_behind (instructions_of file left2) (instruction_of file s) front)
    ∙ ap (λ (is : List Instruction). put_statements is front) (sym (map-append (instruction_of file) left2 (s ∷ [])) ∙ ap (instructions_of file) (sym e)) ∙ k

pub said_same : (file : ℕ) (kind : ItemKind) (p : Place) (n : nesting.Nested) (comment mark : Comment) → comment ≡ mark → nesting.nest_said kind p (said_of file mark) n ≡ nesting.nest_said kind p (said_of file comment) n
said_same file kind p n comment mark e = ap (λ (c : Comment). nesting.nest_said kind p (said_of file c) n) (sym e)
