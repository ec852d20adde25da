-- The items, as plain data, that a template stands for.
use Rattle.std.specs.Prelude.{ℕ, List, [], ◌∷◌, map as each, reverse, Option, Some, None, option_map}
use Rattle.ytt_base.specs.declared.tree.Key.{Key}
use Rattle.ytt_base.specs.Outcomes.{place_at}
use Rattle.ytt_base.specs.View.{key_of}
use Rattle.code_spec.specs.Code.{pass}
use Rattle.code_spec.specs.Program.{Instruction, statement}
use Rattle.star_tree.specs.declared.code.Expr.{Expr}
use Rattle.star_tree.specs.View.{item_kind_of}
use Rattle.star_tree.specs.Whole.{expr_of, exprs_of, instruction_of, parameters_of}
use Rattle.template_spec.specs.Template as plain
use Rattle.template_spec.specs.Template.{Branches, Content, Item, Notes, no_notes, note, no_key, written_key, node, code, if_block, for_block, def_block, Items, no_items, an_item, no_branch, else_branch, elif_branch, written_value, value_from, pairs, elements}
use Rattle.template_tree.specs.declared.tree.TNote.{TNote}
use Rattle.template_tree.specs.declared.tree.TElif.{TElif, fold-TElif}
use Rattle.template_tree.specs.declared.tree.TElse.{TElse, fold-TElse}
use Rattle.template_tree.specs.declared.tree.TItem.{TItem, fold-TItem}
use Rattle.template_tree.specs.declared.tree.TNode.{TNode, fold-TNode}
use Rattle.template_tree.specs.declared.tree.TContent.{TContent, fold-TContent}
use Rattle.template_tree.specs.declared.tree.Template.{Template}
use Rattle.template_tree.specs.declared.tree.TContent.TheOpen.{TContent-F, TItem-F, TElif-F, TElse-F, TNode-F}

abbrev pub notes_of : (file : ℕ) → List TNote → Notes
notes_of file [] = no_notes
notes_of file (n ∷ ns) = note (place_at file n.line) n.name (exprs_of file n.args) (notes_of file ns)

abbrev pub in_key : Option Key → plain.Key
in_key None = no_key
in_key (Some k) = written_key (key_of k)

abbrev pub in_order : List Item → Items
in_order [] = no_items
in_order (i ∷ is) = an_item i (in_order is)

-- the first one stands last
abbrev pub in_items : List Item → Items
in_items is = in_order (reverse is)

-- the value expression stands for what is written
abbrev pub in_content : (file : ℕ) → Option Expr → Content → Content
in_content file None written = written
in_content file (Some e) written = value_from (expr_of file e)

-- a statement; the head or the end of a block is none, and does nothing
abbrev pub code_of : (file : ℕ) → Instruction → Item
code_of file (statement s) = code s
code_of file i = code (pass (place_at file 0))

-- what a branch with a test makes of those behind it
abbrev pub Onward : Type 0
Onward = Branches → Branches

-- the branches with a test in front of what follows them, where the first one stands last
abbrev pub in_turn : List Onward → Branches → Branches
in_turn [] more = more
in_turn (b ∷ bs) more = in_turn bs (b more)

abbrev pub or_nothing : Option Branches → Branches
or_nothing None = no_branch
or_nothing (Some b) = b

-- ---- one level, where each item, each content and what follows a branch is seen already; items and blocks stand in the file of their code

abbrev pub content_step : TContent-F Content Item Onward Branches Item → Content
content_step (TContent-F.Scalar k) = written_value (key_of k)
content_step (TContent-F.Map is) = pairs (in_items is)
content_step (TContent-F.List is) = elements (in_items is)

abbrev pub item_step : (file : ℕ) → TItem-F Content Item Onward Branches Item → Item
item_step file (TItem-F.Node n) = n
item_step file (TItem-F.Code s) = code_of file (instruction_of file s)
item_step file (TItem-F.If p e is elifs last) = if_block (place_at file p.line) (expr_of file e) (in_items is) (in_turn elifs (or_nothing last))
item_step file (TItem-F.For p x e is) = for_block (place_at file p.line) (expr_of file x) (expr_of file e) (in_items is)
item_step file (TItem-F.Def p x ps k is) = def_block (place_at file p.line) 0 x (parameters_of file ps) (item_kind_of k) (in_items is)

abbrev pub elif_step : (file : ℕ) → TElif-F Content Item Onward Branches Item → Onward
elif_step file b = elif_branch (place_at file b.place.line) (expr_of file b.test) (in_items b.body)

abbrev pub else_step : (file : ℕ) → TElse-F Content Item Onward Branches Item → Branches
else_step file b = else_branch (place_at file b.place.line) (in_items b.body)

abbrev pub node_step : (file : ℕ) → TNode-F Content Item Onward Branches Item → Item
node_step file n = node (place_at file n.place.line) (item_kind_of n.kind) (notes_of file n.notes) (in_key n.key) (in_content file n.value n.content)

-- ---- all levels, in a file of this number

abbrev pub content_of : (file : ℕ) → TContent → Content
content_of file = fold-TContent Content Item Onward Branches Item content_step (item_step file) (elif_step file) (else_step file) (node_step file)

abbrev pub node_of : (file : ℕ) → TNode → Item
node_of file = fold-TNode Content Item Onward Branches Item content_step (item_step file) (elif_step file) (else_step file) (node_step file)

abbrev pub elif_of : (file : ℕ) → TElif → Onward
elif_of file = fold-TElif Content Item Onward Branches Item content_step (item_step file) (elif_step file) (else_step file) (node_step file)

abbrev pub else_of : (file : ℕ) → TElse → Branches
else_of file = fold-TElse Content Item Onward Branches Item content_step (item_step file) (elif_step file) (else_step file) (node_step file)

abbrev pub item_of : (file : ℕ) → TItem → Item
item_of file = fold-TItem Content Item Onward Branches Item content_step (item_step file) (elif_step file) (else_step file) (node_step file)

abbrev pub items_of : (file : ℕ) → List TItem → Items
items_of file is = in_items (each (item_of file) is)

-- what follows the first branch of an `if`, of which the first one of the text stands last
abbrev pub branches_of : (file : ℕ) → List TElif → Option TElse → Branches
branches_of file elifs last = in_turn (each (elif_of file) elifs) (or_nothing (option_map (else_of file) last))

abbrev pub template_of : Template → Items
template_of t = items_of t.file t.items
