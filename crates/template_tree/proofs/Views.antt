-- The plain items of each form of item, branches, node and content.
use Rattle.std.proofs.Common.{◌≡◌, ℕ, List, [], ◌∷◌, ◌++◌, map as each, Option, refl, ap, ◌∙◌, rules}
use Rattle.std.specs.Prelude.{option_map}
use Rattle.std.proofs.lemmas.List.{map-append, reverse-append}
use Rattle.ytt_base.specs.declared.fault.Place.{Place}
use Rattle.ytt_base.specs.declared.tree.Key.{Key}
use Rattle.ytt_base.specs.Outcomes.{place_at}
use Rattle.ytt_base.specs.View.{key_of}
use Rattle.star_tree.specs.declared.code.Expr.{Expr}
use Rattle.star_tree.specs.declared.code.Param.{Param}
use Rattle.star_tree.specs.declared.code.Stmt.{Stmt}
use Rattle.star_tree.specs.declared.program.ItemKind.{ItemKind}
use Rattle.star_tree.specs.View.{item_kind_of}
use Rattle.star_tree.specs.Whole.{expr_of, instruction_of, parameters_of}
use Rattle.template_spec.specs.Template.{Branches, an_item, node, if_block, for_block, def_block, else_branch, elif_branch, written_value, pairs, elements}
use Rattle.template_tree.specs.declared.tree.TContent as content
use Rattle.template_tree.specs.declared.tree.TContent.{the_lemmas}
use Rattle.template_tree.specs.declared.tree.TElif.{TElif}
use Rattle.template_tree.specs.declared.tree.TElse.{TElse}
use Rattle.template_tree.specs.declared.tree.TItem as held
use Rattle.template_tree.specs.declared.tree.TItem.{TItem}
use Rattle.template_tree.specs.declared.tree.TNode.{TNode}
use Rattle.template_tree.specs.View.{Onward, branches_of, code_of, content_of, elif_of, else_of, in_content, in_items, in_key, in_order, in_turn, or_nothing, item_of, items_of, node_of, notes_of}

pub item_of-Node : (file : ℕ) (n : TNode) → item_of file (held.Node n) ≡ node_of file n
item_of-Node file n = search (rules, the_lemmas)

pub item_of-Code : (file : ℕ) (s : Stmt) → item_of file (held.Code s) ≡ code_of file (instruction_of file s)
item_of-Code file s = search (rules, the_lemmas)

pub item_of-If : (file : ℕ) (p : Place) (e : Expr) (is : List TItem) (elifs : List TElif) (last : Option TElse)
    → item_of file (held.If p e is elifs last) ≡ if_block (place_at file p.line) (expr_of file e) (items_of file is) (branches_of file elifs last)
item_of-If file p e is elifs last = search (rules, the_lemmas)

pub item_of-For : (file : ℕ) (p : Place) (x e : Expr) (is : List TItem) → item_of file (held.For p x e is) ≡ for_block (place_at file p.line) (expr_of file x) (expr_of file e) (items_of file is)
item_of-For file p x e is = search (rules, the_lemmas)

pub item_of-Def : (file : ℕ) (p : Place) (x : List ℕ) (ps : List Param) (k : ItemKind) (is : List TItem)
    → item_of file (held.Def p x ps k is) ≡ def_block (place_at file p.line) 0 x (parameters_of file ps) (item_kind_of k) (items_of file is)
item_of-Def file p x ps k is = search (rules, the_lemmas)

pub elif_of-elif : (file : ℕ) (b : TElif) → elif_of file b ≡ elif_branch (place_at file b.place.line) (expr_of file b.test) (items_of file b.body)
elif_of-elif file b = search (rules, the_lemmas)

pub else_of-else : (file : ℕ) (b : TElse) → else_of file b ≡ else_branch (place_at file b.place.line) (items_of file b.body)
else_of-else file b = search (rules, the_lemmas)

in_turn-last : (bs : List Onward) (b : Onward) (more : Branches) → in_turn (bs ++ b ∷ []) more ≡ b (in_turn bs more)
in_turn-last [] b more = refl
in_turn-last (x ∷ bs) b more = in_turn-last bs b (x more)

-- the branch behind the others is the first of the text
pub branches_of-last : (file : ℕ) (bs : List TElif) (b : TElif) (last : Option TElse)
    → branches_of file (bs ++ b ∷ []) last ≡ elif_branch (place_at file b.place.line) (expr_of file b.test) (items_of file b.body) (branches_of file bs last)
branches_of-last file bs b last =
    ap (λ (fs : List Onward). in_turn fs (or_nothing (option_map (else_of file) last))) (map-append (elif_of file) bs (b ∷ []))
    ∙ in_turn-last (each (elif_of file) bs) (elif_of file b) (or_nothing (option_map (else_of file) last))
    ∙ ap (λ (f : Onward). f (branches_of file bs last)) (elif_of-elif file b)

pub node_of-node : (file : ℕ) (n : TNode) → node_of file n ≡ node (place_at file n.place.line) (item_kind_of n.kind) (notes_of file n.notes) (in_key n.key) (in_content file n.value (content_of file n.content))
node_of-node file n = search (rules, the_lemmas)

pub content_of-Scalar : (file : ℕ) (k : Key) → content_of file (content.Scalar k) ≡ written_value (key_of k)
content_of-Scalar file k = search (rules, the_lemmas)

pub content_of-Map : (file : ℕ) (is : List TItem) → content_of file (content.Map is) ≡ pairs (items_of file is)
content_of-Map file is = search (rules, the_lemmas)

pub content_of-List : (file : ℕ) (is : List TItem) → content_of file (content.List is) ≡ elements (items_of file is)
content_of-List file is = search (rules, the_lemmas)

-- the plain items, once the form is known
pub ruleset templates = (item_of-Node, item_of-Code, item_of-If, item_of-For, item_of-Def, node_of-node, content_of-Scalar, content_of-Map, content_of-List)

-- one item behind the others is the first of the text
pub items_of-last : (file : ℕ) (is : List TItem) (i : TItem) → items_of file (is ++ i ∷ []) ≡ an_item (item_of file i) (items_of file is)
items_of-last file is i = ap in_items (map-append (item_of file) is (i ∷ [])) ∙ ap in_order (reverse-append (each (item_of file) is) (item_of file i ∷ []))
