-- What a node holds, by what stands in it.
use Rattle.std.proofs.Common.{◌≡◌, ℕ, ◌+◌, ◌<◌, length, take, get_or, List, [], ◌∷◌, ◌++◌, ◌||◌, reverse, map as each, Option, None, Bool, if◌then◌else◌, refl, sym, ap, ◌∙◌}
use Rattle.std.proofs.lemmas.List.{reverse-append, take_more}
use Rattle.code_spec.specs.Program.{Instruction, holds_map, holds_list, holds_void, statement}
use Rattle.passes_spec.specs.Unbuilt.{unbuilt_item}
use Rattle.star_tree.specs.declared.code.Expr.{Expr}
use Rattle.star_unbuilt.specs.Places.{load_places_of}
use Rattle.template_spec.specs.Compiled.{holds_of}
use Rattle.template_spec.specs.Template.{an_item, has_nodes, has_written, is_node, is_void, is_written}
use Rattle.template_tree.specs.declared.tree.TContent as content
use Rattle.template_tree.specs.declared.tree.TContent.{TContent}
use Rattle.template_tree.specs.declared.tree.TItem.{TItem}
use Rattle.template_tree.specs.View.{code_of, content_of, in_content, in_order, item_of, items_of}
use Rattle.template_tree.proofs.Views.{content_of-Map, content_of-List, items_of-last}
use Rattle.template_program.proofs.Turns.{found_last}

pub map_holds : (file : ℕ) (o : Option Expr) (c : TContent) (is : List TItem) (b : Bool) → o ≡ None → c ≡ content.Map is → b ≡ is_void (items_of file is)
    → (if b then holds_void else holds_map) ≡ holds_of (in_content file o (content_of file c))
map_holds file o c is b e f v =
    ap (λ x. if x then holds_void else holds_map) v
    ∙ sym (ap (λ (p : Option Expr). holds_of (in_content file p (content_of file c))) e ∙ ap holds_of (ap (content_of file) f ∙ content_of-Map file is))

pub list_holds : (file : ℕ) (o : Option Expr) (c : TContent) (is : List TItem) (b : Bool) → o ≡ None → c ≡ content.List is → b ≡ is_void (items_of file is)
    → (if b then holds_void else holds_list) ≡ holds_of (in_content file o (content_of file c))
list_holds file o c is b e f v =
    ap (λ x. if x then holds_void else holds_list) v
    ∙ sym (ap (λ (p : Option Expr). holds_of (in_content file p (content_of file c))) e ∙ ap holds_of (ap (content_of file) f ∙ content_of-List file is))

-- the first of items that are held is the last of the text
pub nodes_first : (file : ℕ) (i : TItem) (is : List TItem) → has_nodes (items_of file (i ∷ is)) ≡ (is_node (item_of file i) || has_nodes (items_of file is))
nodes_first file i is =
    ap (λ l. has_nodes (in_order l)) (reverse-append (item_of file i ∷ []) (each (item_of file) is))
    ∙ found_last is_node has_nodes refl (λ x xs. refl) (reverse (each (item_of file) is)) (item_of file i)

pub written_first : (file : ℕ) (i : TItem) (is : List TItem) → has_written (items_of file (i ∷ is)) ≡ (is_written (item_of file i) || has_written (items_of file is))
written_first file i is =
    ap (λ l. has_written (in_order l)) (reverse-append (item_of file i ∷ []) (each (item_of file) is))
    ∙ found_last is_written has_written refl (λ x xs. refl) (reverse (each (item_of file) is)) (item_of file i)

-- those up to one, which is the first of them in the text
pub items_up_to : (file : ℕ) (is : List TItem) (i left : ℕ) (x : TItem) → i + 1 ≡ left → i < length is → x ≡ get_or is i x → items_of file (take left is) ≡ an_item (item_of file x) (items_of file (take i is))
items_up_to file is i left x e lt here =
    rw (← e) (ap (items_of file) (take_more is i x lt ∙ ap (λ y. take i is ++ y ∷ []) (sym here)) ∙ items_of-last file (take i is) x)

-- where code isn't built
pub code_places : (file : ℕ) (i : Instruction) → load_places_of i ≡ unbuilt_item (code_of file i)
code_places file (statement s) = refl
code_places file i = refl
