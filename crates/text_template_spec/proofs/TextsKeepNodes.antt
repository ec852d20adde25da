-- Text templates leave which items a block and a collection hold, and what a node holds.
use Rattle.std.proofs.Common.{◌≡◌, Bool, ◌||◌, ◌&&◌, not, Option, Some, None, refl, if◌then◌else◌}
use Rattle.std.specs.Result.{IfOk}
use Rattle.ytt_base.specs.declared.fault.Place.{Place}
use Rattle.ytt_base.specs.Trees.{Scalar}
use Rattle.ytt_laws.proofs.Yielded.{yielded_behind, yielded_then}
use Rattle.code_spec.specs.Code.{Expr}
use Rattle.code_spec.specs.CodeReading.{CodeReader}
use Rattle.code_spec.specs.Program.{Holds, ItemKind, holds_map, holds_list, holds_void}
use Rattle.template_spec.specs.Compiled.{fragment_of, holds_of}
use Rattle.template_spec.specs.Template.{Item, node, code, if_block, for_block, def_block, Items, no_items, an_item, Branches, no_branch, else_branch, elif_branch, Content, written_value, value_from, pairs, elements, is_node, has_nodes, branches_have_nodes, is_written, has_written, branches_have_written}
use Rattle.text_template_spec.specs.TextTemplates.{asks_for_texts, content_with, template_in, texted_branches, texted_content, texted_item, texted_items, texted_key}

-- as many are nodes, and as many are written
pub record Same {A : Type 0} (nodes written : A → Bool) (x y : A) : Type 0 where
  pub nodes_same : nodes y ≡ nodes x
  pub written_same : written y ≡ written x

abbrev pub SameItem : Item → Item → Type 0
SameItem i j = Same is_node is_written i j

abbrev pub SameItems : Items → Items → Type 0
SameItems t u = Same has_nodes has_written t u

abbrev pub SameBranches : Branches → Branches → Type 0
SameBranches m n = Same branches_have_nodes branches_have_written m n

-- those that nodes are among, and those that are written among
one_of : {A B C : Type 0} {f g : A → Bool} {h k : B → Bool} {n w : C → Bool} {a b : A} {c d : B} {x y : C} → Same f g a b → Same h k c d → n x ≡ (f a || h c) → n y ≡ (f b || h d) → w x ≡ (g a || k c) → w y ≡ (g b || k d)
    → Same n w x y
one_of p q e e2 z z2 = let pn = p.nodes_same in let qn = q.nodes_same in let pw = p.written_same in let qw = q.written_same in record { nodes_same = cc; written_same = cc }

module _ (r : CodeReader) where
  mutual
    pub item_same : (asked : Bool) (i : Item) → IfOk (texted_item r asked i) (SameItem i)
    item_same asked (node p k ns key c) =
        yielded_behind (SameItem (node p k ns key c)) (texted_key r (asked || asks_for_texts ns) p key) _ (λ x.
        yielded_behind (SameItem (node p k ns key c)) (texted_content r (asked || asks_for_texts ns) p c) _ (λ d. record { nodes_same = refl; written_same = refl }))
    item_same asked (code s) = record { nodes_same = refl; written_same = refl }
    item_same asked (if_block p e body more) =
        yielded_then (SameItems body) (SameItem (if_block p e body more)) (texted_items r asked body) _ (items_same asked body) (λ is h.
        yielded_then (SameBranches more) (SameItem (if_block p e body more)) (texted_branches r asked more) _ (branches_same asked more) (λ m k. one_of h k refl refl refl refl))
    item_same asked (for_block p x e body) =
        yielded_then (SameItems body) (SameItem (for_block p x e body)) (texted_items r asked body) _ (items_same asked body) (λ is h. record { nodes_same = h.nodes_same; written_same = h.written_same })
    item_same asked (def_block p number x ps k body) =
        yielded_then (SameItems body) (SameItem (def_block p number x ps k body)) (texted_items r asked body) _ (items_same asked body) (λ is h. record { nodes_same = refl; written_same = h.written_same })

    pub items_same : (asked : Bool) (t : Items) → IfOk (texted_items r asked t) (SameItems t)
    items_same asked no_items = record { nodes_same = refl; written_same = refl }
    items_same asked (an_item i is) =
        yielded_then (SameItem i) (SameItems (an_item i is)) (texted_item r asked i) _ (item_same asked i) (λ j h.
        yielded_then (SameItems is) (SameItems (an_item i is)) (texted_items r asked is) _ (items_same asked is) (λ js k. one_of h k refl refl refl refl))

    pub branches_same : (asked : Bool) (m : Branches) → IfOk (texted_branches r asked m) (SameBranches m)
    branches_same asked no_branch = record { nodes_same = refl; written_same = refl }
    branches_same asked (else_branch p body) =
        yielded_then (SameItems body) (SameBranches (else_branch p body)) (texted_items r asked body) _ (items_same asked body) (λ is h. record { nodes_same = h.nodes_same; written_same = h.written_same })
    branches_same asked (elif_branch p e body more) =
        yielded_then (SameItems body) (SameBranches (elif_branch p e body more)) (texted_items r asked body) _ (items_same asked body) (λ is h.
        yielded_then (SameBranches more) (SameBranches (elif_branch p e body more)) (texted_branches r asked more) _ (branches_same asked more) (λ m k. one_of h k refl refl refl refl))

-- ---- what a node holds, and what a function builds

abbrev HoldsAs : Content → Content → Type 0
HoldsAs c d = holds_of d ≡ holds_of c

void_same : (t u : Items) (none some : Holds) → SameItems t u → (if has_written u && not (has_nodes u) then none else some) ≡ (if has_written t && not (has_nodes t) then none else some)
void_same t u none some h = λ i. if h.written_same i && not (h.nodes_same i) then none else some

with_holds : (x : Scalar) (o : Option Expr) → HoldsAs (written_value x) (content_with x o)
with_holds x None = refl
with_holds x (Some e) = refl

pub content_holds : (r : CodeReader) (asked : Bool) (p : Place) (c : Content) → IfOk (texted_content r asked p c) (HoldsAs c)
content_holds r asked p (written_value x) = yielded_behind (HoldsAs (written_value x)) (template_in r asked p x) _ (with_holds x)
content_holds r asked p (value_from e) = refl
content_holds r asked p (pairs is) = yielded_then (SameItems is) (HoldsAs (pairs is)) (texted_items r asked is) _ (items_same r asked is) (λ js h. void_same is js holds_void holds_map h)
content_holds r asked p (elements is) = yielded_then (SameItems is) (HoldsAs (elements is)) (texted_items r asked is) _ (items_same r asked is) (λ js h. void_same is js holds_void holds_list h)

pub fragment_same : (kind : ItemKind) (t u : Items) → SameItems t u → fragment_of kind u ≡ fragment_of kind t
fragment_same kind t u h = λ i. if h.nodes_same i then Some kind else None
