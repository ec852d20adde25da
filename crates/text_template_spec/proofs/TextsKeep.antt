-- Text templates leave items where they are, and their code has names as they may be.
use Rattle.std.proofs.Common.{◌≡◌, ℕ, zero, suc, Bool, true, false, ◌||◌, ◌==◌, List, [], ◌∷◌, ◌++◌, Ok, Err, IfOk, refl, subst, sym, codes, Option, Some, None, if◌then◌else◌}
use Rattle.ytt_base.specs.declared.fault.Place.{Place}
use Rattle.ytt_base.specs.Outcomes.{Outcome, ◌>>=◌}
use Rattle.ytt_base.specs.Trees.{Scalar, null, boolean, integer, string}
use Rattle.ytt_laws.proofs.Yielded.{yielded_behind, yielded_either, yielded_then}
use Rattle.yaml_spec.specs.Bytes.{dash}
use Rattle.yaml_spec.specs.Text.{last}
use Rattle.code_spec.specs.Allowed.{AllowedExpr, AllowedPieces}
use Rattle.code_spec.specs.Code.{Expr, Pieces, no_pieces, expr_piece, text_template}
use Rattle.code_spec.specs.CodeReading.{CodeReader}
use Rattle.code_spec.specs.Program.{ItemKind, document_item, pair_item, element_item}
use Rattle.template_spec.specs.Comments.{begins}
use Rattle.template_spec.specs.Placed.{KeyFits, PlacedItem, PlacedItems, PlacedBranches, PlacedContent, AllowedKey, AllowedItem, AllowedItems, AllowedBranches, AllowedContent}
use Rattle.template_spec.specs.Template.{Key, no_key, written_key, key_from, Item, node, code, if_block, for_block, def_block, Items, no_items, an_item, Branches, no_branch, else_branch, elif_branch, Content, written_value, value_from, pairs, elements, is_node, has_nodes, branches_have_nodes, fragment_kind}
use Rattle.template_spec.specs.WellNested.{Ways, in_a_node, in_a_branch, in_a_loop, in_a_function}
use Rattle.text_template_spec.specs.TextPieces.{AllowsCode, code_from, is_templated, pieces_in, text_from, with_text}
use Rattle.text_template_spec.specs.TextTemplates.{asks_for_texts, content_with, key_with, template_in, texted_branches, texted_content, texted_item, texted_items, texted_key}

-- ---- placing

key_given : (kind : ItemKind) (x : Scalar) (e : Expr) → KeyFits kind (written_key x) → KeyFits kind (key_from e)
key_given document_item x e h = h
key_given pair_item x e h = tt
key_given element_item x e h = h

with_fits : (kind : ItemKind) (x : Scalar) (o : Option Expr) → KeyFits kind (written_key x) → KeyFits kind (key_with x o)
with_fits kind x None h = h
with_fits kind x (Some e) h = key_given kind x e h

key_fits : (r : CodeReader) (asked : Bool) (kind : ItemKind) (p : Place) (k : Key) → KeyFits kind k → IfOk (texted_key r asked p k) (KeyFits kind)
key_fits r asked kind p (written_key x) h = yielded_behind (KeyFits kind) (template_in r asked p x) _ (λ o. with_fits kind x o h)
key_fits r asked kind p no_key h = h
key_fits r asked kind p (key_from e) h = h

-- an item's node stays one
record Kept {A : Type 0} (P : A → Type 0) (nodes : A → Bool) (n : Bool) (a : A) : Type 0 where
  holds : P a
  same : nodes a ≡ n

or_same : {a b c d : Bool} → a ≡ b → c ≡ d → (a || c) ≡ (b || d)
or_same h k = cc

with_placed : (w : Ways) (x : Scalar) (o : Option Expr) → PlacedContent w (content_with x o)
with_placed w x None = tt
with_placed w x (Some e) = tt

module _ (r : CodeReader) where
  mutual
    item_kept : (asked : Bool) (w : Ways) (kind : ItemKind) (i : Item) → PlacedItem w kind i → IfOk (texted_item r asked i) (Kept (PlacedItem w kind) is_node (is_node i))
    item_kept asked w kind (node p k ns key c) h =
        yielded_then (KeyFits kind) _ (texted_key r (asked || asks_for_texts ns) p key) _ (key_fits r (asked || asks_for_texts ns) kind p key h.1) (λ x hx.
        yielded_then (PlacedContent w) _ (texted_content r (asked || asks_for_texts ns) p c) _ (content_kept (asked || asks_for_texts ns) w p c h.2) (λ d hd.
        record { holds = (h.0, hx, hd); same = refl }))
    item_kept asked w kind (code s) h = record { holds = h; same = refl }
    item_kept asked w kind (if_block p e body more) h =
        yielded_then (Kept (PlacedItems (in_a_branch w) kind) has_nodes (has_nodes body)) _ (texted_items r asked body) _ (items_kept asked (in_a_branch w) kind body h.0) (λ is hi.
        yielded_then (Kept (PlacedBranches (in_a_branch w) kind) branches_have_nodes (branches_have_nodes more)) _ (texted_branches r asked more) _ (branches_kept asked (in_a_branch w) kind more h.1) (λ m hm.
        record { holds = (hi.holds, hm.holds); same = or_same hi.same hm.same }))
    item_kept asked w kind (for_block p x e body) h =
        yielded_then (Kept (PlacedItems (in_a_loop w) kind) has_nodes (has_nodes body)) _ (texted_items r asked body) _ (items_kept asked (in_a_loop w) kind body h) (λ is hi.
        record { holds = hi.holds; same = hi.same })
    item_kept asked w kind (def_block p number x ps k body) h =
        yielded_then (Kept (PlacedItems (in_a_function (fragment_kind k body)) kind) has_nodes (has_nodes body)) _ (texted_items r asked body) _ (items_kept asked (in_a_function (fragment_kind k body)) kind body h.1) (λ is hi.
        record { holds = (h.0, subst (λ b. PlacedItems (in_a_function (if b then Some k else None)) kind is) (sym hi.same) hi.holds); same = refl })

    items_kept : (asked : Bool) (w : Ways) (kind : ItemKind) (t : Items) → PlacedItems w kind t → IfOk (texted_items r asked t) (Kept (PlacedItems w kind) has_nodes (has_nodes t))
    items_kept asked w kind no_items h = record { holds = tt; same = refl }
    items_kept asked w kind (an_item i is) h =
        yielded_then (Kept (PlacedItem w kind) is_node (is_node i)) _ (texted_item r asked i) _ (item_kept asked w kind i h.0) (λ j hj.
        yielded_then (Kept (PlacedItems w kind) has_nodes (has_nodes is)) _ (texted_items r asked is) _ (items_kept asked w kind is h.1) (λ js hs.
        record { holds = (hj.holds, hs.holds); same = or_same hj.same hs.same }))

    branches_kept : (asked : Bool) (w : Ways) (kind : ItemKind) (m : Branches) → PlacedBranches w kind m → IfOk (texted_branches r asked m) (Kept (PlacedBranches w kind) branches_have_nodes (branches_have_nodes m))
    branches_kept asked w kind no_branch h = record { holds = tt; same = refl }
    branches_kept asked w kind (else_branch p body) h =
        yielded_then (Kept (PlacedItems w kind) has_nodes (has_nodes body)) _ (texted_items r asked body) _ (items_kept asked w kind body h) (λ is hi. record { holds = hi.holds; same = hi.same })
    branches_kept asked w kind (elif_branch p e body more) h =
        yielded_then (Kept (PlacedItems w kind) has_nodes (has_nodes body)) _ (texted_items r asked body) _ (items_kept asked w kind body h.0) (λ is hi.
        yielded_then (Kept (PlacedBranches w kind) branches_have_nodes (branches_have_nodes more)) _ (texted_branches r asked more) _ (branches_kept asked w kind more h.1) (λ m hm.
        record { holds = (hi.holds, hm.holds); same = or_same hi.same hm.same }))

    content_kept : (asked : Bool) (w : Ways) (p : Place) (c : Content) → PlacedContent w c → IfOk (texted_content r asked p c) (PlacedContent w)
    content_kept asked w p (written_value x) h = yielded_behind (PlacedContent w) (template_in r asked p x) _ (with_placed w x)
    content_kept asked w p (value_from e) h = tt
    content_kept asked w p (pairs is) h =
        yielded_then (Kept (PlacedItems (in_a_node w) pair_item) has_nodes (has_nodes is)) _ (texted_items r asked is) _ (items_kept asked (in_a_node w) pair_item is h) (λ js hs. hs.holds)
    content_kept asked w p (elements is) h =
        yielded_then (Kept (PlacedItems (in_a_node w) element_item) has_nodes (has_nodes is)) _ (texted_items r asked is) _ (items_kept asked (in_a_node w) element_item is h) (λ js hs. hs.holds)

  pub placed_kept : (asked : Bool) (w : Ways) (kind : ItemKind) (t u : Items) → texted_items r asked t ≡ Ok u → PlacedItems w kind t → PlacedItems w kind u
  placed_kept asked w kind t u e h =
      let k : Kept (PlacedItems w kind) has_nodes (has_nodes t) u = subst (λ o. IfOk o (Kept (PlacedItems w kind) has_nodes (has_nodes t))) e (items_kept asked w kind t h) in k.holds

-- ---- names

with_text_allowed : (t : List ℕ) (ps : Pieces) → AllowedPieces ps → AllowedPieces (with_text t ps)
with_text_allowed [] ps h = h
with_text_allowed (b ∷ t) ps h = h

abbrev AllowedIfGiven : Option Expr → Type 0
AllowedIfGiven None = Unit {0}
AllowedIfGiven (Some e) = AllowedExpr e

key_with_allowed : (x : Scalar) (o : Option Expr) → AllowedIfGiven o → AllowedKey (key_with x o)
key_with_allowed x None h = tt
key_with_allowed x (Some e) h = h

content_with_allowed : (x : Scalar) (o : Option Expr) → AllowedIfGiven o → AllowedContent (content_with x o)
content_with_allowed x None h = tt
content_with_allowed x (Some e) h = h

module _ (r : CodeReader) (allows : AllowsCode r) (p : Place) where
  reads_allowed : (held : List ℕ) (o : Outcome Expr) (rest : Outcome Pieces) → r.expr p held ≡ o → IfOk rest AllowedPieces → IfOk (o >>= (λ e. rest >>= (λ ps. Ok (expr_piece e ps)))) AllowedPieces
  reads_allowed held (Err f) rest h k = tt
  reads_allowed held (Ok e) rest h k = yielded_then AllowedPieces AllowedPieces rest _ k (λ ps hs. (allows p held e h, hs))

  mutual
    text_allowed : (n : ℕ) (held t : List ℕ) → IfOk (text_from r p n held t) AllowedPieces
    text_allowed n held [] = with_text_allowed held no_pieces tt
    text_allowed (suc n) held (b ∷ t) = text_allowed n held t
    text_allowed zero held (b ∷ t) =
        yielded_either AllowedPieces (begins (b ∷ t) (codes "(@")) _ (text_from r p zero (held ++ b ∷ []) t)
        (yielded_either AllowedPieces (begins (b ∷ t) (codes "(@=")) (code_from r p 2 [] t >>= (λ ps. Ok (with_text held ps))) _
        (yielded_then AllowedPieces AllowedPieces (code_from r p 2 [] t) _ (code_allowed 2 [] t) (λ ps hs. with_text_allowed held ps hs)) tt)
        (text_allowed zero (held ++ b ∷ []) t)

    code_allowed : (n : ℕ) (held t : List ℕ) → IfOk (code_from r p n held t) AllowedPieces
    code_allowed n held [] = tt
    code_allowed (suc n) held (b ∷ t) = code_allowed n held t
    code_allowed zero held (b ∷ t) =
        yielded_either AllowedPieces (begins (b ∷ t) (codes "@)")) _ (code_from r p zero (held ++ b ∷ []) t)
        (yielded_either AllowedPieces (last held == dash) _ (r.expr p held >>= (λ e. text_from r p 1 [] t >>= (λ ps. Ok (expr_piece e ps)))) tt
        (reads_allowed held (r.expr p held) (text_from r p 1 [] t) refl (text_allowed 1 [] t)))
        (code_allowed zero (held ++ b ∷ []) t)

  pieces_allowed : (t : List ℕ) → IfOk (pieces_in r p t) AllowedPieces
  unfolding pieces_in
  pieces_allowed t = text_allowed zero [] t

  template_allowed : (asked : Bool) (x : Scalar) → IfOk (template_in r asked p x) AllowedIfGiven
  template_allowed true (string t) =
      yielded_either AllowedIfGiven (is_templated t) (pieces_in r p t >>= (λ ps. Ok (Some (text_template p ps)))) (Ok None) (yielded_then AllowedPieces AllowedIfGiven (pieces_in r p t) _ (pieces_allowed t) (λ ps h. h)) tt
  template_allowed true null = tt
  template_allowed true (boolean b) = tt
  template_allowed true (integer z) = tt
  template_allowed false x = tt

  key_allowed : (asked : Bool) (k : Key) → AllowedKey k → IfOk (texted_key r asked p k) AllowedKey
  key_allowed asked (written_key x) h = yielded_then AllowedIfGiven AllowedKey (template_in r asked p x) _ (template_allowed asked x) (key_with_allowed x)
  key_allowed asked no_key h = tt
  key_allowed asked (key_from e) h = h

module _ (r : CodeReader) (allows : AllowsCode r) where
  mutual
    item_allowed : (asked : Bool) (i : Item) → AllowedItem i → IfOk (texted_item r asked i) AllowedItem
    item_allowed asked (node p k ns key c) h =
        yielded_then AllowedKey AllowedItem (texted_key r (asked || asks_for_texts ns) p key) _ (key_allowed r allows p (asked || asks_for_texts ns) key h.1) (λ x hx.
        yielded_then AllowedContent AllowedItem (texted_content r (asked || asks_for_texts ns) p c) _ (content_allowed (asked || asks_for_texts ns) p c h.2) (λ d hd. (h.0, hx, hd)))
    item_allowed asked (code s) h = h
    item_allowed asked (if_block p e body more) h =
        yielded_then AllowedItems AllowedItem (texted_items r asked body) _ (items_allowed asked body h.1) (λ is hi.
        yielded_then AllowedBranches AllowedItem (texted_branches r asked more) _ (branches_allowed asked more h.2) (λ m hm. (h.0, hi, hm)))
    item_allowed asked (for_block p x e body) h = yielded_then AllowedItems AllowedItem (texted_items r asked body) _ (items_allowed asked body h.2) (λ is hi. (h.0, h.1, hi))
    item_allowed asked (def_block p number x ps k body) h = yielded_then AllowedItems AllowedItem (texted_items r asked body) _ (items_allowed asked body h.1) (λ is hi. (h.0, hi))

    items_allowed : (asked : Bool) (t : Items) → AllowedItems t → IfOk (texted_items r asked t) AllowedItems
    items_allowed asked no_items h = tt
    items_allowed asked (an_item i is) h =
        yielded_then AllowedItem AllowedItems (texted_item r asked i) _ (item_allowed asked i h.0) (λ j hj.
        yielded_then AllowedItems AllowedItems (texted_items r asked is) _ (items_allowed asked is h.1) (λ js hs. (hj, hs)))

    branches_allowed : (asked : Bool) (m : Branches) → AllowedBranches m → IfOk (texted_branches r asked m) AllowedBranches
    branches_allowed asked no_branch h = tt
    branches_allowed asked (else_branch p body) h = yielded_then AllowedItems AllowedBranches (texted_items r asked body) _ (items_allowed asked body h) (λ is hi. hi)
    branches_allowed asked (elif_branch p e body more) h =
        yielded_then AllowedItems AllowedBranches (texted_items r asked body) _ (items_allowed asked body h.1) (λ is hi.
        yielded_then AllowedBranches AllowedBranches (texted_branches r asked more) _ (branches_allowed asked more h.2) (λ m hm. (h.0, hi, hm)))

    content_allowed : (asked : Bool) (p : Place) (c : Content) → AllowedContent c → IfOk (texted_content r asked p c) AllowedContent
    content_allowed asked p (written_value x) h =
        yielded_then AllowedIfGiven AllowedContent (template_in r asked p x) _ (template_allowed r allows p asked x) (content_with_allowed x)
    content_allowed asked p (value_from e) h = h
    content_allowed asked p (pairs is) h = yielded_then AllowedItems AllowedContent (texted_items r asked is) _ (items_allowed asked is h) (λ js hs. hs)
    content_allowed asked p (elements is) h = yielded_then AllowedItems AllowedContent (texted_items r asked is) _ (items_allowed asked is h) (λ js hs. hs)

  pub allowed_kept : (asked : Bool) (t u : Items) → texted_items r asked t ≡ Ok u → AllowedItems t → AllowedItems u
  allowed_kept asked t u e h = subst (λ o. IfOk o AllowedItems) e (items_allowed asked t h)
