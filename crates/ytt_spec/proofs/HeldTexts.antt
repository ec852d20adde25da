-- Text templates leave what a template has such as the program holds: what stands between marks is UTF-8, and code is read as such.
use Rattle.std.proofs.Common.{◌≡◌, ℕ, zero, suc, Bool, true, false, cond, eqb, ◌==◌, ◌&&◌, ◌||◌, List, [], ◌∷◌, ◌++◌, drop, length, ◌<◌, Option, Some, None, Result, Ok, Err, codes, refl, ap, subst, sym, ◌∙◌, append_assoc, append-nil, arith, ◌≢◌, ⊎_elim}
use Rattle.std.specs.Result.{IfOk}
use Rattle.std.specs.Str.{IsUtf8}
use Rattle.std.proofs.lemmas.Bool.Decides.{eqb_tells}
use Rattle.std.proofs.lemmas.Str.{IsUtf8-nil}
use Rattle.std.specs.List.{starts_with}
use Rattle.ytt_base.specs.declared.fault.Place.{Place}
use Rattle.ytt_base.specs.Outcomes.{◌>>=◌}
use Rattle.ytt_base.specs.Trees.{Scalar, null, boolean, integer, string, IsScalar}
use Rattle.ytt_laws.proofs.Yielded.{yielded_then, yielded_test, yielded_either}
use Rattle.yaml_spec.specs.Bytes.{dash}
use Rattle.yaml_spec.specs.Text.{last}
use Rattle.code_spec.specs.Code.{Expr, Pieces, no_pieces, text_piece, expr_piece, text_template}
use Rattle.code_spec.specs.CodeReading.{CodeReader}
use Rattle.code_spec.specs.Program.{ItemKind}
use Rattle.star_spec.proofs.TextsKeep.{low_utf8}
use Rattle.star_spec.specs.Held.{HeldExpr, HeldPieces}
use Rattle.text_spec.proofs.Cuts.{sides_utf8}
use Rattle.template_spec.specs.Comments.{begins}
use Rattle.template_spec.specs.Template.{Key, no_key, written_key, key_from, Item, node, code, if_block, for_block, def_block, Items, no_items, an_item, Branches, no_branch, else_branch, elif_branch, Content, written_value, value_from, pairs, elements, fragment_kind, has_nodes}
use Rattle.template_meaning.specs.Calls.{level_of}
use Rattle.template_meaning.proofs.BuildKeeps.{HeldBranches, HeldContent, HeldItem, HeldItemKey, HeldItems}
use Rattle.text_template_spec.proofs.TextsKeepNodes.{SameItems, items_same}
use Rattle.text_template_spec.specs.TextPieces.{code_from, is_templated, pieces_in, text_from, with_text}
use Rattle.text_template_spec.specs.TextTemplates.{asks_for_texts, content_with, key_with, template_in, texted_branches, texted_content, texted_item, texted_items, texted_key, with_texts}
use Rattle.ytt_spec.proofs.HeldCode.{ReadsHeld}

both : {A E : Type 0} (P Q : A → Type 0) (o : Result A E) → IfOk o P → IfOk o Q → IfOk o (λ x. P x × Q x)
both P Q (Ok x) h k = (h, k)
both P Q (Err e) h k = tt

-- ---- marks

-- what a text begins with, and what is behind it
begins_split : (x s : List ℕ) → begins s x ≡ true → s ≡ x ++ drop (length x) s
begins_split [] s h = refl
begins_split (b ∷ x) [] h = cc
begins_split (b ∷ x) (c ∷ s) h = ⊎_elim
    (λ (e : (eqb b c ≡ true) × (b ≡ c)). let k : begins s x ≡ true = rw e.0 at h in λ i. sym e.1 i ∷ begins_split x s k i)
    (λ (e : (eqb b c ≡ false) × (b ≢ c)). let k : false ≡ true = rw e.0 at h in cc)
    (eqb_tells b c)

around_mark : (mark held s : List ℕ) → IsUtf8 mark → 0 < length mark → begins s mark ≡ true → IsUtf8 (held ++ s) → IsUtf8 held × IsUtf8 (drop (length mark) s)
around_mark mark held s m l h u = sides_utf8 held mark (drop (length mark) s) m l (subst (λ t. IsUtf8 (held ++ t)) (begins_split mark s h) u)

text_held_first : (t : List ℕ) (ps : Pieces) → IsUtf8 t → HeldPieces ps → HeldPieces (with_text t ps)
text_held_first [] ps u h = h
text_held_first (b ∷ t) ps u h = (u, h)

one_further : (held : List ℕ) (b : ℕ) (t : List ℕ) → IsUtf8 (held ++ (b ∷ t)) → IsUtf8 ((held ++ b ∷ []) ++ t)
one_further held b t u = subst IsUtf8 (sym (append_assoc held (b ∷ []) t)) u

-- ---- pieces

module _ (r : CodeReader) (reads : ReadsHeld r) (p : Place) where
  mutual
    text_held : (n : ℕ) (held left : List ℕ) → IsUtf8 (held ++ drop n left) → IfOk (text_from r p n held left) HeldPieces
    text_held zero held [] u = text_held_first held no_pieces (subst IsUtf8 (append-nil held) u) tt
    text_held (suc n) held [] u = text_held_first held no_pieces (subst IsUtf8 (append-nil held) u) tt
    text_held (suc n) held (b ∷ t) u = text_held n held t u
    text_held zero held (b ∷ t) u =
        yielded_test HeldPieces (begins (b ∷ t) (codes "(@")) _ _
        (λ h. yielded_test HeldPieces (begins (b ∷ t) (codes "(@=")) _ _
        (λ k. let (front, rest) = around_mark (codes "(@=") held (b ∷ t) (low_utf8 (codes "(@=") refl) (omega arith) k u in
        yielded_then HeldPieces HeldPieces (code_from r p 2 [] t) _ (code_held 2 [] t rest) (λ ps g. text_held_first held ps front g))
        (λ k. tt))
        (λ h. text_held zero (held ++ b ∷ []) t (one_further held b t u))

    code_held : (n : ℕ) (held left : List ℕ) → IsUtf8 (held ++ drop n left) → IfOk (code_from r p n held left) HeldPieces
    code_held zero held [] u = tt
    code_held (suc n) held [] u = tt
    code_held (suc n) held (b ∷ t) u = code_held n held t u
    code_held zero held (b ∷ t) u =
        yielded_test HeldPieces (begins (b ∷ t) (codes "@)")) _ _
        (λ h. yielded_test HeldPieces (last held == dash) _ _
        (λ k. tt)
        (λ k. let (front, rest) = around_mark (codes "@)") held (b ∷ t) (low_utf8 (codes "@)") refl) (omega arith) h u in
        yielded_then HeldExpr HeldPieces (r.expr p held) _ (reads.expr p held) (λ e g.
        yielded_then HeldPieces HeldPieces (text_from r p 1 [] t) _ (text_held 1 [] t rest) (λ ps f. (g, f)))))
        (λ h. code_held zero (held ++ b ∷ []) t (one_further held b t u))

  pieces_held : (t : List ℕ) → IsUtf8 t → IfOk (pieces_in r p t) HeldPieces
  unfolding pieces_in
  pieces_held t u = text_held zero [] t u

  -- an expression that a written scalar is, if it is one
  abbrev HeldGiven : Option Expr → Type 0
  HeldGiven None = Unit {0}
  HeldGiven (Some e) = HeldExpr e

  template_held : (asked : Bool) (x : Scalar) → IsScalar x → IfOk (template_in r asked p x) HeldGiven
  template_held true (string t) h =
      yielded_either HeldGiven (is_templated t) (pieces_in r p t >>= (λ ps. Ok (Some (text_template p ps)))) (Ok None) (yielded_then HeldPieces HeldGiven (pieces_in r p t) _ (pieces_held t h) (λ ps g. g)) tt
  template_held true null h = tt
  template_held true (boolean b) h = tt
  template_held true (integer z) h = tt
  template_held false x h = tt

  key_with_held : (x : Scalar) (o : Option Expr) → IsScalar x → HeldGiven o → HeldItemKey (key_with x o)
  key_with_held x None h g = h
  key_with_held x (Some e) h g = g

  content_with_held : (n : ℕ) (x : Scalar) (o : Option Expr) → IsScalar x → HeldGiven o → HeldContent n (content_with x o)
  content_with_held n x None h g = h
  content_with_held n x (Some e) h g = g

-- ---- items

module _ (r : CodeReader) (reads : ReadsHeld r) where
  key_held : (asked : Bool) (p : Place) (k : Key) → HeldItemKey k → IfOk (texted_key r asked p k) HeldItemKey
  key_held asked p (written_key x) h = yielded_then (HeldGiven r reads p) HeldItemKey (template_in r asked p x) _ (template_held r reads p asked x h) (λ o g. key_with_held r reads p x o h g)
  key_held asked p no_key h = tt
  key_held asked p (key_from e) h = h

  level_same : (k : ItemKind) (t u : Items) → SameItems t u → level_of (fragment_kind k t) ≡ level_of (fragment_kind k u)
  level_same k t u h = λ i. level_of (cond (sym h.nodes_same i) (Some k) None)

  mutual
    item_held : (asked : Bool) (n : ℕ) (i : Item) → HeldItem n i → IfOk (texted_item r asked i) (HeldItem n)
    item_held asked n (node p k ns key c) h =
        yielded_then HeldItemKey (HeldItem n) (texted_key r (asked || asks_for_texts ns) p key) _ (key_held (asked || asks_for_texts ns) p key h.1) (λ x hx.
        yielded_then (HeldContent n) (HeldItem n) (texted_content r (asked || asks_for_texts ns) p c) _ (content_held (asked || asks_for_texts ns) n p c h.2) (λ d hd. (h.0, hx, hd)))
    item_held asked n (code s) h = h
    item_held asked n (if_block p e body more) h =
        yielded_then (HeldItems n) (HeldItem n) (texted_items r asked body) _ (items_held asked n body h.1) (λ is hi.
        yielded_then (HeldBranches n) (HeldItem n) (texted_branches r asked more) _ (branches_held asked n more h.2) (λ m hm. (h.0, hi, hm)))
    item_held asked n (for_block p x e body) h = yielded_then (HeldItems n) (HeldItem n) (texted_items r asked body) _ (items_held asked n body h.2) (λ is hi. (h.0, h.1, hi))
    item_held asked n (def_block p number x ps k body) h =
        yielded_then (λ is. SameItems body is × HeldItems (level_of (fragment_kind k body)) is) (HeldItem n) (texted_items r asked body) _
        (both (SameItems body) (HeldItems (level_of (fragment_kind k body))) (texted_items r asked body) (items_same r asked body) (items_held asked (level_of (fragment_kind k body)) body h.2))
        (λ is hi. (h.0, h.1, subst (λ (l : ℕ). HeldItems l is) (level_same k body is hi.0) hi.1))

    items_held : (asked : Bool) (n : ℕ) (t : Items) → HeldItems n t → IfOk (texted_items r asked t) (HeldItems n)
    items_held asked n no_items h = tt
    items_held asked n (an_item i is) h =
        yielded_then (HeldItem n) (HeldItems n) (texted_item r asked i) _ (item_held asked n i h.0) (λ j hj.
        yielded_then (HeldItems n) (HeldItems n) (texted_items r asked is) _ (items_held asked n is h.1) (λ js hs. (hj, hs)))

    branches_held : (asked : Bool) (n : ℕ) (m : Branches) → HeldBranches n m → IfOk (texted_branches r asked m) (HeldBranches n)
    branches_held asked n no_branch h = tt
    branches_held asked n (else_branch p body) h = yielded_then (HeldItems n) (HeldBranches n) (texted_items r asked body) _ (items_held asked n body h) (λ is hi. hi)
    branches_held asked n (elif_branch p e body more) h =
        yielded_then (HeldItems n) (HeldBranches n) (texted_items r asked body) _ (items_held asked n body h.1) (λ is hi.
        yielded_then (HeldBranches n) (HeldBranches n) (texted_branches r asked more) _ (branches_held asked n more h.2) (λ m hm. (h.0, hi, hm)))

    content_held : (asked : Bool) (n : ℕ) (p : Place) (c : Content) → HeldContent n c → IfOk (texted_content r asked p c) (HeldContent n)
    content_held asked n p (written_value x) h = yielded_then (HeldGiven r reads p) (HeldContent n) (template_in r asked p x) _ (template_held r reads p asked x h) (λ o g. content_with_held r reads p n x o h g)
    content_held asked n p (value_from e) h = h
    content_held asked n p (pairs is) h = yielded_then (HeldItems (suc n)) (HeldContent n) (texted_items r asked is) _ (items_held asked (suc n) is h.1) (λ js hs. (h.0, hs))
    content_held asked n p (elements is) h = yielded_then (HeldItems (suc n)) (HeldContent n) (texted_items r asked is) _ (items_held asked (suc n) is h.1) (λ js hs. (h.0, hs))

  -- the pass over a template
  pub texts_held : (t : Items) → HeldItems 0 t → IfOk (with_texts r t) (HeldItems 0)
  unfolding with_texts
  texts_held t h = items_held false 0 t h
