-- The instructions of each form of item and of branches, with the text templates in them.
use Rattle.std.proofs.Common.{◌≡◌, ℕ, Bool, ◌||◌, List, Option, Result, Ok, refl, sym, ap, subst, ◌∙◌}
use Rattle.std.proofs.lemmas.Result.{IfOk-at_ok}
use Rattle.ytt_base.specs.declared.fault.Place.{Place}
use Rattle.ytt_base.specs.declared.fault.Stop.{Stop}
use Rattle.ytt_base.specs.Outcomes.{◌>>=◌}
use Rattle.code_spec.specs.Code.{Expr, Name, Parameters}
use Rattle.code_spec.specs.CodeReading.{CodeReader}
use Rattle.code_spec.specs.Program.{Holds, Instruction, ItemKind, part, node_start, node_end, statement, begin_if, begin_elif, begin_else, begin_for, begin_def, close}
use Rattle.star_tree.specs.declared.code.Stmt.{Stmt}
use Rattle.template_spec.specs.Compiled.{branches_code, content_code, fragment_of, holds_of, item_code, items_code, key_code, notes_code}
use Rattle.template_spec.specs.Template.{Notes, Key, Item, node, if_block, for_block, def_block, Items, Branches, else_branch, Content}
use Rattle.template_tree.specs.View.{code_of}
use Rattle.text_template_spec.specs.TextTemplates.{asks_for_texts, texted_branches, texted_content, texted_item, texted_items, texted_key}
use Rattle.text_template_spec.proofs.TextsKeepNodes.{SameItems, content_holds, fragment_same, items_same}
use Rattle.template_program.specs.Emits.{Emits, EmitsBy, EmitsOne}
use Rattle.template_program.proofs.Emitting.{emits_then}
use Rattle.template_program.proofs.Texting.{emits_behind, emits_in}

module _ (r : CodeReader) (asked : Bool) (file : ℕ) (a d : List Stmt) (n l : ℕ) where
  code_stays : (s : Instruction) → texted_item r asked (code_of file s) ≡ Ok (code_of file s)
  code_stays (statement s) = refl
  code_stays (part o) = refl
  code_stays (begin_if p e) = refl
  code_stays (begin_elif p e) = refl
  code_stays (begin_else p) = refl
  code_stays (begin_for p x e) = refl
  code_stays (begin_def p k fragment x ps) = refl
  code_stays (close p) = refl

  -- of an item of this form
  abbrev Whole : Result (Unit {0}) Stop → Item → Type 0
  Whole result i = EmitsBy file a d n l item_code result (texted_item r asked i)

  of_form : (result : Result (Unit {0}) Stop) (i j : Item) → i ≡ j → Whole result j → Whole result i
  of_form result i j e h = subst (Whole result) (sym e) h

  -- a statement stays as it is
  pub code_emits : (i : Item) (s : Instruction) → i ≡ code_of file s → Emits file a d n l (item_code (code_of file s)) → Whole (Ok tt) i
  code_emits i s form h = of_form (Ok tt) i (code_of file s) form (code_of file s, code_stays s, h)

  module _ (i : Item) (p : Place) (e : Expr) (body : Items) (more : Branches) (form : i ≡ if_block p e body more) where
    pub if_emits : (b c : List Stmt) (m k : ℕ) (result : Result (Unit {0}) Stop) → EmitsOne file a b n m (begin_if p e) → EmitsBy file b c m k items_code (Ok tt) (texted_items r asked body) →
        EmitsBy file c d k l (branches_code p) result (texted_branches r asked more) → Whole result i
    if_emits b c m k result head h g =
        of_form result i (if_block p e body more) form
        (emits_behind file items_code item_code b c a d m k n l result (texted_items r asked body) _ h (λ is hi.
        emits_in file (branches_code p) item_code c d a d k l n l result (texted_branches r asked more) (λ m. if_block p e is m) g (λ m hm. emits_then head (emits_then hi hm))))

  module _ (i : Item) (p : Place) (x e : Expr) (body : Items) (form : i ≡ for_block p x e body) where
    pub for_emits : (b c : List Stmt) (m k : ℕ) → EmitsOne file a b n m (begin_for p x e) → EmitsBy file b c m k items_code (Ok tt) (texted_items r asked body) → EmitsOne file c d k l (close p) → Whole (Ok tt) i
    for_emits b c m k head h end =
        of_form (Ok tt) i (for_block p x e body) form
        (emits_in file items_code item_code b c a d m k n l (Ok tt) (texted_items r asked body) (λ is. for_block p x e is) h (λ is hi. emits_then head (emits_then hi end)))

  module _ (i : Item) (p : Place) (x : Name) (ps : Parameters) (kind : ItemKind) (body : Items) (form : i ≡ def_block p 0 x ps kind body) where
    pub def_emits : (b c : List Stmt) (m k : ℕ) (builds : Option ItemKind) → builds ≡ fragment_of kind body → EmitsOne file a b n m (begin_def p 0 builds x ps) → EmitsBy file b c m k items_code (Ok tt) (texted_items r asked body) →
        EmitsOne file c d k l (close p) → Whole (Ok tt) i
    def_emits b c m k builds of_kind head (is, given, hi) end =
        let same : fragment_of kind is ≡ fragment_of kind body = fragment_same kind body is (IfOk-at_ok (SameItems body) given (items_same r asked body)) in
        let headed : EmitsOne file a b n m (begin_def p 0 (fragment_of kind is) x ps) = subst (λ o. EmitsOne file a b n m (begin_def p 0 o x ps)) (of_kind ∙ sym same) head in
        of_form (Ok tt) i (def_block p 0 x ps kind body) form
        (def_block p 0 x ps kind is, ap (λ o. o >>= (λ js. Ok (def_block p 0 x ps kind js))) given, emits_then headed (emits_then hi end))

  module _ (q p : Place) (body : Items) (m : Branches) (form : m ≡ else_branch p body) where
    abbrev Branch : Result (Unit {0}) Stop → Branches → Type 0
    Branch result m = EmitsBy file a d n l (branches_code q) result (texted_branches r asked m)

    pub else_emits : (b c : List Stmt) (j k : ℕ) → EmitsOne file a b n j (begin_else p) → EmitsBy file b c j k items_code (Ok tt) (texted_items r asked body) → EmitsOne file c d k l (close q) → Branch (Ok tt) m
    else_emits b c j k head h end =
        subst (Branch (Ok tt)) (sym form)
        (emits_in file items_code (branches_code q) b c a d j k n l (Ok tt) (texted_items r asked body) (λ is. else_branch p is) h (λ is hi. emits_then head (emits_then hi end)))

  module _ (i : Item) (p : Place) (kind : ItemKind) (ns : Notes) (key : Key) (c : Content) (form : i ≡ node p kind ns key c) (now : Bool) (asks : now ≡ (asked || asks_for_texts ns)) where
    -- asked for as it is in the node
    here : (result : Result (Unit {0}) Stop) → EmitsBy file a d n l item_code result (texted_key r now p key >>= (λ k. texted_content r now p c >>= (λ d. Ok (node p kind ns k d)))) → Whole result i
    here result h =
        of_form result i (node p kind ns key c) form
        (subst (λ b. EmitsBy file a d n l item_code result (texted_key r b p key >>= (λ k. texted_content r b p c >>= (λ d. Ok (node p kind ns k d))))) asks h)

    pub node_emits : (b e f g : List Stmt) (m j k o : ℕ) (held : Holds) → held ≡ holds_of c → EmitsOne file a b n m (part (node_start p kind held)) → Emits file b e m j (notes_code ns) →
        EmitsBy file e f j k (key_code p) (Ok tt) (texted_key r now p key) → EmitsBy file f g k o (content_code p) (Ok tt) (texted_content r now p c) → EmitsOne file g d o l (part (node_end p)) → Whole (Ok tt) i
    node_emits b e f g m j k o held is start notes (x, xs, hx) (y, ys, hy) end =
        let same : holds_of y ≡ holds_of c = IfOk-at_ok (λ d. holds_of d ≡ holds_of c) ys (content_holds r now p c) in
        let started : EmitsOne file a b n m (part (node_start p kind (holds_of y))) = subst (λ h. EmitsOne file a b n m (part (node_start p kind h))) (is ∙ sym same) start in
        here (Ok tt) (
          node p kind ns x y,
          ap (λ q. q >>= (λ k. texted_content r now p c >>= (λ d. Ok (node p kind ns k d)))) xs ∙ ap (λ q. q >>= (λ d. Ok (node p kind ns x d))) ys,
          emits_then started (emits_then notes (emits_then hx (emits_then hy end))),
        )
