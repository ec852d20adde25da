-- The scalars and literals of a template are what the program holds also when its functions have their numbers.
use Rattle.std.proofs.Common.{◌≡◌, ℕ, suc, Some, None, if◌then◌else◌, sym, subst}
use Rattle.code_spec.specs.Code as expr
use Rattle.code_spec.specs.Code.{Expr, Exprs, no_exprs, an_expr, OptionalExpr, absent, present, Entries, no_entries, an_entry, Clauses, no_clauses, for_clause, if_clause, Pieces, no_pieces, text_piece, expr_piece, Parameters, no_parameters, required, defaulted, bare_star, starred_parameter, double_starred_parameter, Statement, evaluate, assign, augment, load, return, break, continue, pass}
use Rattle.code_spec.specs.Numbering.{number_expr, number_exprs, number_optional, number_entries, number_clauses, number_pieces, number_parameters, number_statement}
use Rattle.code_spec.specs.Program.{ItemKind}
use Rattle.star_spec.specs.Held.{HeldExpr, HeldExprs, HeldOptional, HeldEntries, HeldClauses, HeldPieces, HeldParameters, HeldStatement}
use Rattle.template_meaning.specs.Calls.{level_of}
use Rattle.template_spec.specs.Numbered.{number_notes, number_key, number_item, number_items, number_branches, number_content, numbered}
use Rattle.template_spec.specs.Template.{Notes, no_notes, note, Key, no_key, written_key, key_from, Item, node, code, if_block, for_block, def_block, Items, no_items, an_item, Branches, no_branch, else_branch, elif_branch, Content, written_value, value_from, pairs, elements, fragment_kind}
use Rattle.template_meaning.proofs.BuildKeeps.{HeldNotes, HeldItemKey, HeldItem, HeldItems, HeldBranches, HeldContent}
use Rattle.template_spec.proofs.Numbers.{items_nodes}

-- ---- code

mutual
  pub held_expr : (e : Expr) (n : ℕ) → HeldExpr e → HeldExpr (number_expr e n).result
  held_expr (expr.int p z) n h = h
  held_expr (expr.text p t) n h = h
  held_expr (expr.name p x) n h = tt
  held_expr (expr.list p es) n h = held_exprs es n h
  held_expr (expr.tuple p es) n h = held_exprs es n h
  held_expr (expr.dict p es) n h = held_entries es n h
  held_expr (expr.unary p o a) n h = held_expr a n h
  held_expr (expr.binary p o a b) n h = (held_expr a n h.0, held_expr b (number_expr a n).next h.1)
  held_expr (expr.conjunction p a b) n h = (held_expr a n h.0, held_expr b (number_expr a n).next h.1)
  held_expr (expr.disjunction p a b) n h = (held_expr a n h.0, held_expr b (number_expr a n).next h.1)
  held_expr (expr.conditional p c a b) n h =
      let m = (number_expr a n).next in (held_expr c m h.0, held_expr a n h.1, held_expr b (number_expr c m).next h.2)
  held_expr (expr.call p f es) n h = (held_expr f n h.0, held_exprs es (number_expr f n).next h.1)
  held_expr (expr.named p x e) n h = (h.0, held_expr e n h.1)
  held_expr (expr.starred p e) n h = held_expr e n h
  held_expr (expr.double_starred p e) n h = held_expr e n h
  held_expr (expr.index p a i) n h = (held_expr a n h.0, held_expr i (number_expr a n).next h.1)
  held_expr (expr.slice p a l u d) n h =
      let m = (number_expr a n).next in
      let k = (number_optional l m).next in
      (held_expr a n h.0, held_optional l m h.1, held_optional u k h.2, held_optional d (number_optional u k).next h.3)
  held_expr (expr.attribute p a x) n h = held_expr a n h
  held_expr (expr.lambda p k ps e) n h = (held_parameters ps (suc n) h.0, held_expr e (number_parameters ps (suc n)).next h.1)
  held_expr (expr.list_comprehension p e cs) n h = (held_expr e n h.0, held_clauses cs (number_expr e n).next h.1)
  held_expr (expr.dict_comprehension p a b cs) n h =
      let m = (number_expr a n).next in (held_expr a n h.0, held_expr b m h.1, held_clauses cs (number_expr b m).next h.2)
  held_expr (expr.text_template p ps) n h = held_pieces ps n h

  held_exprs : (es : Exprs) (n : ℕ) → HeldExprs es → HeldExprs (number_exprs es n).result
  held_exprs no_exprs n h = tt
  held_exprs (an_expr e es) n h = (held_expr e n h.0, held_exprs es (number_expr e n).next h.1)

  held_optional : (o : OptionalExpr) (n : ℕ) → HeldOptional o → HeldOptional (number_optional o n).result
  held_optional absent n h = tt
  held_optional (present e) n h = held_expr e n h

  held_entries : (es : Entries) (n : ℕ) → HeldEntries es → HeldEntries (number_entries es n).result
  held_entries no_entries n h = tt
  held_entries (an_entry a b es) n h =
      let m = (number_expr a n).next in (held_expr a n h.0, held_expr b m h.1, held_entries es (number_expr b m).next h.2)

  held_clauses : (cs : Clauses) (n : ℕ) → HeldClauses cs → HeldClauses (number_clauses cs n).result
  held_clauses no_clauses n h = tt
  held_clauses (for_clause x e cs) n h =
      let m = (number_expr x n).next in (held_expr x n h.0, held_expr e m h.1, held_clauses cs (number_expr e m).next h.2)
  held_clauses (if_clause e cs) n h = (held_expr e n h.0, held_clauses cs (number_expr e n).next h.1)

  held_pieces : (ps : Pieces) (n : ℕ) → HeldPieces ps → HeldPieces (number_pieces ps n).result
  held_pieces no_pieces n h = tt
  held_pieces (text_piece t ps) n h = (h.0, held_pieces ps n h.1)
  held_pieces (expr_piece e ps) n h = (held_expr e n h.0, held_pieces ps (number_expr e n).next h.1)

  pub held_parameters : (ps : Parameters) (n : ℕ) → HeldParameters ps → HeldParameters (number_parameters ps n).result
  held_parameters no_parameters n h = tt
  held_parameters (required x ps) n h = held_parameters ps n h
  held_parameters (defaulted x e ps) n h = (held_expr e n h.0, held_parameters ps (number_expr e n).next h.1)
  held_parameters (bare_star ps) n h = held_parameters ps n h
  held_parameters (starred_parameter x ps) n h = held_parameters ps n h
  held_parameters (double_starred_parameter x ps) n h = held_parameters ps n h

pub held_statement : (s : Statement) (n : ℕ) → HeldStatement s → HeldStatement (number_statement s n).result
held_statement (evaluate p e) n h = held_expr e n h
held_statement (assign p x e) n h = (held_expr x n h.0, held_expr e (number_expr x n).next h.1)
held_statement (augment p o q x e) n h = (held_expr x n h.0, held_expr e (number_expr x n).next h.1)
held_statement (load p path xs) n h = tt
held_statement (return p e) n h = held_expr e n h
held_statement (break p) n h = tt
held_statement (continue p) n h = tt
held_statement (pass p) n h = tt

-- ---- templates

held_notes : (ns : Notes) (n : ℕ) → HeldNotes ns → HeldNotes (number_notes ns n).result
held_notes no_notes n h = tt
held_notes (note p x es ns) n h = (held_exprs es n h.0, held_notes ns (number_exprs es n).next h.1)

held_key : (key : Key) (n : ℕ) → HeldItemKey key → HeldItemKey (number_key key n).result
held_key no_key n h = tt
held_key (written_key x) n h = h
held_key (key_from e) n h = held_expr e n h

-- so many collections stand around the items of a function
level_same : (kind : ItemKind) (t : Items) (n : ℕ) → level_of (fragment_kind kind (number_items t n).result) ≡ level_of (fragment_kind kind t)
level_same kind t n = λ j. level_of (if items_nodes t n j then Some kind else None)

mutual
  held_item : (m : ℕ) (i : Item) (n : ℕ) → HeldItem m i → HeldItem m (number_item i n).result
  held_item m (node p k ns key c) n h =
      let a = (number_notes ns n).next in (held_notes ns n h.0, held_key key a h.1, held_content m c (number_key key a).next h.2)
  held_item m (code s) n h = held_statement s n h
  held_item m (if_block p e body more) n h =
      let a = (number_expr e n).next in (held_expr e n h.0, held_items m body a h.1, held_branches m more (number_items body a).next h.2)
  held_item m (for_block p x e body) n h =
      let a = (number_expr x n).next in (held_expr x n h.0, held_expr e a h.1, held_items m body (number_expr e a).next h.2)
  held_item m (def_block p k x ps kind body) n h =
      let a = (number_parameters ps (suc n)).next in
      (h.0, held_parameters ps (suc n) h.1, subst (λ l. HeldItems l (number_items body a).result) (sym (level_same kind body a)) (held_items (level_of (fragment_kind kind body)) body a h.2))

  held_items : (m : ℕ) (t : Items) (n : ℕ) → HeldItems m t → HeldItems m (number_items t n).result
  held_items m no_items n h = tt
  held_items m (an_item i is) n h = (held_item m i n h.0, held_items m is (number_item i n).next h.1)

  held_branches : (m : ℕ) (b : Branches) (n : ℕ) → HeldBranches m b → HeldBranches m (number_branches b n).result
  held_branches m no_branch n h = tt
  held_branches m (else_branch p body) n h = held_items m body n h
  held_branches m (elif_branch p e body more) n h =
      let a = (number_expr e n).next in (held_expr e n h.0, held_items m body a h.1, held_branches m more (number_items body a).next h.2)

  held_content : (m : ℕ) (c : Content) (n : ℕ) → HeldContent m c → HeldContent m (number_content c n).result
  held_content m (written_value x) n h = h
  held_content m (value_from e) n h = held_expr e n h
  held_content m (pairs is) n h = (h.0, held_items (suc m) is n h.1)
  held_content m (elements is) n h = (h.0, held_items (suc m) is n h.1)

pub numbered_held : (t : Items) → HeldItems 0 t → HeldItems 0 (numbered t)
numbered_held t h = held_items 0 t 0 h
