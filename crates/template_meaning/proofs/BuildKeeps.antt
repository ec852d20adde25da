-- What is built can be written: the documents of a template whose scalars and literals are what the program holds are
-- such, with distinct keys, and none nests deeper than it may.
use Rattle.std.proofs.Common.{◌≡◌, ℕ, suc, ◌-◌, ◌≤◌, Bool, true, false, nat_eq, if◌then◌else◌, List, [], ◌∷◌, length, Option, Some, None, IsTrue, IsUtf8, refl, arith, ◌++◌, bytes_eq}
use Rattle.ytt_base.specs.declared.fault.FaultKind.TheVariants as kind
use Rattle.ytt_base.specs.declared.fault.Place.{Place}
use Rattle.ytt_base.specs.Trees.{scalar, Tree, Trees, tree, IsScalar, IsTree, AreTrees, Writable, depth, is_null, max_depth}
use Rattle.star_spec.specs.Calls.{Code, of_lambda, of_def, Host, enter_code}
use Rattle.code_spec.specs.Code as code
use Rattle.code_spec.specs.Code.{Name, Expr, Exprs, no_exprs, an_expr, OptionalExpr, absent, present, Entries, no_entries, an_entry, Clauses, no_clauses, for_clause, if_clause, Pieces, no_pieces, text_piece, expr_piece, Parameters, no_parameters, required, defaulted, bare_star, starred_parameter, double_starred_parameter, LoadedNames, no_loaded, a_loaded, Statement, evaluate, assign, augment, load, return, break, continue, pass}
use Rattle.star_spec.specs.Flow.{Flow, on, out, Part, go_on, worded, plain, test_of}
use Rattle.star_spec.specs.Held.{HeldValue, HeldKey, HeldChildren, child_keys, keys_distinct, keys_apart, HeldExpr, HeldExprs, HeldOptional, HeldEntries, HeldClauses, HeldPieces, HeldParameters, HeldStatement, HeldIfAny, HeldStore}
use Rattle.code_spec.specs.Options.{or_else}
use Rattle.star_spec.specs.Lambdas.{only_if, Lambda, lambda_in, lambda_among, lambda_in_part, lambda_in_entries, lambda_in_clauses, lambda_in_pieces, lambda_in_parameters, lambda_in_statement, lambda_code}
use Rattle.star_spec.specs.Language.{Call, Language, Word, breaks, continues, returns, execute, define}
use Rattle.star_spec.specs.Names.{box_of}
use Rattle.value_spec.specs.Outcomes.{Computation}
use Rattle.code_spec.specs.Program.{ItemKind, document_item, pair_item, element_item}
use Rattle.value_spec.specs.Store.{object_at, box_at}
use Rattle.value_spec.specs.Values.{Value, child, Children, no_children, a_child, no_built, one, map_of, list_of, taken, Env, Store}
use Rattle.star_spec.proofs.CallsKeep.{LanguageKeeps, WordHeld, execute_keeps, define_keeps, HostKeeps, TableKeeps, apply_keeps}
use Rattle.star_spec.proofs.EvalKeeps.{CallKeeps, FlowHeld, over_keeps, boxes_keep, fill_keeps}
use Rattle.star_spec.proofs.Keeping.{Keeps, Anything, keeps_then, keeps_give, keeps_fail, keeps_paid, keeps_or_ill_formed, object_held, box_held, freeze_held}
use Rattle.template_meaning.specs.Build.{notes_meaning, key_meaning, unset, built, build, builds, choose, content}
use Rattle.template_meaning.specs.Calls.{result_of, level_of, enter_items, key_function, notes_function, function_of, function_among, branches_function, content_function, template_table, template_calls}
use Rattle.template_meaning.specs.Files.{Globals, Load, items_loads, Loader, private_among, value_among, value_loaded, names_loaded, unless_private, all_loads, bind_loaded, with_global, globals_in, FileResult, ended, File, nothing_to_load}
use Rattle.template_meaning.specs.Meaning.{Build, BuildFile, documents}
use Rattle.template_spec.specs.Names.{items_names}
use Rattle.value_spec.specs.Built.{body_tree}
use Rattle.template_spec.specs.Template.{Notes, no_notes, note, Key, no_key, written_key, key_from, Item, node, code as code_item, if_block, for_block, def_block, Items, no_items, an_item, Branches, no_branch, else_branch, elif_branch, Content, written_value, value_from, pairs, elements, is_void, fragment_kind}
use Rattle.template_meaning.proofs.TakeKeeps.{AreLow, low_trees, low_pairs, body_is_tree, HeldTaken, taken_keeps, key_taken_keeps, Good, taken_added}

-- ---- templates

abbrev pub HeldNotes : Notes → Type 0
HeldNotes no_notes = Unit {0}
HeldNotes (note p x es ns) = HeldExprs es × HeldNotes ns

abbrev pub HeldItemKey : Key → Type 0
HeldItemKey no_key = Unit {0}
HeldItemKey (written_key x) = IsScalar x
HeldItemKey (key_from e) = HeldExpr e

-- the scalars, the literals and the names of functions of a template are what the program holds, where so many collections stand
-- around its items, and no more than the greatest depth in all
abbrev mutual
  pub HeldItem : (n : ℕ) → Item → Type 0
  HeldItem n (node p k ns key c) = HeldNotes ns × HeldItemKey key × HeldContent n c
  HeldItem n (code_item s) = HeldStatement s
  HeldItem n (if_block p e body more) = HeldExpr e × HeldItems n body × HeldBranches n more
  HeldItem n (for_block p x e body) = HeldExpr x × HeldExpr e × HeldItems n body
  HeldItem n (def_block p number x ps k body) = IsUtf8 x × HeldParameters ps × HeldItems (level_of (fragment_kind k body)) body

  pub HeldItems : (n : ℕ) → Items → Type 0
  HeldItems n no_items = Unit {0}
  HeldItems n (an_item i is) = HeldItem n i × HeldItems n is

  pub HeldBranches : (n : ℕ) → Branches → Type 0
  HeldBranches n no_branch = Unit {0}
  HeldBranches n (else_branch p body) = HeldItems n body
  HeldBranches n (elif_branch p e body more) = HeldExpr e × HeldItems n body × HeldBranches n more

  pub HeldContent : (n : ℕ) → Content → Type 0
  HeldContent n (written_value x) = IsScalar x
  HeldContent n (value_from e) = HeldExpr e
  HeldContent n (pairs is) = (suc n ≤ max_depth) × HeldItems (suc n) is
  HeldContent n (elements is) = (suc n ≤ max_depth) × HeldItems (suc n) is

-- ---- flows

-- children of a collection with so many around it
abbrev GoodAt : ℕ → Children → Type 0
GoodAt n cs = Good (max_depth - n) cs

worded_held : {K : Type 0} (P : K → Type 0) (k : K) (w : Option Word) → P k → WordHeld w → FlowHeld P (worded k w)
worded_held P k None h g = h
worded_held P k (Some breaks) h g = h
worded_held P k (Some continues) h g = h
worded_held P k (Some (returns v)) h g = (g, h)

plain_keeps : {H K : Type 0} (P : K → Type 0) (m : Computation H (Option Word)) → Keeps WordHeld m → (k : K) → P k → Keeps (FlowHeld P) (plain m k)
plain_keeps P m h k g = keeps_then h (λ w i. keeps_give (worded k w) (worded_held P k w g i))

gone_keeps : {H K : Type 0} (P : K → Type 0) (b : Part H K) (f : Flow K) → FlowHeld P f → ((k : K) → P k → Keeps (FlowHeld P) (b k)) → Keeps (FlowHeld P) (go_on b f)
gone_keeps P b (on k) h m = m k h
gone_keeps P b (out w k) h m = keeps_give (out w k) h

flow_built : {K : Type 0} (P : K → Type 0) (f : Flow K) → FlowHeld P f → P (built f)
flow_built P (on k) h = h
flow_built P (out breaks k) h = h
flow_built P (out continues k) h = h
flow_built P (out (returns v) k) h = h.1

-- ---- collections

map_collected : (n : ℕ) (b : Bool) (cs : Children) → suc n ≤ max_depth → GoodAt (suc n) cs → HeldTaken (max_depth - n) (if b then unset else taken (map_of cs))
map_collected n true cs e g = (tt, omega arith)
map_collected n false cs e g = let low = low_pairs (max_depth - suc n) cs g.1 in ((g.0, g.2), omega (arith, e, low))

list_collected : (n : ℕ) (b : Bool) (cs : Children) → suc n ≤ max_depth → GoodAt (suc n) cs → HeldTaken (max_depth - n) (if b then unset else taken (list_of cs))
list_collected n true cs e g = (tt, omega arith)
list_collected n false cs e g = let low = low_trees (max_depth - suc n) cs g.1 in (g.0, omega (arith, e, low))

-- ---- building

choice_keeps : {H : Type 0} (n : ℕ) (b : Bool) (x y : Part H Children) → ((cs : Children) → GoodAt n cs → Keeps (FlowHeld (GoodAt n)) (x cs)) → ((cs : Children) → GoodAt n cs → Keeps (FlowHeld (GoodAt n)) (y cs)) → (cs : Children) → GoodAt n cs → Keeps (FlowHeld (GoodAt n)) ((if b then x else y) cs)
choice_keeps n true x y h k cs g = h cs g
choice_keeps n false x y h k cs g = k cs g

module _ {H : Type 0} (language : Language H) (keeps : LanguageKeeps language) (call : Call H) (calls : CallKeeps call) where
  notes_keep : (ns : Notes) (env : Env) → HeldNotes ns → Keeps Anything (notes_meaning language call ns env)
  notes_keep no_notes env h = keeps_give no_built tt
  notes_keep (note p x es ns) env h = keeps_then (keeps.arguments call calls es env h.0) (λ vs k. keeps_then (notes_keep ns env h.1) (λ more u. keeps_give _ tt))

  key_keeps : (p : Place) (key : Key) (env : Env) → HeldItemKey key → Keeps HeldKey (key_meaning language call p key env)
  key_keeps p no_key env h = keeps_give None tt
  key_keeps p (written_key x) env h = keeps_give (Some x) h
  key_keeps p (key_from e) env h = keeps_then (keeps.eval call calls e env h) (λ v k. key_taken_keeps p v k)

  test_keeps : (e : Expr) (env : Env) → HeldExpr e → Keeps Anything (test_of language call e env)
  test_keeps e env h = keeps_then (keeps.eval call calls e env h) (λ v k. keeps.truth v)

  mutual
    item_keeps : (n : ℕ) (i : Item) (env : Env) → HeldItem n i → (cs : Children) → GoodAt n cs → Keeps (FlowHeld (GoodAt n)) (build language call n i env cs)
    item_keeps n (node p k ns key c) env h cs g =
        keeps_paid 1 p (keeps_then (notes_keep ns env h.0) (λ notes u. keeps_then (key_keeps p key env h.1) (λ x i. keeps_then (content_keeps n p k c env h.2) (λ got j.
        keeps_then (taken_added (max_depth - n) cs p notes x got g i j) (λ all d. keeps_give (on all) d)))))
    item_keeps n (code_item s) env h cs g = plain_keeps (GoodAt n) (execute language call s env) (execute_keeps language keeps call calls s env h) cs g
    item_keeps n (if_block p e body more) env h cs g =
        keeps_paid 1 p (keeps_then (test_keeps e env h.0) (λ v u. choice_keeps n v (builds language call n body env) (choose language call n more env) (λ ds d. items_keep n body env h.1 ds d) (λ ds d. branches_keep n more env h.2 ds d) cs g))
    item_keeps n (for_block p x e body) env h cs g =
        keeps_paid 1 p (keeps_then (keeps.eval call calls e env h.1) (λ v k. over_keeps (GoodAt n) p (language.members p v) (λ w. language.assign call p x w env) v (builds language call n body env) (keeps.members p v k) (λ w j. keeps.assign call calls p x w env h.0 j) (λ ds d. items_keep n body env h.2 ds d) cs g))
    item_keeps n (def_block p m x ps k body) env h cs g = plain_keeps (GoodAt n) (define language call p m x ps env) (define_keeps language keeps call calls p m x ps env h.0 h.1) cs g

    pub items_keep : (n : ℕ) (t : Items) (env : Env) → HeldItems n t → (cs : Children) → GoodAt n cs → Keeps (FlowHeld (GoodAt n)) (builds language call n t env cs)
    items_keep n no_items env h cs g = keeps_give (on cs) g
    items_keep n (an_item i is) env h cs g = keeps_then (item_keeps n i env h.0 cs g) (λ f k. gone_keeps (GoodAt n) (builds language call n is env) f k (λ ds d. items_keep n is env h.1 ds d))

    branches_keep : (n : ℕ) (b : Branches) (env : Env) → HeldBranches n b → (cs : Children) → GoodAt n cs → Keeps (FlowHeld (GoodAt n)) (choose language call n b env cs)
    branches_keep n no_branch env h cs g = keeps_give (on cs) g
    branches_keep n (else_branch p body) env h cs g = items_keep n body env h cs g
    branches_keep n (elif_branch p e body more) env h cs g =
        keeps_then (test_keeps e env h.0) (λ v u. choice_keeps n v (builds language call n body env) (choose language call n more env) (λ ds d. items_keep n body env h.1 ds d) (λ ds d. branches_keep n more env h.2 ds d) cs g)

    content_keeps : (n : ℕ) (p : Place) (k : ItemKind) (c : Content) (env : Env) → HeldContent n c → Keeps (HeldTaken (max_depth - n)) (content language call n p k c env)
    content_keeps n p k (written_value x) env h = keeps_give (taken (one (scalar x))) (h, omega arith)
    content_keeps n p k (value_from e) env h = keeps_then (keeps.eval call calls e env h) (λ v g. taken_keeps p k n v g)
    content_keeps n p k (pairs is) env h = keeps_then (items_keep (suc n) is env h.1 no_children (tt, tt, refl)) (λ f g. keeps_give _ (map_collected n (is_void is) (built f) h.0 (flow_built (GoodAt (suc n)) f g)))
    content_keeps n p k (elements is) env h = keeps_then (items_keep (suc n) is env h.1 no_children (tt, tt, refl)) (λ f g. keeps_give _ (list_collected n (is_void is) (built f) h.0 (flow_built (GoodAt (suc n)) f g)))

-- ---- functions

abbrev HeldLambda : Option Lambda → Type 0
HeldLambda None = Unit {0}
HeldLambda (Some l) = HeldExpr l.body

one_of : (a b : Option Lambda) → HeldLambda a → HeldLambda b → HeldLambda (or_else a b)
one_of None b h k = k
one_of (Some l) b h k = h

this_one : (b : Bool) (l : Lambda) → HeldExpr l.body → HeldLambda (only_if b l)
this_one true l h = h
this_one false l h = tt

mutual
  lambda_held : (k : ℕ) (e : Expr) → HeldExpr e → HeldLambda (lambda_in k e)
  lambda_held k (code.int p n) h = tt
  lambda_held k (code.text p t) h = tt
  lambda_held k (code.name p x) h = tt
  lambda_held k (code.list p es) h = among_held k es h
  lambda_held k (code.tuple p es) h = among_held k es h
  lambda_held k (code.dict p es) h = entries_held k es h
  lambda_held k (code.unary p o a) h = lambda_held k a h
  lambda_held k (code.binary p o a b) h = one_of (lambda_in k a) (lambda_in k b) (lambda_held k a h.0) (lambda_held k b h.1)
  lambda_held k (code.conjunction p a b) h = one_of (lambda_in k a) (lambda_in k b) (lambda_held k a h.0) (lambda_held k b h.1)
  lambda_held k (code.disjunction p a b) h = one_of (lambda_in k a) (lambda_in k b) (lambda_held k a h.0) (lambda_held k b h.1)
  lambda_held k (code.conditional p c a b) h = one_of (lambda_in k a) _ (lambda_held k a h.1) (one_of (lambda_in k c) (lambda_in k b) (lambda_held k c h.0) (lambda_held k b h.2))
  lambda_held k (code.call p f es) h = one_of (lambda_in k f) (lambda_among k es) (lambda_held k f h.0) (among_held k es h.1)
  lambda_held k (code.named p x e) h = lambda_held k e h.1
  lambda_held k (code.starred p e) h = lambda_held k e h
  lambda_held k (code.double_starred p e) h = lambda_held k e h
  lambda_held k (code.index p a i) h = one_of (lambda_in k a) (lambda_in k i) (lambda_held k a h.0) (lambda_held k i h.1)
  lambda_held k (code.slice p a l g d) h = one_of (lambda_in k a) _ (lambda_held k a h.0) (one_of (lambda_in_part k l) _ (part_held k l h.1) (one_of (lambda_in_part k g) (lambda_in_part k d) (part_held k g h.2) (part_held k d h.3)))
  lambda_held k (code.attribute p a x) h = lambda_held k a h
  lambda_held k (code.lambda p n ps e) h = one_of (only_if (nat_eq k n) _) _ (this_one (nat_eq k n) _ h.1) (one_of (lambda_in_parameters k ps) (lambda_in k e) (parameters_held k ps h.0) (lambda_held k e h.1))
  lambda_held k (code.list_comprehension p e cs) h = one_of (lambda_in k e) (lambda_in_clauses k cs) (lambda_held k e h.0) (clauses_held k cs h.1)
  lambda_held k (code.dict_comprehension p a b cs) h = one_of (lambda_in k a) _ (lambda_held k a h.0) (one_of (lambda_in k b) (lambda_in_clauses k cs) (lambda_held k b h.1) (clauses_held k cs h.2))
  lambda_held k (code.text_template p ps) h = pieces_held k ps h

  among_held : (k : ℕ) (es : Exprs) → HeldExprs es → HeldLambda (lambda_among k es)
  among_held k no_exprs h = tt
  among_held k (an_expr e es) h = one_of (lambda_in k e) (lambda_among k es) (lambda_held k e h.0) (among_held k es h.1)

  part_held : (k : ℕ) (o : OptionalExpr) → HeldOptional o → HeldLambda (lambda_in_part k o)
  part_held k absent h = tt
  part_held k (present e) h = lambda_held k e h

  entries_held : (k : ℕ) (es : Entries) → HeldEntries es → HeldLambda (lambda_in_entries k es)
  entries_held k no_entries h = tt
  entries_held k (an_entry a b es) h = one_of (lambda_in k a) _ (lambda_held k a h.0) (one_of (lambda_in k b) (lambda_in_entries k es) (lambda_held k b h.1) (entries_held k es h.2))

  clauses_held : (k : ℕ) (cs : Clauses) → HeldClauses cs → HeldLambda (lambda_in_clauses k cs)
  clauses_held k no_clauses h = tt
  clauses_held k (for_clause x e cs) h = one_of (lambda_in k x) _ (lambda_held k x h.0) (one_of (lambda_in k e) (lambda_in_clauses k cs) (lambda_held k e h.1) (clauses_held k cs h.2))
  clauses_held k (if_clause e cs) h = one_of (lambda_in k e) (lambda_in_clauses k cs) (lambda_held k e h.0) (clauses_held k cs h.1)

  pieces_held : (k : ℕ) (ps : Pieces) → HeldPieces ps → HeldLambda (lambda_in_pieces k ps)
  pieces_held k no_pieces h = tt
  pieces_held k (text_piece t ps) h = pieces_held k ps h.1
  pieces_held k (expr_piece e ps) h = one_of (lambda_in k e) (lambda_in_pieces k ps) (lambda_held k e h.0) (pieces_held k ps h.1)

  parameters_held : (k : ℕ) (ps : Parameters) → HeldParameters ps → HeldLambda (lambda_in_parameters k ps)
  parameters_held k no_parameters h = tt
  parameters_held k (required x ps) h = parameters_held k ps h
  parameters_held k (defaulted x e ps) h = one_of (lambda_in k e) (lambda_in_parameters k ps) (lambda_held k e h.0) (parameters_held k ps h.1)
  parameters_held k (bare_star ps) h = parameters_held k ps h
  parameters_held k (starred_parameter x ps) h = parameters_held k ps h
  parameters_held k (double_starred_parameter x ps) h = parameters_held k ps h

statement_lambda : (k : ℕ) (s : Statement) → HeldStatement s → HeldLambda (lambda_in_statement k s)
statement_lambda k (evaluate p e) h = lambda_held k e h
statement_lambda k (assign p x e) h = one_of (lambda_in k x) (lambda_in k e) (lambda_held k x h.0) (lambda_held k e h.1)
statement_lambda k (augment p o q x e) h = one_of (lambda_in k x) (lambda_in k e) (lambda_held k x h.0) (lambda_held k e h.1)
statement_lambda k (load p path xs) h = tt
statement_lambda k (return p e) h = lambda_held k e h
statement_lambda k (break p) h = tt
statement_lambda k (continue p) h = tt
statement_lambda k (pass p) h = tt

-- the code of a function holds what the program does
abbrev HeldCode : Option (Code Items) → Type 0
HeldCode None = Unit {0}
HeldCode (Some (of_lambda ps e)) = HeldExpr e
HeldCode (Some (of_def ps fragment t)) = HeldItems (level_of fragment) t

either_code : (a b : Option (Code Items)) → HeldCode a → HeldCode b → HeldCode (or_else a b)
either_code None b h k = k
either_code (Some (of_lambda ps e)) b h k = h
either_code (Some (of_def ps fragment t)) b h k = h

of_held : (o : Option Lambda) → HeldLambda o → HeldCode (lambda_code o)
of_held None h = tt
of_held (Some l) h = h

this_def : (b : Bool) (ps : Parameters) (fragment : Option ItemKind) (t : Items) → HeldItems (level_of fragment) t → HeldCode (only_if b (of_def ps fragment t))
this_def true ps fragment t h = h
this_def false ps fragment t h = tt

notes_code_held : (k : ℕ) (ns : Notes) → HeldNotes ns → HeldCode (notes_function k ns)
notes_code_held k no_notes h = tt
notes_code_held k (note p x es ns) h = either_code (lambda_code (lambda_among k es)) (notes_function k ns) (of_held (lambda_among k es) (among_held k es h.0)) (notes_code_held k ns h.1)

key_code_held : (k : ℕ) (key : Key) → HeldItemKey key → HeldCode (key_function k key)
key_code_held k no_key h = tt
key_code_held k (written_key x) h = tt
key_code_held k (key_from e) h = of_held (lambda_in k e) (lambda_held k e h)

mutual
  item_code_held : (k n : ℕ) (i : Item) → HeldItem n i → HeldCode (function_of k i)
  item_code_held k n (node p j ns key c) h = either_code (notes_function k ns) _ (notes_code_held k ns h.0) (either_code (key_function k key) (content_function k c) (key_code_held k key h.1) (content_code_held k n c h.2))
  item_code_held k n (code_item s) h = of_held (lambda_in_statement k s) (statement_lambda k s h)
  item_code_held k n (if_block p e body more) h = either_code (lambda_code (lambda_in k e)) _ (of_held (lambda_in k e) (lambda_held k e h.0)) (either_code (function_among k body) (branches_function k more) (items_code_held k n body h.1) (branches_code_held k n more h.2))
  item_code_held k n (for_block p x e body) h = either_code (lambda_code (lambda_in k x)) _ (of_held (lambda_in k x) (lambda_held k x h.0)) (either_code (lambda_code (lambda_in k e)) (function_among k body) (of_held (lambda_in k e) (lambda_held k e h.1)) (items_code_held k n body h.2))
  item_code_held k n (def_block p m x ps j body) h =
      either_code (only_if (nat_eq k m) (of_def ps (fragment_kind j body) body)) _ (this_def (nat_eq k m) ps (fragment_kind j body) body h.2)
      (either_code (lambda_code (lambda_in_parameters k ps)) (function_among k body) (of_held (lambda_in_parameters k ps) (parameters_held k ps h.1)) (items_code_held k (level_of (fragment_kind j body)) body h.2))

  items_code_held : (k n : ℕ) (t : Items) → HeldItems n t → HeldCode (function_among k t)
  items_code_held k n no_items h = tt
  items_code_held k n (an_item i is) h = either_code (function_of k i) (function_among k is) (item_code_held k n i h.0) (items_code_held k n is h.1)

  branches_code_held : (k n : ℕ) (b : Branches) → HeldBranches n b → HeldCode (branches_function k b)
  branches_code_held k n no_branch h = tt
  branches_code_held k n (else_branch p body) h = items_code_held k n body h
  branches_code_held k n (elif_branch p e body more) h = either_code (lambda_code (lambda_in k e)) _ (of_held (lambda_in k e) (lambda_held k e h.0)) (either_code (function_among k body) (branches_function k more) (items_code_held k n body h.1) (branches_code_held k n more h.2))

  content_code_held : (k n : ℕ) (c : Content) → HeldContent n c → HeldCode (content_function k c)
  content_code_held k n (written_value x) h = tt
  content_code_held k n (value_from e) h = of_held (lambda_in k e) (lambda_held k e h)
  content_code_held k n (pairs is) h = items_code_held k (suc n) is h.1
  content_code_held k n (elements is) h = items_code_held k (suc n) is h.1

-- children whose keys are distinct are so in a fragment of each kind
keys_stay_apart : (k : ItemKind) (cs : Children) → IsTrue (keys_distinct (child_keys cs)) → IsTrue (keys_apart k cs)
keys_stay_apart pair_item cs h = h
keys_stay_apart document_item cs h = refl
keys_stay_apart element_item cs h = refl

-- the value that a call gives
result_held : (fragment : Option ItemKind) (n : ℕ) (f : Flow Children) → FlowHeld (GoodAt n) f → HeldValue (result_of fragment f)
result_held (Some k) n f h = let g = flow_built (GoodAt n) f h in (g.0, keys_stay_apart k (built f) g.2)
result_held None n (on cs) h = tt
result_held None n (out breaks cs) h = tt
result_held None n (out continues cs) h = tt
result_held None n (out (returns v) cs) h = h.0

module _ {H : Type 0} (language : Language H) (keeps : LanguageKeeps language) (files : ℕ → Items) (held : (f : ℕ) → HeldItems 0 (files f)) where
  code_keeps : (call : Call H) → CallKeeps call → (o : Option (Code Items)) (c : Code Items) → HeldCode o → o ≡ Some c → (env : Env) → Keeps HeldValue (enter_code language (enter_items language) call c env)
  code_keeps call calls None c h e env = cc
  code_keeps call calls (Some (of_lambda ps b)) c h e env = let same : of_lambda ps b ≡ c = cc in rw (← same) (keeps.eval call calls b env h)
  code_keeps call calls (Some (of_def ps fragment t)) c h e env =
      let same : of_def ps fragment t ≡ c = cc in rw (← same) (keeps_then (items_keep language keeps call calls (level_of fragment) t env h no_children (tt, tt, refl)) (λ f g. keeps_give {P = HeldValue} (result_of fragment f) (result_held fragment (level_of fragment) f g)))

  table_keeps : TableKeeps language keeps (enter_items language) (template_table files)
  table_keeps = record { by = λ call calls file number c e env. code_keeps call calls (template_table files file number) c (items_code_held number 0 (files file) (held file)) e env }

  pub calls_keep : (host : Host H) → HostKeeps host → (d : ℕ) → CallKeeps (template_calls language host files d)
  calls_keep host hosts d = apply_keeps language keeps host hosts items_names (enter_items language) (template_table files) table_keeps d

  -- ---- files

  pub items_build : (host : Host H) → HostKeeps host → (d : ℕ) (t : Items) (env : Env) → HeldItems 0 t → Keeps (GoodAt 0) (Build language (template_calls language host files d) t env)
  items_build host hosts d t env h = keeps_then (items_keep language keeps (template_calls language host files d) (calls_keep host hosts d) 0 t env h no_children (tt, tt, refl)) (λ f g. keeps_give (built f) (flow_built (GoodAt 0) f g))

-- ---- loading

abbrev pub HeldGlobals : Globals → Type 0
HeldGlobals [] = Unit {0}
HeldGlobals (g ∷ gs) = HeldValue g.1 × HeldGlobals gs

-- what is loaded is what the program holds
pub record LoaderKeeps {H : Type 0} (loader : Loader H) : Type 0 where
  pub by : (p : Place) (path : List ℕ) → Keeps HeldGlobals (loader p path)

pub nothing_keeps : {H : Type 0} → LoaderKeeps {H = H} nothing_to_load
nothing_keeps = record { by = λ p path. keeps_fail kind.LoadMissing p path }

global_if : (b : Bool) (x y : Option Value) → HeldIfAny x → HeldIfAny y → HeldIfAny (if b then x else y)
global_if true x y h k = h
global_if false x y h k = k

among_globals : (x : Name) (gs : Globals) → HeldGlobals gs → HeldIfAny (value_among x gs)
among_globals x [] h = tt
among_globals x (g ∷ gs) h = global_if (bytes_eq g.0 x) (Some g.1) (value_among x gs) h.0 (among_globals x gs h.1)

loaded_keeps : {H : Type 0} (p : Place) (x : Name) (o : Option Value) → HeldIfAny o → Keeps {H = H} HeldValue (value_loaded p x o)
loaded_keeps p x None h = keeps_fail kind.LoadMissing p x
loaded_keeps p x (Some v) h = keeps_give v h

names_keep : {H : Type 0} (p : Place) (gs : Globals) (xs : LoadedNames) → HeldGlobals gs → Keeps {H = H} HeldGlobals (names_loaded p gs xs)
names_keep p gs no_loaded h = keeps_give [] tt
names_keep p gs (a_loaded x origin xs) h = keeps_then (loaded_keeps p origin (value_among origin gs) (among_globals origin gs h)) (λ v k. keeps_then (names_keep p gs xs h) (λ more g. keeps_give ((x, v) ∷ more) (k, g)))

public_keeps : {H A : Type 0} {P : A → Type 0} {m : Computation H A} (p : Place) (o : Option Name) → Keeps P m → Keeps P (unless_private p o m)
public_keeps p None h = h
public_keeps p (Some x) h = keeps_fail kind.LoadPrivate p x

more_globals : (gs hs : Globals) → HeldGlobals gs → HeldGlobals hs → HeldGlobals (gs ++ hs)
more_globals [] hs h k = k
more_globals (g ∷ gs) hs h k = (h.0, more_globals gs hs h.1 k)

loads_keep : {H : Type 0} (loader : Loader H) → LoaderKeeps loader → (ls : List Load) → Keeps HeldGlobals (all_loads loader ls)
loads_keep loader keeps [] = keeps_give [] tt
loads_keep loader keeps (l ∷ ls) =
    keeps_then (public_keeps l.place (private_among l.names) (keeps_then (keeps.by l.place l.path) (λ gs h. names_keep l.place gs l.names h)))
    (λ gs h. keeps_then (loads_keep loader keeps ls) (λ more k. keeps_give (gs ++ more) (more_globals gs more h k)))

bound_keep : {H : Type 0} (gs : Globals) (env : Env) → HeldGlobals gs → Keeps {H = H} Anything (bind_loaded gs env)
bound_keep [] env h = keeps_give tt tt
bound_keep (g ∷ gs) env h = keeps_then (keeps_or_ill_formed {P = Anything} (box_of g.0 env) (λ r e. tt)) (λ r u. keeps_then (fill_keeps r g.1 h.0) (λ v t. bound_keep gs env h.1))

global_held : (x : Name) (o : Option Value) (gs : Globals) → HeldIfAny o → HeldGlobals gs → HeldGlobals (with_global x o gs)
global_held x None gs h k = k
global_held x (Some v) gs h k = (h, k)

globals_held : (store : Store) (env : Env) → HeldStore store → HeldGlobals (globals_in store env)
globals_held store [] h = tt
globals_held store (b ∷ env) h = global_held b.0 (box_at b.1 store) (globals_in store env) (box_held (object_at b.1 store) (object_held store b.1 h)) (globals_held store env h)

-- what a file gives
abbrev pub HeldResult : FileResult → Type 0
HeldResult r = GoodAt 0 r.documents × HeldGlobals r.globals

ended_keeps : {H : Type 0} (before : ℕ) (env : Env) (cs : Children) → GoodAt 0 cs → Keeps {H = H} HeldResult (ended before env cs)
ended_keeps before env cs h = record { by = λ s held. ((h, globals_held s.store env held), freeze_held before s.store held) }

pub file_keeps : {H : Type 0} (loader : Loader H) → LoaderKeeps loader → (loads : List Load) (names : List Name) (meaning : Env → Computation H Children) → ((env : Env) → Keeps (GoodAt 0) (meaning env)) → Keeps HeldResult (File loader loads names meaning)
file_keeps loader keeps loads names meaning h = record {
  by = λ s held. (keeps_then (loads_keep loader keeps loads) (λ gs i. keeps_then (boxes_keep names []) (λ env u. keeps_then (bound_keep gs env i) (λ v t. keeps_then (h env) (λ cs g. ended_keeps (length s.store) env cs g))))).by s held;
}

-- a file whose template holds what the program does gives such documents and names
pub built_keeps : {H : Type 0} (language : Language H) → LanguageKeeps language → (host : Host H) → HostKeeps host → (loader : Loader H) → LoaderKeeps loader → (files : ℕ → Items) → ((f : ℕ) → HeldItems 0 (files f)) → (d : ℕ) (t : Items) → HeldItems 0 t
    → Keeps HeldResult (BuildFile language host loader files d t)
built_keeps language keeps host hosts loader loaders files held d t h =
    file_keeps loader loaders (items_loads t) (items_names t) (Build language (template_calls language host files d) t) (λ env. items_build language keeps files held host hosts d t env h)

-- ---- documents

written_if : (b : Bool) (t : Tree) (ts : Trees) → is_null t ≡ b → IsTree t → depth t ≤ max_depth → AreTrees ts × Writable ts → AreTrees (if b then ts else tree t ts) × Writable (if b then ts else tree t ts)
written_if true t ts e h l r = r
written_if false t ts e h l r = ((h, r.0), (e, l, r.1))

pub documents_written : (cs : Children) → GoodAt 0 cs → AreTrees (documents cs) × Writable (documents cs)
documents_written cs g = by_children cs g.0 g.1
  where
    by_children : (cs : Children) → HeldChildren cs → AreLow max_depth cs → AreTrees (documents cs) × Writable (documents cs)
    by_children no_children h l = (tt, tt)
    by_children (a_child (child p ns x b) cs) h l = written_if (is_null (body_tree b)) (body_tree b) (documents cs) refl (body_is_tree b h.0.1) l.0 (by_children cs h.1 l.1)
