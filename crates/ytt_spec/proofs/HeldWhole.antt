-- The scalars and the literals of a template are what the program holds, where those of its documents are and its code is read
-- as such; and its collections nest no deeper than theirs.
use Rattle.std.proofs.Common.{◌≡◌, ℕ, suc, ◌+◌, ◌≤◌, Bool, true, false, ◌&&◌, ◌==◌, bytes_eq, if◌then◌else◌, List, [], ◌∷◌, ◌++◌, Option, Some, None, refl, ap, arith}
use Rattle.std.specs.Prelude.{max, unwrap_or}
use Rattle.std.specs.Result.{IfOk}
use Rattle.ytt_base.specs.declared.fault.Place.{Place}
use Rattle.ytt_base.specs.declared.fault.Fault.{Fault}
use Rattle.ytt_base.specs.Outcomes.{◌>>=◌, place_at}
use Rattle.ytt_base.specs.Trees.{Scalar, null, scalar, IsScalar, depth, max_depth, pairs_depth, trees_depth}
use Rattle.ytt_laws.proofs.Yielded.{yielded_then}
use Rattle.yaml_spec.specs.Noted as noted
use Rattle.yaml_spec.specs.Noted.{Note, Documents, noted_scalar, noted_list, noted_map, bare_pairs, bare_tree, bare_trees, key_of}
use Rattle.yaml_held.proofs.Held.{Held, AreHeld}
use Rattle.yaml_held.proofs.HeldDocuments.{DocumentsHeld}
use Rattle.yaml_held.proofs.Shallow.{DocumentsShallow}
use Rattle.code_spec.specs.Code.{Expr}
use Rattle.code_spec.specs.CodeReading.{CodeReader, Header, if_header, for_header, def_header}
use Rattle.star_spec.specs.Held.{HeldExpr}
use Rattle.code_spec.specs.Names.{language_names}
use Rattle.code_spec.specs.Program.{ItemKind, document_item, element_item, pair_item, Instruction, statement}
use Rattle.code_spec.specs.Scopes.{Use, unknown_first}
use Rattle.template_spec.specs.Comments.{Said, a_note, a_value, statements, opens, elif, otherwise, closes}
use Rattle.template_spec.specs.Events.{Event, begins, beside, says, Path, events}
use Rattle.template_spec.specs.Misplaced.{placing_fault}
use Rattle.template_spec.specs.Names.{items_names}
use Rattle.template_spec.specs.Nesting.{Mark, Nested, broken, at_top, inside, Part, a_node, a_mark, around_one, block_of, content, events_at, key_part, last_branch, mark, marks, marks_at, nest, nest_said, next_branch, node_at, note_beside, notes_from, open_block, parts, placed_or, placed_whole, put, put_block, put_statements, template_of, value_beside, value_or, whole}
use Rattle.passes_spec.specs.Passes.{all_built, bound, template_passed, texts_passed, unless_unbuilt, unless_unknown}
use Rattle.template_spec.specs.Template.{Notes, no_notes, note, Item, node, code, if_block, for_block, def_block, Items, no_items, an_item, Branches, no_branch, else_branch, elif_branch, Content, written_value, value_from, pairs, elements, fragment_kind, has_nodes}
use Rattle.passes_spec.specs.Unbuilt.{first_unbuilt, unbuilt_items}
use Rattle.template_spec.specs.Uses.{items_uses}
use Rattle.template_meaning.specs.Calls.{level_of}
use Rattle.template_meaning.proofs.BuildKeeps.{HeldBranches, HeldContent, HeldItem, HeldItemKey, HeldItems, HeldNotes}
use Rattle.text_template_spec.specs.TextTemplates.{with_texts}
use Rattle.ytt_spec.proofs.HeldTexts.{texts_held}
use Rattle.ytt_spec.proofs.HeldCode.{ReadsHeld, HeldHeader, HeldLine, HeldSaid, HeldEvents, events_held}

key_held : (o : Option Scalar) → IsScalar (unwrap_or o null) → HeldItemKey (key_part o)
key_held None h = tt
key_held (Some s) h = h

-- the pairs of a map nest as deep as the elements of a list would
pairs_deep : (is : noted.Items) → pairs_depth (bare_pairs is) ≡ trees_depth (bare_trees is)
pairs_deep noted.no_items = refl
pairs_deep (noted.item i c is) = ap (max (depth (bare_tree c))) (pairs_deep is)

-- ---- items with fewer collections around them

mutual
  fewer_item : (m n : ℕ) → m ≤ n → (i : Item) → HeldItem n i → HeldItem m i
  fewer_item m n le (node p k ns x c) h = (h.0, h.1, fewer_content m n le c h.2)
  fewer_item m n le (code s) h = h
  fewer_item m n le (if_block p e body more) h = (h.0, fewer_items m n le body h.1, fewer_branches m n le more h.2)
  fewer_item m n le (for_block p x e body) h = (h.0, h.1, fewer_items m n le body h.2)
  fewer_item m n le (def_block p number x ps k body) h = h

  fewer_items : (m n : ℕ) → m ≤ n → (is : Items) → HeldItems n is → HeldItems m is
  fewer_items m n le no_items h = tt
  fewer_items m n le (an_item i is) h = (fewer_item m n le i h.0, fewer_items m n le is h.1)

  fewer_branches : (m n : ℕ) → m ≤ n → (b : Branches) → HeldBranches n b → HeldBranches m b
  fewer_branches m n le no_branch h = tt
  fewer_branches m n le (else_branch p body) h = fewer_items m n le body h
  fewer_branches m n le (elif_branch p e body more) h = (h.0, fewer_items m n le body h.1, fewer_branches m n le more h.2)

  fewer_content : (m n : ℕ) → m ≤ n → (c : Content) → HeldContent n c → HeldContent m c
  fewer_content m n le (written_value x) h = h
  fewer_content m n le (value_from e) h = h
  fewer_content m n le (pairs is) h = (omega (arith, h.0), fewer_items (suc m) (suc n) (omega arith) is h.1)
  fewer_content m n le (elements is) h = (omega (arith, h.0), fewer_items (suc m) (suc n) (omega arith) is h.1)

-- the block of a function, whatever it builds
function_held : (kind : ItemKind) (n : ℕ) (is : Items) → level_of (Some kind) ≤ n → HeldItems n is → HeldItems (level_of (fragment_kind kind is)) is
function_held kind n is le h = by (has_nodes is)
  where
    by : (b : Bool) → HeldItems (level_of (if b then Some kind else None)) is
    by true = fewer_items (level_of (Some kind)) n le is h
    by false = fewer_items 0 n (omega arith) is h

-- ---- what is read from the end of a collection

-- its items and branches, at the top and in the open blocks, are such
abbrev HeldNested : (n : ℕ) → Nested → Type 0
HeldNested n broken = Unit {0}
HeldNested n (at_top is) = HeldItems n is
HeldNested n (inside is more outer) = HeldItems n is × HeldBranches n more × HeldNested n outer

held_whole : (n : ℕ) (t : Nested) → HeldNested n t → HeldItems n (whole t)
held_whole n broken g = tt
held_whole n (at_top is) g = g
held_whole n (inside is more outer) g = tt

held_put : (n : ℕ) (i : Item) (t : Nested) → HeldItem n i → HeldNested n t → HeldNested n (put i t)
held_put n i broken h g = tt
held_put n i (at_top is) h g = (h, g)
held_put n i (inside is more outer) h g = ((h, g.0), g.1, g.2)

held_statements : (n : ℕ) (is : List Instruction) (t : Nested) → HeldLine is → HeldNested n t → HeldNested n (put_statements is t)
held_statements n [] t h g = g
held_statements n (statement s ∷ is) t h g = held_put n (code s) (put_statements is t) h.0 (held_statements n is t h.1 g)
held_statements n (i ∷ is) t h g = held_statements n is t h.1 g

module _ (n : ℕ) (kind : ItemKind) (p : Place) (le : level_of (Some kind) ≤ n) where
  held_block : (h : Header) (is : Items) (more : Branches) (t : Nested) → HeldHeader h → HeldItems n is → HeldBranches n more → HeldNested n t → HeldNested n (put_block (block_of kind p h is more) t)
  held_block (if_header e) is more t h i b g = held_put n (if_block p e is more) t (h, i, b) g
  held_block (for_header x e) is no_branch t h i b g = held_put n (for_block p x e is) t (h.0, h.1, i) g
  held_block (def_header x ps) is no_branch t h i b g = held_put n (def_block p 0 x ps kind is) t (h.0, h.1, function_held kind n is le i) g
  held_block k is more t h i b g = tt

  held_around : (h : Header) (t : Nested) → HeldHeader h → HeldNested n t → HeldNested n (around_one kind p h t)
  held_around h (at_top (an_item i is)) k g = held_block h (an_item i no_items) no_branch (at_top is) k (g.0, tt) tt g.1
  held_around h (inside (an_item i is) more outer) k g = held_block h (an_item i no_items) no_branch (inside is more outer) k (g.0.0, tt) tt (g.0.1, g.1, g.2)
  held_around h t k g = tt

  held_open : (h : Header) (t : Nested) → HeldHeader h → HeldNested n t → HeldNested n (open_block kind p h t)
  held_open h (inside is more outer) k g = held_block h is more outer k g.0 g.1 g.2
  held_open h t k g = tt

  held_branch : (e : Expr) (t : Nested) → HeldExpr e → HeldNested n t → HeldNested n (next_branch p e t)
  held_branch e (inside is more outer) k g = (tt, (k, g.0, g.1), g.2)
  held_branch e t k g = tt

  held_last : (t : Nested) → HeldNested n t → HeldNested n (last_branch p t)
  held_last (inside is no_branch outer) g = (tt, g.0, g.2)
  held_last t g = tt

  held_said : (s : Said) (t : Nested) → HeldSaid s → HeldNested n t → HeldNested n (nest_said kind p s t)
  held_said (statements is) t k g = held_statements n is t k g
  held_said (opens h true) t k g = held_around h t k g
  held_said (opens h false) t k g = held_open h t k g
  held_said (elif e) t k g = held_branch e t k g
  held_said otherwise t k g = held_last t g
  held_said closes t k g = (tt, tt, g)
  held_said s t k g = g

-- what goes in is such
abbrev HeldParts : (n : ℕ) → List Part → Type 0
HeldParts n [] = Unit {0}
HeldParts n (a_node i ∷ ps) = HeldItem n i × HeldParts n ps
HeldParts n (a_mark l s ∷ ps) = HeldSaid s × HeldParts n ps

held_nest : (n file : ℕ) (kind : ItemKind) → level_of (Some kind) ≤ n → (ps : List Part) → HeldParts n ps → HeldNested n (nest file kind ps)
held_nest n file kind le [] g = tt
held_nest n file kind le (a_node i ∷ ps) g = held_put n i (nest file kind ps) g.0 (held_nest n file kind le ps g.1)
held_nest n file kind le (a_mark l s ∷ ps) g = held_said n kind (place_at file l) le s (nest file kind ps) g.0 (held_nest n file kind le ps g.1)

-- ---- the marks of a text

abbrev HeldMarks : List Mark → Type 0
HeldMarks [] = Unit {0}
HeldMarks (m ∷ ms) = HeldSaid m.said × HeldMarks ms

held_both : (ms more : List Mark) → HeldMarks ms → HeldMarks more → HeldMarks (ms ++ more)
held_both [] more h g = g
held_both (m ∷ ms) more h g = (h.0, held_both ms more h.1 g)

mark_held : (past coming : List Event) (l : ℕ) (s : Said) → HeldSaid s → HeldMarks (mark past coming l s)
mark_held past coming l (statements is) h = (h, tt)
mark_held past coming l (opens k z) h = (h, tt)
mark_held past coming l (elif e) h = (h, tt)
mark_held past coming l otherwise h = (tt, tt)
mark_held past coming l closes h = (tt, tt)
mark_held past coming l s h = tt

marks_held : (past es : List Event) → HeldEvents es → HeldMarks (marks past es)
marks_held past [] h = tt
marks_held past (says l s ∷ es) h = held_both (mark past es l s) (marks (says l s ∷ past) es) (mark_held past es l s h.0) (marks_held (says l s ∷ past) es h.1)
marks_held past (begins p k l ∷ es) h = marks_held (begins p k l ∷ past) es h.1
marks_held past (beside p k b l s ∷ es) h = marks_held (beside p k b l s ∷ past) es h.1

one_mark : (n : ℕ) (b : Bool) (l : ℕ) (s : Said) (ps : List Part) → HeldSaid s → HeldParts n ps → HeldParts n (if b then a_mark l s ∷ ps else ps)
one_mark n true l s ps h g = (h, g)
one_mark n false l s ps h g = g

held_marks : (n : ℕ) (c : Path) (number : ℕ) (ms : List Mark) (rest : List Part) → HeldMarks ms → HeldParts n rest → HeldParts n (marks_at c number ms rest)
held_marks n c number [] rest h g = g
held_marks n c number (m ∷ ms) rest h g =
    one_mark n (bytes_eq m.collection c && m.number == number) m.line m.said (marks_at c number ms rest) h.0 (held_marks n c number ms rest h.1 g)

-- ---- the notes and the value expression of an item

either_notes : (b : Bool) (ns more : Notes) → HeldNotes ns → HeldNotes more → HeldNotes (if b then ns else more)
either_notes true ns more h g = h
either_notes false ns more h g = g

either_events : (b : Bool) (es more : List Event) → HeldEvents es → HeldEvents more → HeldEvents (if b then es else more)
either_events true es more h g = h
either_events false es more h g = g

abbrev HeldIfGiven : Option Expr → Type 0
HeldIfGiven None = Unit {0}
HeldIfGiven (Some e) = HeldExpr e

either_value : (b : Bool) (o more : Option Expr) → HeldIfGiven o → HeldIfGiven more → HeldIfGiven (if b then o else more)
either_value true o more h g = h
either_value false o more h g = g

held_notes : (file : ℕ) (more : Notes) (es : List Event) → HeldNotes more → HeldEvents es → HeldNotes (notes_from file more es)
held_notes file more [] m h = m
held_notes file more (begins p k l ∷ es) m h = m
held_notes file more (says l (a_note x vs) ∷ es) m h = (h.0, held_notes file more es m h.1)
held_notes file more (says l s ∷ es) m h = held_notes file more es m h.1
held_notes file more (beside p k b l s ∷ es) m h = held_notes file more es m h.1

held_beside : (file : ℕ) (p : Path) (es : List Event) → HeldEvents es → HeldNotes (note_beside file p es)
held_beside file p [] h = tt
held_beside file p (beside q k b l (a_note x vs) ∷ es) h = either_notes (bytes_eq p q) (note (place_at file l) x vs no_notes) (note_beside file p es) (h.0, tt) (held_beside file p es h.1)
held_beside file p (e ∷ es) h = held_beside file p es h.1

held_value : (p : Path) (es : List Event) → HeldEvents es → HeldIfGiven (value_beside p es)
held_value p [] h = tt
held_value p (beside q k b l (a_value e) ∷ es) h = either_value (bytes_eq p q) (Some e) (value_beside p es) h.0 (held_value p es h.1)
held_value p (e ∷ es) h = held_value p es h.1

held_since : (p : Path) (since es : List Event) → HeldEvents since → HeldEvents es → HeldEvents (events_at p since es)
held_since p since [] s h = tt
held_since p since (begins q k l ∷ es) s h = either_events (bytes_eq p q) since (events_at p es es) s (held_since p es es h.1 h.1)
held_since p since (says l t ∷ es) s h = held_since p since es s h.1
held_since p since (beside q k b l t ∷ es) s h = held_since p since es s h.1

value_or_held : (n : ℕ) (o : Option Expr) (c : Content) → HeldIfGiven o → HeldContent n c → HeldContent n (value_or o c)
value_or_held n None c h g = g
value_or_held n (Some e) c h g = h

-- ---- the template

module _ (file : ℕ) (text : List Event) (said : HeldEvents text) where
  held_node : (n : ℕ) (p : Path) (k : ItemKind) (i : Note) (c : Content) → IsScalar (key_of i) → HeldContent n c → HeldItem n (node_at file text p k i c)
  held_node n p k i c h g =
      (held_notes file (note_beside file p text) (events_at p text text) (held_beside file p text said) (held_since p text text said said), key_held i.key h, value_or_held n (value_beside p text) c (held_value p text said) g)

  held_items : (n : ℕ) (k : ItemKind) → level_of (Some k) ≤ n → (ps : List Part) → HeldParts n ps → HeldItems n (whole (nest file k ps))
  held_items n k le ps g = held_whole n (nest file k ps) (held_nest n file k le ps g)

  mutual
    held_parts : (n : ℕ) (k : ItemKind) (c : Path) (number : ℕ) (is : noted.Items) → AreHeld is → n + trees_depth (bare_trees is) ≤ max_depth → HeldParts n (parts file text k c number is)
    held_parts n k c number noted.no_items h w = held_marks n c number (marks [] text) [] (marks_held [] text said) tt
    held_parts n k c number (noted.item i x more) h w =
        held_marks n c number (marks [] text) _ (marks_held [] text said)
        (held_node n (number ∷ c) k i (content file text (number ∷ c) x) h.0 (held_content n (number ∷ c) x h.1 (omega arith)), held_parts n k c (suc number) more h.2 (omega arith))

    held_content : (n : ℕ) (p : Path) (c : noted.Content) → Held c → n + depth (bare_tree c) ≤ max_depth → HeldContent n (content file text p c)
    held_content n p (noted_scalar (scalar s)) h w = h
    held_content n p (noted_scalar t) h w = tt
    held_content n p (noted_list is) h w =
        (omega arith, held_items (suc n) element_item (omega arith) (parts file text element_item p 0 is) (held_parts (suc n) element_item p 0 is h (omega arith)))
    held_content n p (noted_map is) h w =
        let same = pairs_deep is in
        (omega arith, held_items (suc n) pair_item (omega arith) (parts file text pair_item p 0 is) (held_parts (suc n) pair_item p 0 is h (omega arith)))

-- ---- the passes

held_placed : (o : Option Fault) (t : Items) → HeldItems 0 t → IfOk (placed_or o t) (HeldItems 0)
held_placed None t h = h
held_placed (Some f) t h = tt

held_bound : (o : Option Use) (t : Items) → HeldItems 0 t → IfOk (unless_unknown t o) (HeldItems 0)
held_bound None t h = h
held_bound (Some u) t h = tt

held_built : (o : Option Place) (t : Items) → HeldItems 0 t → IfOk (unless_unbuilt t o) (HeldItems 0)
held_built None t h = h
held_built (Some p) t h = tt

-- names, and what isn't built yet
pub passed_held : (t : Items) → HeldItems 0 t → IfOk (bound t >>= all_built) (HeldItems 0)
passed_held t h =
    yielded_then (HeldItems 0) (HeldItems 0) (bound t) all_built (held_bound (unknown_first (items_names t) language_names (items_uses [] t)) t h) (λ t g. held_built (first_unbuilt (unbuilt_items t)) t g)

module _ (r : CodeReader) (reads : ReadsHeld r) (ignore : Bool) (file : ℕ) (d : Documents) (h : DocumentsHeld d) (w : DocumentsShallow d) where
  held_placed_whole : IfOk (placed_whole r ignore file d) (HeldItems 0)
  unfolding placed_whole
  held_placed_whole =
      yielded_then HeldEvents (HeldItems 0) (events r ignore file d) _ (events_held r reads ignore file d) (λ es said. held_placed (placing_fault file es) (template_of file es d.items)
      (held_items file es said 0 document_item (omega arith) (parts file es document_item [] 0 d.items) (held_parts file es said 0 document_item [] 0 d.items h (omega arith))))

  -- the template of documents that were read
  pub whole_held : IfOk (template_passed r ignore file d) (HeldItems 0)
  whole_held =
      yielded_then (HeldItems 0) (HeldItems 0) (placed_whole r ignore file d) (texts_passed r) held_placed_whole (λ t g.
      yielded_then (HeldItems 0) (HeldItems 0) (with_texts r t) (λ u. bound u >>= all_built) (texts_held r reads t g) passed_held)
