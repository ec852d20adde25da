-- A program gets the numbers that its template gets.
use Rattle.std.proofs.Common.{◌≡◌, ℕ, suc, List, [], ◌∷◌, ◌||◌, ◌&&◌, not, if◌then◌else◌, Some, None, refl, sym, ap, ◌∙◌}
use Rattle.ytt_base.specs.declared.fault.Place.{Place}
use Rattle.code_spec.specs.Program.{ItemKind, holds_void, holds_map, holds_list, node_start, node_note, node_end, Instruction, part, begin_if, begin_else, begin_elif, begin_for, begin_def, close}
use Rattle.code_spec.specs.Numbering.{number_expr, number_exprs, number_parameters}
use Rattle.template_spec.specs.Template.{Notes, no_notes, note, Key, no_key, written_key, key_from, Item, node, code, if_block, for_block, def_block, Items, no_items, an_item, Branches, no_branch, else_branch, elif_branch, Content, written_value, value_from, pairs, elements, is_node, has_nodes, branches_have_nodes, is_written, has_written, branches_have_written}
use Rattle.template_spec.specs.Compiled.{holds_of, fragment_of, notes_code, key_code, item_code, items_code, branches_code, content_code, compiled}
use Rattle.template_spec.specs.Numbered.{number_notes, number_key, number_item, number_items, number_branches, number_content, numbered, number_program, numbered_program}

-- ---- numbers change nothing of what stands where

mutual
  item_nodes : (i : Item) (n : ℕ) → is_node (number_item i n).result ≡ is_node i
  item_nodes (node p k ns key c) n = refl
  item_nodes (code s) n = refl
  item_nodes (if_block p e body more) n = λ j. items_nodes body (number_expr e n).next j || branches_nodes more (number_items body (number_expr e n).next).next j
  item_nodes (for_block p x e body) n = items_nodes body (number_expr e (number_expr x n).next).next
  item_nodes (def_block p k x ps kind body) n = refl

  pub items_nodes : (t : Items) (n : ℕ) → has_nodes (number_items t n).result ≡ has_nodes t
  items_nodes no_items n = refl
  items_nodes (an_item i is) n = λ j. item_nodes i n j || items_nodes is (number_item i n).next j

  branches_nodes : (b : Branches) (n : ℕ) → branches_have_nodes (number_branches b n).result ≡ branches_have_nodes b
  branches_nodes no_branch n = refl
  branches_nodes (else_branch p body) n = items_nodes body n
  branches_nodes (elif_branch p e body more) n = λ j. items_nodes body (number_expr e n).next j || branches_nodes more (number_items body (number_expr e n).next).next j

mutual
  item_writes : (i : Item) (n : ℕ) → is_written (number_item i n).result ≡ is_written i
  item_writes (node p k ns key c) n = refl
  item_writes (code s) n = refl
  item_writes (if_block p e body more) n = λ j. items_writes body (number_expr e n).next j || branches_writes more (number_items body (number_expr e n).next).next j
  item_writes (for_block p x e body) n = items_writes body (number_expr e (number_expr x n).next).next
  item_writes (def_block p k x ps kind body) n = items_writes body (number_parameters ps (suc n)).next

  items_writes : (t : Items) (n : ℕ) → has_written (number_items t n).result ≡ has_written t
  items_writes no_items n = refl
  items_writes (an_item i is) n = λ j. item_writes i n j || items_writes is (number_item i n).next j

  branches_writes : (b : Branches) (n : ℕ) → branches_have_written (number_branches b n).result ≡ branches_have_written b
  branches_writes no_branch n = refl
  branches_writes (else_branch p body) n = items_writes body n
  branches_writes (elif_branch p e body more) n = λ j. items_writes body (number_expr e n).next j || branches_writes more (number_items body (number_expr e n).next).next j

holds_same : (c : Content) (n : ℕ) → holds_of (number_content c n).result ≡ holds_of c
holds_same (written_value x) n = refl
holds_same (value_from e) n = refl
holds_same (pairs is) n = λ j. if items_writes is n j && not (items_nodes is n j) then holds_void else holds_map
holds_same (elements is) n = λ j. if items_writes is n j && not (items_nodes is n j) then holds_void else holds_list

fragment_same : (kind : ItemKind) (t : Items) (n : ℕ) → fragment_of kind (number_items t n).result ≡ fragment_of kind t
fragment_same kind t n = λ j. if items_nodes t n j then Some kind else None

-- ---- instructions in front of others

notes_numbered : (ns : Notes) (is : List Instruction) (n : ℕ) → (number_program (notes_code ns is) n).result ≡ notes_code (number_notes ns n).result (number_program is (number_notes ns n).next).result
notes_numbered no_notes is n = refl
notes_numbered (note p x es ns) is n = ap (λ js. part (node_note p x (number_exprs es n).result) ∷ js) (notes_numbered ns is (number_exprs es n).next)

key_numbered : (p : Place) (key : Key) (is : List Instruction) (n : ℕ) → (number_program (key_code p key is) n).result ≡ key_code p (number_key key n).result (number_program is (number_key key n).next).result
key_numbered p no_key is n = refl
key_numbered p (written_key x) is n = refl
key_numbered p (key_from e) is n = refl

mutual
  item_numbered : (i : Item) (is : List Instruction) (n : ℕ) → (number_program (item_code i is) n).result ≡ item_code (number_item i n).result (number_program is (number_item i n).next).result
  item_numbered (node p k ns key c) is n =
      (λ j. part (node_start p k (sym (holds_same c (number_key key (number_notes ns n).next).next) j)) ∷ (notes_numbered ns (key_code p key (content_code p c (part (node_end p) ∷ is))) n
      ∙ ap (notes_code (number_notes ns n).result) (key_numbered p key (content_code p c (part (node_end p) ∷ is)) (number_notes ns n).next
      ∙ ap (key_code p (number_key key (number_notes ns n).next).result) (content_numbered p c (part (node_end p) ∷ is) (number_key key (number_notes ns n).next).next))) j)
  item_numbered (code s) is n = refl
  item_numbered (if_block p e body more) is n =
      ap (λ js. begin_if p (number_expr e n).result ∷ js) (items_numbered body (branches_code p more is) (number_expr e n).next
      ∙ ap (items_code (number_items body (number_expr e n).next).result) (branches_numbered p more is (number_items body (number_expr e n).next).next))
  item_numbered (for_block p x e body) is n =
      ap (λ js. begin_for p (number_expr x n).result (number_expr e (number_expr x n).next).result ∷ js) (items_numbered body (close p ∷ is) (number_expr e (number_expr x n).next).next)
  item_numbered (def_block p k x ps kind body) is n =
      (λ j. begin_def p n (sym (fragment_same kind body (number_parameters ps (suc n)).next) j) x (number_parameters ps (suc n)).result ∷ items_numbered body (close p ∷ is) (number_parameters ps (suc n)).next j)

  items_numbered : (t : Items) (is : List Instruction) (n : ℕ) → (number_program (items_code t is) n).result ≡ items_code (number_items t n).result (number_program is (number_items t n).next).result
  items_numbered no_items is n = refl
  items_numbered (an_item i more) is n = item_numbered i (items_code more is) n ∙ ap (item_code (number_item i n).result) (items_numbered more is (number_item i n).next)

  branches_numbered : (q : Place) (b : Branches) (is : List Instruction) (n : ℕ) → (number_program (branches_code q b is) n).result ≡ branches_code q (number_branches b n).result (number_program is (number_branches b n).next).result
  branches_numbered q no_branch is n = refl
  branches_numbered q (else_branch p body) is n = ap (λ js. begin_else p ∷ js) (items_numbered body (close q ∷ is) n)
  branches_numbered q (elif_branch p e body more) is n =
      ap (λ js. begin_elif p (number_expr e n).result ∷ js) (items_numbered body (branches_code q more is) (number_expr e n).next
      ∙ ap (items_code (number_items body (number_expr e n).next).result) (branches_numbered q more is (number_items body (number_expr e n).next).next))

  content_numbered : (p : Place) (c : Content) (is : List Instruction) (n : ℕ) → (number_program (content_code p c is) n).result ≡ content_code p (number_content c n).result (number_program is (number_content c n).next).result
  content_numbered p (written_value x) is n = refl
  content_numbered p (value_from e) is n = refl
  content_numbered p (pairs t) is n = items_numbered t is n
  content_numbered p (elements t) is n = items_numbered t is n

-- numbering commutes with compiling
pub numbered_compiled : (t : Items) → numbered_program (compiled t) ≡ compiled (numbered t)
numbered_compiled t = items_numbered t [] 0
