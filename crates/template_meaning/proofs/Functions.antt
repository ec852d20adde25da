-- A compiled template holds the same functions as the template.
use Rattle.std.proofs.Common.{◌≡◌, ℕ, Option, Some, None, Bool, true, false, refl, sym, ap, ◌∙◌, nat_eq}
use Rattle.ytt_base.specs.declared.fault.Place.{Place}
use Rattle.code_spec.specs.Code.{Parameters}
use Rattle.code_spec.specs.Program.{ItemKind, node_end}
use Rattle.code_spec.specs.Blocks.{op_part, Ops, no_ops, an_op}
use Rattle.star_spec.specs.Calls.{Code, of_lambda, of_def}
use Rattle.code_spec.specs.Options.{or_else}
use Rattle.star_spec.specs.Lambdas.{Lambda, only_if, lambda_in, lambda_among, lambda_in_parameters, lambda_in_statement, lambda_code}
use Rattle.template_spec.specs.Template.{Notes, no_notes, note, Key, no_key, written_key, key_from, Item, node, code, if_block, for_block, def_block, Items, no_items, an_item, Branches, no_branch, else_branch, elif_branch, Content, written_value, value_from, pairs, elements, fragment_kind}
use Rattle.template_spec.specs.Compiled.{compiled}
use Rattle.template_meaning.specs.Calls.{notes_function, key_function, function_of, function_among, branches_function, content_function, ops_function, arms_function, program_function, template_table, program_table}
use Rattle.template_spec.specs.ControlWords.{Around, free, in_node, within_loop, ItemWordsStand, WordsStand, BranchWordsStand, ContentWordsStand}
use Rattle.template_spec.proofs.Nested.{notes_ops, key_ops, item_ops, items_ops, arms, content_ops, to_ops, blocks_of}

-- a function's code, compiled
abbrev pub compiled_code : Code Items → Code Ops
compiled_code (of_lambda ps e) = of_lambda ps e
compiled_code (of_def ps fragment t) = of_def ps fragment (to_ops t)

abbrev pub lifted : Option (Code Items) → Option (Code Ops)
lifted None = None
lifted (Some c) = Some (compiled_code c)

or_assoc : {A : Type 0} (a b c : Option A) → or_else (or_else a b) c ≡ or_else a (or_else b c)
or_assoc None b c = refl
or_assoc (Some a) b c = refl

or_none : {A : Type 0} (a : Option A) → or_else a None ≡ a
or_none None = refl
or_none (Some a) = refl

lifted_or : (a b : Option (Code Items)) → lifted (or_else a b) ≡ or_else (lifted a) (lifted b)
lifted_or None b = refl
lifted_or (Some a) b = refl

lifted_only : (b : Bool) (c : Code Items) → lifted (only_if b c) ≡ only_if b (compiled_code c)
lifted_only true c = refl
lifted_only false c = refl

lifted_code : (o : Option Lambda) → lifted (lambda_code o) ≡ lambda_code o
lifted_code None = refl
lifted_code (Some l) = refl

two : (a b : Option (Code Items)) (x y : Option (Code Ops)) → lifted a ≡ x → lifted b ≡ y → lifted (or_else a b) ≡ or_else x y
two a b x y e f = lifted_or a b ∙ (λ i. or_else (e i) (f i))

-- a part that is found first, and then the rest
front : (a : Option (Code Items)) (x o : Option (Code Ops)) → lifted a ≡ x → or_else x o ≡ or_else (lifted a) o
front a x o e = λ i. or_else (sym e i) o

notes_same : (k : ℕ) (ns : Notes) (os : Ops) → ops_function k (notes_ops ns os) ≡ or_else (lifted (notes_function k ns)) (ops_function k os)
notes_same k no_notes os = refl
notes_same k (note p x es ns) os =
    ap (or_else (lambda_code (lambda_among k es))) (notes_same k ns os)
    ∙ sym (or_assoc (lambda_code (lambda_among k es)) (lifted (notes_function k ns)) (ops_function k os))
    ∙ (λ i. or_else (sym (two (lambda_code (lambda_among k es)) (notes_function k ns) _ _ (lifted_code (lambda_among k es)) refl) i) (ops_function k os))

key_same : (k : ℕ) (p : Place) (x : Key) (os : Ops) → ops_function k (key_ops p x os) ≡ or_else (lifted (key_function k x)) (ops_function k os)
key_same k p no_key os = refl
key_same k p (written_key t) os = refl
key_same k p (key_from e) os = front (lambda_code (lambda_in k e)) _ (ops_function k os) (lifted_code (lambda_in k e))

mutual
  item_same : (k : ℕ) (i : Item) (os : Ops) → ops_function k (item_ops i os) ≡ or_else (lifted (function_of k i)) (ops_function k os)
  item_same k (node p j ns x c) os =
      notes_same k ns (key_ops p x (content_ops p c (an_op (op_part (node_end p)) os)))
      ∙ ap (or_else (lifted (notes_function k ns))) (key_same k p x (content_ops p c (an_op (op_part (node_end p)) os))
      ∙ ap (or_else (lifted (key_function k x))) (content_same k p c (an_op (op_part (node_end p)) os))
      ∙ sym (or_assoc (lifted (key_function k x)) (lifted (content_function k c)) (ops_function k os))
      ∙ (λ i. or_else (sym (lifted_or (key_function k x) (content_function k c)) i) (ops_function k os)))
      ∙ sym (or_assoc (lifted (notes_function k ns)) (lifted (or_else (key_function k x) (content_function k c))) (ops_function k os))
      ∙ (λ i. or_else (sym (lifted_or (notes_function k ns) (or_else (key_function k x) (content_function k c))) i) (ops_function k os))
  item_same k (code s) os = front (lambda_code (lambda_in_statement k s)) _ (ops_function k os) (lifted_code (lambda_in_statement k s))
  item_same k (if_block p e body more) os =
      front (or_else (lambda_code (lambda_in k e)) (or_else (function_among k body) (branches_function k more))) _ (ops_function k os)
      (two (lambda_code (lambda_in k e)) (or_else (function_among k body) (branches_function k more)) _ _ (lifted_code (lambda_in k e))
      (two (function_among k body) (branches_function k more) _ _ (sym (items_same k body no_ops ∙ or_none (lifted (function_among k body)))) (branches_same k more)))
  item_same k (for_block p x e body) os =
      front (or_else (lambda_code (lambda_in k x)) (or_else (lambda_code (lambda_in k e)) (function_among k body))) _ (ops_function k os)
      (two (lambda_code (lambda_in k x)) (or_else (lambda_code (lambda_in k e)) (function_among k body)) _ _ (lifted_code (lambda_in k x))
      (two (lambda_code (lambda_in k e)) (function_among k body) _ _ (lifted_code (lambda_in k e)) (sym (items_same k body no_ops ∙ or_none (lifted (function_among k body))))))
  item_same k (def_block p n x ps j body) os =
      front (or_else (only_if (nat_eq k n) (of_def ps (fragment_kind j body) body)) (or_else (lambda_code (lambda_in_parameters k ps)) (function_among k body))) _ (ops_function k os)
      (two (only_if (nat_eq k n) (of_def ps (fragment_kind j body) body)) (or_else (lambda_code (lambda_in_parameters k ps)) (function_among k body)) _ _ (lifted_only (nat_eq k n) (of_def ps (fragment_kind j body) body))
      (two (lambda_code (lambda_in_parameters k ps)) (function_among k body) _ _ (lifted_code (lambda_in_parameters k ps)) (sym (items_same k body no_ops ∙ or_none (lifted (function_among k body))))))

  pub items_same : (k : ℕ) (t : Items) (os : Ops) → ops_function k (items_ops t os) ≡ or_else (lifted (function_among k t)) (ops_function k os)
  items_same k no_items os = refl
  items_same k (an_item i is) os =
      item_same k i (items_ops is os)
      ∙ ap (or_else (lifted (function_of k i))) (items_same k is os)
      ∙ sym (or_assoc (lifted (function_of k i)) (lifted (function_among k is)) (ops_function k os))
      ∙ (λ j. or_else (sym (lifted_or (function_of k i) (function_among k is)) j) (ops_function k os))

  branches_same : (k : ℕ) (b : Branches) → lifted (branches_function k b) ≡ arms_function k (arms b)
  branches_same k no_branch = refl
  branches_same k (else_branch p is) = sym (items_same k is no_ops ∙ or_none (lifted (function_among k is)))
  branches_same k (elif_branch p e is more) =
      two (lambda_code (lambda_in k e)) (or_else (function_among k is) (branches_function k more)) _ _ (lifted_code (lambda_in k e))
      (two (function_among k is) (branches_function k more) _ _ (sym (items_same k is no_ops ∙ or_none (lifted (function_among k is)))) (branches_same k more))

  content_same : (k : ℕ) (p : Place) (c : Content) (os : Ops) → ops_function k (content_ops p c os) ≡ or_else (lifted (content_function k c)) (ops_function k os)
  content_same k p (written_value t) os = refl
  content_same k p (value_from e) os = front (lambda_code (lambda_in k e)) _ (ops_function k os) (lifted_code (lambda_in k e))
  content_same k p (pairs is) os = items_same k is os
  content_same k p (elements is) os = items_same k is os

pub tables_agree : (files : ℕ → Items) (f k : ℕ) → program_table (λ f. compiled (files f)) f k ≡ lifted (template_table files f k)
tables_agree files f k = ap (program_function k) (blocks_of (files f)) ∙ items_same k (files f) no_ops ∙ or_none (lifted (function_among k (files f)))

-- in each function of a template whose words stand where they may, they do
abbrev pub CodeWordsStand : Code Items → Type 0
CodeWordsStand (of_lambda ps e) = Unit {0}
CodeWordsStand (of_def ps fragment t) = WordsStand free t

abbrev pub IfFound : Option (Code Items) → Type 0
IfFound None = Unit {0}
IfFound (Some c) = CodeWordsStand c

both_found : (a b : Option (Code Items)) → IfFound a → IfFound b → IfFound (or_else a b)
both_found None b h i = i
both_found (Some c) b h i = h

lambda_found : (o : Option Lambda) → IfFound (lambda_code o)
lambda_found None = tt
lambda_found (Some l) = tt

notes_found : (k : ℕ) (ns : Notes) → IfFound (notes_function k ns)
notes_found k no_notes = tt
notes_found k (note p x es ns) = both_found (lambda_code (lambda_among k es)) (notes_function k ns) (lambda_found (lambda_among k es)) (notes_found k ns)

key_found : (k : ℕ) (x : Key) → IfFound (key_function k x)
key_found k no_key = tt
key_found k (written_key t) = tt
key_found k (key_from e) = lambda_found (lambda_in k e)

def_found : (b : Bool) (fragment : Option ItemKind) (ps : Parameters) (t : Items) → WordsStand free t → IfFound (only_if b (of_def ps fragment t))
def_found true fragment ps t h = h
def_found false fragment ps t h = tt

mutual
  item_found : (k : ℕ) (w : Around) (i : Item) → ItemWordsStand w i → IfFound (function_of k i)
  item_found k w (node p j ns x c) h = both_found (notes_function k ns) (or_else (key_function k x) (content_function k c)) (notes_found k ns) (both_found (key_function k x) (content_function k c) (key_found k x) (content_found k c h))
  item_found k w (code s) h = lambda_found (lambda_in_statement k s)
  item_found k w (if_block p e body more) h = both_found (lambda_code (lambda_in k e)) (or_else (function_among k body) (branches_function k more)) (lambda_found (lambda_in k e)) (both_found (function_among k body) (branches_function k more) (items_found k w body h.0) (branches_found k w more h.1))
  item_found k w (for_block p x e body) h = both_found (lambda_code (lambda_in k x)) (or_else (lambda_code (lambda_in k e)) (function_among k body)) (lambda_found (lambda_in k x)) (both_found (lambda_code (lambda_in k e)) (function_among k body) (lambda_found (lambda_in k e)) (items_found k (within_loop w) body h))
  item_found k w (def_block p n x ps j body) h = both_found (only_if (nat_eq k n) (of_def ps (fragment_kind j body) body)) (or_else (lambda_code (lambda_in_parameters k ps)) (function_among k body)) (def_found (nat_eq k n) (fragment_kind j body) ps body h) (both_found (lambda_code (lambda_in_parameters k ps)) (function_among k body) (lambda_found (lambda_in_parameters k ps)) (items_found k free body h))

  pub items_found : (k : ℕ) (w : Around) (t : Items) → WordsStand w t → IfFound (function_among k t)
  items_found k w no_items h = tt
  items_found k w (an_item i is) h = both_found (function_of k i) (function_among k is) (item_found k w i h.0) (items_found k w is h.1)

  branches_found : (k : ℕ) (w : Around) (b : Branches) → BranchWordsStand w b → IfFound (branches_function k b)
  branches_found k w no_branch h = tt
  branches_found k w (else_branch p is) h = items_found k w is h
  branches_found k w (elif_branch p e is more) h = both_found (lambda_code (lambda_in k e)) (or_else (function_among k is) (branches_function k more)) (lambda_found (lambda_in k e)) (both_found (function_among k is) (branches_function k more) (items_found k w is h.0) (branches_found k w more h.1))

  content_found : (k : ℕ) (c : Content) → ContentWordsStand c → IfFound (content_function k c)
  content_found k (written_value t) h = tt
  content_found k (value_from e) h = lambda_found (lambda_in k e)
  content_found k (pairs is) h = items_found k in_node is h
  content_found k (elements is) h = items_found k in_node is h
