-- The direct meaning of a template: it walks the items.
use Rattle.std.specs.Prelude.{ℕ, suc, Option, Some, None, if◌then◌else◌}
use Rattle.ytt_base.specs.declared.fault.Place.{Place}
use Rattle.ytt_base.specs.Trees.{Scalar, null, scalar}
use Rattle.code_spec.specs.Program.{ItemKind}
use Rattle.value_spec.specs.Values.{Children, no_children, BuiltNotes, no_built, a_built, Body, one, map_of, list_of, Taken, taken, Env}
use Rattle.value_spec.specs.Outcomes.{Computation, paid, give, ◌>>=◌}
use Rattle.star_spec.specs.Language.{Call, Language, execute, define}
use Rattle.star_spec.specs.Flow.{Flow, on, out, Part, skip, in_turn, plain, when, test_of, loop}
use Rattle.template_spec.specs.Template.{Notes, no_notes, note, Key, no_key, written_key, key_from, Item, node, code, if_block, for_block, def_block, Items, no_items, an_item, Branches, no_branch, else_branch, elif_branch, Content, written_value, value_from, pairs, elements, is_void}
use Rattle.template_meaning.specs.Take.{take_over, key_taken}
use Rattle.template_meaning.specs.Adding.{add_taken}

-- ---- the parts of a node

abbrev pub notes_meaning : {H : Type 0} → Language H → Call H → Notes → Env → Computation H BuiltNotes
notes_meaning language call no_notes env = give no_built
notes_meaning language call (note p x es ns) env = do
  vs ← language.arguments call es env
  more ← notes_meaning language call ns env
  give (a_built x vs more)

abbrev pub key_meaning : {H : Type 0} → Language H → Call H → Place → Key → Env → Computation H (Option Scalar)
key_meaning language call p no_key env = give None
key_meaning language call p (written_key x) env = give (Some x)
key_meaning language call p (key_from e) env = language.eval call e env >>= key_taken p

abbrev pub unset : Taken
unset = taken (one (scalar null))

-- what a collection gives with these children: it is null where items are written in it, all of them in `def` blocks
abbrev pub collected : Items → (Children → Body) → Children → Taken
collected is body cs = if is_void is then unset else taken (body cs)

abbrev pub built : {K : Type 0} → Flow K → K
built (on k) = k
built (out w k) = k

-- An item takes its step, and then come its notes' arguments, its key, and its value or what it holds. `n` counts the
-- collections around an item, the list of documents not counted.
module _ {H : Type 0} (language : Language H) where
  abbrev mutual
    pub build : Call H → (n : ℕ) → Item → Env → Part H Children
    build call n (node p kind ns key c) env = λ children. paid p (do
      notes ← notes_meaning language call ns env
      x ← key_meaning language call p key env
      got ← content call n p kind c env
      all ← add_taken children p notes x got
      give (on all))
    build call n (code s) env = plain (execute language call s env)
    build call n (if_block p e body more) env = λ children. paid p (when (test_of language call e env) (builds call n body env) (choose call n more env) children)
    build call n (for_block p x e body) env = loop language call p x e env (builds call n body env)
    build call n (def_block p number x ps kind body) env = plain (define language call p number x ps env)

    pub builds : Call H → (n : ℕ) → Items → Env → Part H Children
    builds call n no_items env = skip
    builds call n (an_item i is) env = in_turn (build call n i env) (builds call n is env)

    pub choose : Call H → (n : ℕ) → Branches → Env → Part H Children
    choose call n no_branch env = skip
    choose call n (else_branch p body) env = builds call n body env
    choose call n (elif_branch p e body more) env = when (test_of language call e env) (builds call n body env) (choose call n more env)

    pub content : Call H → (n : ℕ) → Place → ItemKind → Content → Env → Computation H Taken
    content call n p kind (written_value x) env = give (taken (one (scalar x)))
    content call n p kind (value_from e) env = language.eval call e env >>= take_over p kind n
    content call n p kind (pairs is) env = builds call (suc n) is env no_children >>= λ f. give (collected is map_of (built f))
    content call n p kind (elements is) env = builds call (suc n) is env no_children >>= λ f. give (collected is list_of (built f))
