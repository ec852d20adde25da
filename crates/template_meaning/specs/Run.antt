-- The meaning of a program: it goes through the instructions with a stack of open nodes.
use Rattle.std.specs.Prelude.{ℕ, suc, List, [], ◌∷◌, Option, Some, None}
use Rattle.ytt_base.specs.declared.fault.Place.{Place}
use Rattle.ytt_base.specs.Trees.{Scalar, null, scalar}
use Rattle.code_spec.specs.Code.{Name}
use Rattle.code_spec.specs.Program.{ItemKind, Holds, holds_one, holds_map, holds_list, holds_void, NodePart, node_start, node_note, node_key, node_key_from, node_value, node_value_from, node_end}
use Rattle.value_spec.specs.Values.{Arguments, Children, no_children, BuiltNotes, no_built, a_built, one, map_of, list_of, Taken, taken, Env}
use Rattle.value_spec.specs.Outcomes.{Computation, paid, give, ill_formed, ◌>>=◌}
use Rattle.star_spec.specs.Language.{Call, Language, execute, define}
use Rattle.star_spec.specs.Flow.{on, Part, skip, in_turn, plain, when, test_of, loop}
use Rattle.code_spec.specs.Blocks.{Op, op_part, op_statement, op_if, op_for, op_def, Ops, no_ops, an_op, Arms, no_arm, else_arm, arm}
use Rattle.template_meaning.specs.Take.{take_over, key_taken}
use Rattle.template_meaning.specs.Adding.{add_taken}

-- an open node; `level` counts the collections around its children
pub record Node : Type 0 where
  pub place : Place
  pub kind : ItemKind
  pub holds : Holds
  pub level : ℕ
  pub notes : BuiltNotes
  pub key : Option Scalar
  pub value : Taken
  pub children : Children

abbrev pub unset : Taken
unset = taken (one (scalar null))

-- what a node holds at its end: its value, or its children
abbrev pub closed_with : Holds → Taken → Children → Taken
closed_with holds_one t cs = t
closed_with holds_map t cs = taken (map_of cs)
closed_with holds_list t cs = taken (list_of cs)
closed_with holds_void t cs = unset

abbrev pub opened : Place → ItemKind → Holds → ℕ → Node
opened p k h n = record { place = p; kind = k; holds = h; level = n; notes = no_built; key = None; value = unset; children = no_children }

-- the open node on top, and those under it
abbrev pub on_top : {H A : Type 0} → (Node → List Node → Computation H A) → List Node → Computation H A
on_top f [] = ill_formed
on_top f (n ∷ ns) = f n ns

abbrev pub and_note : BuiltNotes → Name → Arguments → BuiltNotes
and_note no_built x vs = a_built x vs no_built
and_note (a_built y ws ns) x vs = a_built y ws (and_note ns x vs)

module _ {H : Type 0} (language : Language H) where
  -- a start opens a node; notes, key and value fill it; its end closes it into the one below
  abbrev pub node_part : Call H → NodePart → Env → Part H (List Node)
  node_part call (node_start p k h) env ns = on_top (λ m ms. paid p (give (on (opened p k h (suc m.level) ∷ m ∷ ms)))) ns
  node_part call (node_note p x es) env ns = on_top (λ n ms. do
    vs ← language.arguments call es env
    give (on (record n { notes = and_note n.notes x vs } ∷ ms))) ns
  node_part call (node_key p x) env ns = on_top (λ n ms. give (on (record n { key = Some x } ∷ ms))) ns
  node_part call (node_key_from p e) env ns = on_top (λ n ms. do
    v ← language.eval call e env
    k ← key_taken n.place v
    give (on (record n { key = k } ∷ ms))) ns
  node_part call (node_value p x) env ns = on_top (λ n ms. give (on (record n { value = taken (one (scalar x)) } ∷ ms))) ns
  node_part call (node_value_from p e) env ns = on_top (λ n ms. on_top (λ m ls. do
    v ← language.eval call e env
    b ← take_over n.place n.kind m.level v
    give (on (record n { value = b } ∷ m ∷ ls))) ms) ns
  node_part call (node_end p) env ns = on_top (λ n ms. on_top (λ m ls. do
    all ← add_taken m.children n.place n.notes n.key (closed_with n.holds n.value n.children)
    give (on (record m { children = all } ∷ ls))) ms) ns

  abbrev mutual
    pub run : Call H → Op → Env → Part H (List Node)
    run call (op_part o) env = node_part call o env
    run call (op_statement s) env = plain (execute language call s env)
    run call (op_if p branches) env = λ ns. paid p (run_arms call branches env ns)
    run call (op_for p x e body) env = loop language call p x e env (runs call body env)
    run call (op_def p number fragment x ps body) env = plain (define language call p number x ps env)

    pub runs : Call H → Ops → Env → Part H (List Node)
    runs call no_ops env = skip
    runs call (an_op o os) env = in_turn (run call o env) (runs call os env)

    pub run_arms : Call H → Arms → Env → Part H (List Node)
    run_arms call no_arm env = skip
    run_arms call (else_arm os) env = runs call os env
    run_arms call (arm e os more) env = when (test_of language call e env) (runs call os env) (run_arms call more env)
