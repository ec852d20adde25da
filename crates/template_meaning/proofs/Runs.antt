-- A compiled template runs as it is built.
use Rattle.std.proofs.Common.{◌≡◌, ℕ, suc, Bool, true, false, if◌then◌else◌, List, ◌∷◌, Option, None, refl, sym, ap, ◌∙◌}
use Rattle.ytt_base.specs.declared.fault.Place.{Place}
use Rattle.ytt_base.specs.Trees.{Scalar, scalar}
use Rattle.code_spec.specs.Code.{Name}
use Rattle.code_spec.specs.Program.{ItemKind, Holds, holds_one, holds_map, holds_list, holds_void, node_end}
use Rattle.template_spec.specs.Template.{Notes, no_notes, note, Key, no_key, written_key, key_from, Item, node, code, if_block, for_block, def_block, Items, no_items, an_item, Branches, no_branch, else_branch, elif_branch, Content, written_value, value_from, pairs, elements, is_void}
use Rattle.template_spec.specs.Compiled.{holds_of}
use Rattle.value_spec.specs.Values.{Value, Arguments, Children, no_children, BuiltNotes, no_built, a_built, one, map_of, list_of, Taken, taken, Env}
use Rattle.value_spec.specs.Outcomes.{State, Ending, done, asks, bad, then_do, Computation, ◌>>=◌, give}
use Rattle.star_spec.specs.Language.{Call, Language, execute, define}
use Rattle.star_spec.specs.Flow.{Flow, on, out, Part, go_on, plain, test_of}
use Rattle.template_meaning.specs.Build.{collected, notes_meaning, build, builds, choose, content, key_meaning, built}
use Rattle.template_meaning.specs.Adding.{add_taken}
use Rattle.template_meaning.specs.Take.{take_over, key_taken}
use Rattle.code_spec.specs.Blocks.{op_part, op_if, op_for, Ops, no_ops, an_op, arm}
use Rattle.template_meaning.specs.Run.{Node, unset, closed_with, opened, and_note, run, runs, run_arms}
use Rattle.template_spec.specs.ControlWords.{Around, in_node, within_loop, ItemWordsStand, WordsStand, BranchWordsStand, ContentWordsStand}
use Rattle.template_spec.proofs.Nested.{notes_ops, key_ops, item_ops, items_ops, arms, content_ops}
use Rattle.value_spec.proofs.Computations.{then_assoc, then_ext, paid_then, paid_ext}
use Rattle.template_meaning.proofs.Follows.{flow_map, mapped, Follows, paid_follows, plain_follows, when_follows, loop_follows}
use Rattle.template_meaning.proofs.Leaving.{OnDone, Fits, items_good}

-- the open node takes what was built
abbrev pub onto : Node → List Node → Children → List Node
onto top below children = record top { children = children } ∷ below

-- a node with its notes and key, before its value
abbrev pub keyed : Place → ItemKind → Holds → ℕ → BuiltNotes → Option Scalar → Node
keyed p k h n ns x = record { place = p; kind = k; holds = h; level = n; notes = ns; key = x; value = unset; children = no_children }

abbrev pub and_notes : BuiltNotes → BuiltNotes → BuiltNotes
and_notes no_built ms = ms
and_notes (a_built x vs ns) ms = a_built x vs (and_notes ns ms)

notes_end : (ns : BuiltNotes) → ns ≡ and_notes ns no_built
notes_end no_built = refl
notes_end (a_built x vs ns) = ap (a_built x vs) (notes_end ns)

notes_more : (ns : BuiltNotes) (x : Name) (vs : Arguments) (ms : BuiltNotes) → and_notes (and_note ns x vs) ms ≡ and_notes ns (a_built x vs ms)
notes_more no_built x vs ms = refl
notes_more (a_built y ws ns) x vs ms = ap (a_built y ws) (notes_more ns x vs ms)

-- notes go to the open node one after another
one_note : {H : Type 0} (r : Ending H Arguments) (g : Arguments → List Node) (b : Part H (List Node)) (x : Name) (ns : BuiltNotes) (h : Computation H BuiltNotes) (q : BuiltNotes → Computation H (Flow (List Node))) →
    ((vs : Arguments) (s : State H) → b (g vs) s ≡ then_do (h s) (λ ms. q (and_notes ns (a_built x vs ms)))) →
    then_do (then_do r (λ vs. give (on (g vs)))) (go_on b) ≡ then_do (then_do r (λ vs. h >>= λ ms. give (a_built x vs ms))) (λ ms. q (and_notes ns ms))
one_note (bad e s) g b x ns h q f = refl
one_note (asks w s k) g b x ns h q f = λ i. asks w s (λ got t. one_note (k got t) g b x ns h q f i)
one_note (done vs s) g b x ns h q f = f vs s ∙ sym (then_assoc (h s) (λ ms. give (a_built x vs ms)) (λ ms. q (and_notes ns ms)))

from_key : {H : Type 0} (r : Ending H Value) (f : Value → Computation H (Option Scalar)) (g : Option Scalar → List Node) (b : Part H (List Node)) → then_do (then_do r (λ v. f v >>= λ k. give (on (g k)))) (go_on b) ≡ then_do (then_do r f) (λ k. b (g k))
from_key (bad e s) f g b = refl
from_key (asks q s k) f g b = λ i. asks q s (λ got t. from_key (k got t) f g b i)
from_key (done v s) f g b = then_assoc (f v s) _ _

from_value : {H : Type 0} (r : Ending H Value) (f : Value → Computation H Taken) (g : Taken → List Node) (b : Part H (List Node)) (c : Taken → Computation H (Flow (List Node))) → ((x : Taken) (s : State H) → b (g x) s ≡ c x s) → then_do (then_do r (λ v. f v >>= λ x. give (on (g x)))) (go_on b) ≡ then_do (then_do r f) c
from_value (bad e s) f g b c h = refl
from_value (asks q s k) f g b c h = λ i. asks q s (λ got t. from_value (k got t) f g b c h i)
from_value (done v s) f g b c h = then_assoc (f v s) _ _ ∙ then_ext (f v s) _ _ h

-- a key, a value and what is done with both, and then the rest
regroup : {H A B C D : Type 0} (r : Ending H A) (f : Computation H B) (g : A → B → Computation H C) (b : C → Flow Children) (d : Flow Children → Computation H D) → then_do r (λ x s. then_do (f s) (λ y s. then_do (g x y s) (λ z. d (b z)))) ≡ then_do (then_do r (λ x. f >>= λ y. g x y >>= λ z. give (b z))) d
regroup r f g b d =
    then_ext r _ _ (λ x s. then_ext (f s) _ _ (λ y s. sym (then_assoc (g x y s) (λ z. give (b z)) d)) ∙ sym (then_assoc (f s) (λ y. g x y >>= λ z. give (b z)) d))
    ∙ sym (then_assoc r (λ x. f >>= λ y. g x y >>= λ z. give (b z)) d)

-- a collection holds what is built, unless it is null
closed_pairs : (b : Bool) (cs : Children) → closed_with (if b then holds_void else holds_map) unset cs ≡ (if b then unset else taken (map_of cs))
closed_pairs true cs = refl
closed_pairs false cs = refl

closed_elements : (b : Bool) (cs : Children) → closed_with (if b then holds_void else holds_list) unset cs ≡ (if b then unset else taken (list_of cs))
closed_elements true cs = refl
closed_elements false cs = refl

module _ {H : Type 0} (language : Language H) where
  -- what a program does after a part of it whose meaning is r
  abbrev pub after : Call H → Ops → Env → Node → List Node → Ending H (Flow Children) → Ending H (Flow (List Node))
  after call os env top below r = then_do r (λ f. go_on (runs language call os env) (flow_map (onto top below) f))

  -- nothing follows
  no_more : (call : Call H) (env : Env) (top : Node) (below : List Node) (r : Ending H (Flow Children)) → after call no_ops env top below r ≡ mapped (onto top below) r
  no_more call env top below (done (on k) s) = refl
  no_more call env top below (done (out w k) s) = refl
  no_more call env top below (bad e s) = refl
  no_more call env top below (asks q s k) = λ i. asks q s (λ got t. no_more call env top below (k got t) i)

  -- one part, and then the rest
  one_more : (call : Call H) (os : Ops) (env : Env) (top : Node) (below : List Node) (r : Ending H (Flow Children)) → then_do (mapped (onto top below) r) (go_on (runs language call os env)) ≡ after call os env top below r
  one_more call os env top below (done f s) = refl
  one_more call os env top below (bad e s) = refl
  one_more call os env top below (asks q s k) = λ i. asks q s (λ got t. one_more call os env top below (k got t) i)

  -- two parts, one after the other
  two_parts : (call : Call H) (os : Ops) (env : Env) (top : Node) (below : List Node) (r : Ending H (Flow Children)) (a : Part H Children) (b : Part H (List Node)) → ((k : Children) (s : State H) → b (onto top below k) s ≡ after call os env top below (a k s)) → then_do r (λ f. go_on b (flow_map (onto top below) f)) ≡ after call os env top below (then_do r (go_on a))
  two_parts call os env top below (done (on k) s) a b h = h k s
  two_parts call os env top below (done (out w k) s) a b h = refl
  two_parts call os env top below (bad e s) a b h = refl
  two_parts call os env top below (asks q s k) a b h = λ i. asks q s (λ got t. two_parts call os env top below (k got t) a b h i)

  -- the end of a node: what it gives goes to the node below
  abbrev ends : Call H → Ops → Env → Node → List Node → Place → BuiltNotes → Option Scalar → Taken → Computation H (Flow (List Node))
  ends call os env top below p ns x t = λ s. then_do (add_taken top.children p ns x t s) (λ all. runs language call os env (onto top below all))

  end_runs : (call : Call H) (q : Place) (os : Ops) (env : Env) (n top : Node) (below : List Node) (s : State H) → runs language call (an_op (op_part (node_end q)) os) env (n ∷ top ∷ below) s ≡ ends call os env top below n.place n.notes n.key (closed_with n.holds n.value n.children) s
  end_runs call q os env n top below s = then_assoc (add_taken top.children n.place n.notes n.key (closed_with n.holds n.value n.children) s) _ _

  notes_run : (call : Call H) (ns : Notes) (os : Ops) (env : Env) (p : Place) (j : ItemKind) (h : Holds) (n : ℕ) (so_far : BuiltNotes) (below : List Node) (s : State H) →
      runs language call (notes_ops ns os) env (keyed p j h n so_far None ∷ below) s ≡ then_do (notes_meaning language call ns env s) (λ ms. runs language call os env (keyed p j h n (and_notes so_far ms) None ∷ below))
  notes_run call no_notes os env p j h n so_far below s = λ i. runs language call os env (keyed p j h n (notes_end so_far i) None ∷ below) s
  notes_run call (note q x es ns) os env p j h n so_far below s =
      one_note (language.arguments call es env s) (λ vs. keyed p j h n (and_note so_far x vs) None ∷ below) (runs language call (notes_ops ns os) env) x so_far (notes_meaning language call ns env) (λ ms. runs language call os env (keyed p j h n ms None ∷ below))
      (λ vs s. notes_run call ns os env p j h n (and_note so_far x vs) below s
      ∙ then_ext (notes_meaning language call ns env s) _ _ (λ ms s. λ i. runs language call os env (keyed p j h n (notes_more so_far x vs ms i) None ∷ below) s))

  key_runs : (call : Call H) (k : Key) (os : Ops) (env : Env) (p : Place) (j : ItemKind) (h : Holds) (n : ℕ) (ns : BuiltNotes) (below : List Node) (s : State H) → runs language call (key_ops p k os) env (keyed p j h n ns None ∷ below) s ≡ then_do (key_meaning language call p k env s) (λ key. runs language call os env (keyed p j h n ns key ∷ below))
  key_runs call no_key os env p j h n ns below s = refl
  key_runs call (written_key t) os env p j h n ns below s = refl
  key_runs call (key_from e) os env p j h n ns below s = from_key (language.eval call e env s) (key_taken p) (λ k. keyed p j h n ns k ∷ below) (runs language call os env)

  -- children that no word leaves, and then the node's end
  from_children : (call : Call H) (q : Place) (os : Ops) (env : Env) (n top : Node) (below : List Node) (mk : Children → Taken) (r : Ending H (Flow Children)) → ((k : Children) → closed_with n.holds n.value k ≡ mk k) → OnDone (Fits in_node) r →
      after call (an_op (op_part (node_end q)) os) env n (top ∷ below) r ≡ then_do (then_do r (λ f. give (mk (built f)))) (λ got. ends call os env top below n.place n.notes n.key got)
  from_children call q os env n top below mk (bad e s) h ok = refl
  from_children call q os env n top below mk (asks w s k) h ok = λ i. asks w s (λ got t. from_children call q os env n top below mk (k got t) h (record { by = ok.by got t }) i)
  from_children call q os env n top below mk (done (on k) s) h ok = end_runs call q os env (record n { children = k }) top below s ∙ (λ i. ends call os env top below n.place n.notes n.key (h k i) s)
  from_children call q os env n top below mk (done (out w k) s) h ok = absurd ok.by

  -- a part that follows, in front of the rest
  act_runs : (call : Call H) (os : Ops) (env : Env) (top : Node) (below : List Node) (a : Part H Children) (b : Part H (List Node)) → Follows (onto top below) a b → (k : Children) (s : State H) → then_do (b (onto top below k) s) (go_on (runs language call os env)) ≡ after call os env top below (a k s)
  act_runs call os env top below a b h k s =
      (λ i. then_do (h.by k s i) (go_on (runs language call os env))) ∙ one_more call os env top below (a k s)

  -- a block, after which nothing follows
  pub as_block : (call : Call H) (env : Env) (top : Node) (below : List Node) (a : Part H Children) (b : Part H (List Node)) → ((k : Children) (s : State H) → b (onto top below k) s ≡ after call no_ops env top below (a k s)) → Follows (onto top below) a b
  as_block call env top below a b h = record { by = λ k s. h k s ∙ no_more call env top below (a k s) }

  mutual
    pub item_runs : (call : Call H) (i : Item) (os : Ops) (w : Around) (env : Env) (top : Node) (below : List Node) → ItemWordsStand w i → (k : Children) (s : State H) → runs language call (item_ops i os) env (onto top below k) s ≡ after call os env top below (build language call top.level i env k s)
    item_runs call (node p j ns x c) os w env top below h k s =
        let end = an_op (op_part (node_end p)) os in
        paid_then p (λ s. done (on (opened p j (holds_of c) (suc top.level) ∷ onto top below k)) s) (go_on (runs language call (notes_ops ns (key_ops p x (content_ops p c end))) env)) s
        ∙ paid_ext p _ _ s (λ s.
        notes_run call ns (key_ops p x (content_ops p c end)) env p j (holds_of c) (suc top.level) no_built (onto top below k) s
        ∙ then_ext (notes_meaning language call ns env s) _ _ (λ notes s. key_runs call x (content_ops p c end) env p j (holds_of c) (suc top.level) notes (onto top below k) s
        ∙ then_ext (key_meaning language call p x env s) _ _ (λ key s. content_runs call c os env p j notes key (record top { children = k }) below h s)
        ∙ regroup (key_meaning language call p x env s) (content language call top.level p j c env) (λ key got. add_taken k p notes key got) on (λ f. go_on (runs language call os env) (flow_map (onto top below) f)))
        ∙ sym (then_assoc (notes_meaning language call ns env s) _ (λ f. go_on (runs language call os env) (flow_map (onto top below) f))))
        ∙ sym (paid_then p _ (λ f. go_on (runs language call os env) (flow_map (onto top below) f)) s)
    item_runs call (code x) os w env top below h k s =
        act_runs call os env top below (plain (execute language call x env)) (plain (execute language call x env)) (plain_follows (onto top below) (execute language call x env)) k s
    item_runs call (if_block p e body more) os w env top below h k s =
        act_runs call os env top below (build language call top.level (if_block p e body more) env) (run language call (op_if p (arm e (items_ops body no_ops) (arms more))) env)
        (record { by = λ k s. paid_follows (onto top below) p _ _ s ((when_follows (onto top below) (test_of language call e env) (builds language call top.level body env) (choose language call top.level more env) (runs language call (items_ops body no_ops) env) (run_arms language call (arms more) env) (as_block call env top below (builds language call top.level body env) (runs language call (items_ops body no_ops) env) (items_runs call body no_ops w env top below h.0)) (arms_run call more w env top below h.1)).by k) }) k s
    item_runs call (for_block p x e body) os w env top below h k s =
        act_runs call os env top below (build language call top.level (for_block p x e body) env) (run language call (op_for p x e (items_ops body no_ops)) env)
        (loop_follows (onto top below) language call p x e env (builds language call top.level body env) (runs language call (items_ops body no_ops) env) (as_block call env top below (builds language call top.level body env) (runs language call (items_ops body no_ops) env) (items_runs call body no_ops (within_loop w) env top below h))) k s
    item_runs call (def_block p n x ps j body) os w env top below h k s =
        act_runs call os env top below (plain (define language call p n x ps env)) (plain (define language call p n x ps env)) (plain_follows (onto top below) (define language call p n x ps env)) k s

    pub items_runs : (call : Call H) (t : Items) (os : Ops) (w : Around) (env : Env) (top : Node) (below : List Node) → WordsStand w t → (k : Children) (s : State H) → runs language call (items_ops t os) env (onto top below k) s ≡ after call os env top below (builds language call top.level t env k s)
    items_runs call no_items os w env top below h k s = refl
    items_runs call (an_item i is) os w env top below h k s =
        item_runs call i (items_ops is os) w env top below h.0 k s
        ∙ two_parts call os env top below (build language call top.level i env k s) (builds language call top.level is env) (runs language call (items_ops is os) env) (items_runs call is os w env top below h.1)

    arms_run : (call : Call H) (b : Branches) (w : Around) (env : Env) (top : Node) (below : List Node) → BranchWordsStand w b → Follows (onto top below) (choose language call top.level b env) (run_arms language call (arms b) env)
    arms_run call no_branch w env top below h = record { by = λ k s. refl }
    arms_run call (else_branch p body) w env top below h = as_block call env top below (builds language call top.level body env) (runs language call (items_ops body no_ops) env) (items_runs call body no_ops w env top below h)
    arms_run call (elif_branch p e body more) w env top below h =
        when_follows (onto top below) (test_of language call e env) (builds language call top.level body env) (choose language call top.level more env) (runs language call (items_ops body no_ops) env) (run_arms language call (arms more) env) (as_block call env top below (builds language call top.level body env) (runs language call (items_ops body no_ops) env) (items_runs call body no_ops w env top below h.0)) (arms_run call more w env top below h.1)

    content_runs : (call : Call H) (c : Content) (os : Ops) (env : Env) (p : Place) (j : ItemKind) (ns : BuiltNotes) (key : Option Scalar) (top : Node) (below : List Node) → ContentWordsStand c → (s : State H) →
        runs language call (content_ops p c (an_op (op_part (node_end p)) os)) env (keyed p j (holds_of c) (suc top.level) ns key ∷ top ∷ below) s ≡ then_do (content language call top.level p j c env s) (λ got. ends call os env top below p ns key got)
    content_runs call (written_value t) os env p j ns key top below h s = end_runs call p os env (record (keyed p j holds_one (suc top.level) ns key) { value = taken (one (scalar t)) }) top below s
    content_runs call (value_from e) os env p j ns key top below h s =
        from_value (language.eval call e env s) (take_over p j top.level) (λ b. record (keyed p j holds_one (suc top.level) ns key) { value = b } ∷ top ∷ below) (runs language call (an_op (op_part (node_end p)) os) env) (λ got. ends call os env top below p ns key got)
        (λ b s. end_runs call p os env (record (keyed p j holds_one (suc top.level) ns key) { value = b }) top below s)
    content_runs call (pairs t) os env p j ns key top below h s =
        items_runs call t (an_op (op_part (node_end p)) os) in_node env (keyed p j (holds_of (pairs t)) (suc top.level) ns key) (top ∷ below) h no_children s
        ∙ from_children call p os env (keyed p j (holds_of (pairs t)) (suc top.level) ns key) top below (collected t map_of) (builds language call (suc top.level) t env no_children s) (closed_pairs (is_void t)) (items_good language call (suc top.level) in_node t env h no_children s)
    content_runs call (elements t) os env p j ns key top below h s =
        items_runs call t (an_op (op_part (node_end p)) os) in_node env (keyed p j (holds_of (elements t)) (suc top.level) ns key) (top ∷ below) h no_children s
        ∙ from_children call p os env (keyed p j (holds_of (elements t)) (suc top.level) ns key) top below (collected t list_of) (builds language call (suc top.level) t env no_children s) (closed_elements (is_void t)) (items_good language call (suc top.level) in_node t env h no_children s)
