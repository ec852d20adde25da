-- What the machine stands for: what comes of a control in what waits around it.
use Rattle.std.specs.Prelude.{◌≡◌, ℕ, ◌-◌, ◌++◌, ◌∷◌, [], length, Bool, true, false, not, List, Option, Result, Ok, Err, IfOk}
use Rattle.std.specs.Option.{option_map}
use Rattle.code_spec.specs.Code.{Expr, Name}
use Rattle.node_build.specs.View.{OwnsNodes, nodes_of}
use Rattle.node_build.specs.declared.builder.Builder.{Builder}
use Rattle.star_resolve.specs.Frames.{boxed, with_unset}
use Rattle.star_resolve.specs.Variables.{each_once}
use Rattle.star_tree.specs.View.{item_kind_of}
use Rattle.star_tree.specs.declared.program.ItemKind.{ItemKind}
use Rattle.star_steps.specs.Meets.{state_in}
use Rattle.star_values.specs.Objects.{env_in}
use Rattle.star_values.specs.Owns.{Grows, Owns, OwnsEnv}
use Rattle.star_values.specs.declared.object.NamedBox.{NamedBox}
use Rattle.star_values.specs.declared.value.Value.{Value}
use Rattle.template_meaning.specs.Calls.{bottom, bottom_flow, level_of, result_of}
use Rattle.value_spec.specs.Values.{Env}
use Rattle.ytt_base.specs.declared.fault.Fault.{Fault}
use Rattle.value_spec.specs.Members.{is_empty}
use Rattle.value_spec.specs.Outcomes.{State, Reply, Ending, Computation, done, bad}
use Rattle.value_spec.specs.Values as plain
use Rattle.star_spec.specs.Flow.{Flow, on, out}
use Rattle.star_spec.specs.Language.{breaks, continues, returns}
use Rattle.star_tree.specs.Listed.{clauses_of}
use Rattle.star_tree.specs.Whole.{expr_of}
use Rattle.star_blocks.specs.Nested.{ops_of}
use Rattle.star_values.specs.View.{View, value_of}
use Rattle.star_eval.specs.declared.frame.Asking.{Asking}
use Rattle.star_eval.specs.declared.frame.Control.{Control}
use Rattle.star_eval.specs.declared.frame.Control.TheVariants as control
use Rattle.star_eval.specs.declared.frame.Flow as held
use Rattle.star_eval.specs.declared.frame.Flow.TheVariants as flow
use Rattle.star_eval.specs.declared.frame.Frame.TheVariants as frame
use Rattle.star_eval.specs.declared.frame.Machine.{Machine}
use Rattle.star_eval.specs.declared.frame.Question.{Question}
use Rattle.star_eval.specs.Calling.{after_question, after_replied}
use Rattle.star_eval.specs.Hosts.{host_held, host_name, native_at, question_of}
use Rattle.star_eval.specs.declared.session.Session.{Session}
use Rattle.star_eval.specs.Meets.{Here, arena_of, state_of}
use Rattle.star_eval.specs.Doing.{Bag, Nodes, assigned, clauses_done, evaluated, through}
use Rattle.star_eval.specs.View.{OwnsControl, Sound, arena_in, bag_of, in_file, nodes_in, setting_of, waiting_in}
use Rattle.star_eval.specs.Waiting.{Final, Waiting, unwind_bag, unwind_flow, unwind_value, with_none}

-- what comes of an ending of a value in what waits, in the setting of the machine and with its nodes
abbrev pub around_value : Machine → List Waiting → Ending Here plain.Value → Final
around_value m ws r = unwind_value (setting_of m) (nodes_in m) ws r

-- of an ending of a block
abbrev pub around_flow : Machine → List Waiting → Ending Here (Flow Nodes) → Final
around_flow m ws r = unwind_flow (setting_of m) ws r

-- and of an ending of a comprehension
abbrev pub around_bag : Machine → List Waiting → Ending Here (Flow Bag) → Final
around_bag m ws r = unwind_bag (setting_of m) (nodes_in m) ws r

abbrev pub flow_of : View → held.Flow → Nodes → Flow Nodes
flow_of a flow.On k = on k
flow_of a flow.Break k = out breaks k
flow_of a flow.Continue k = out continues k
flow_of a (flow.Return v) k = out (returns (value_of a v)) k

-- what follows from what a host is asked
abbrev pub asked_in : Machine → Asking → Question → Computation Here plain.Value
asked_in m k q =
    let x = native_at (arena_in m) k.native in
    after_question (setting_of m).function k.left k.place (host_name x) (host_held x) (question_of (arena_in m) k q)

-- and from what it answered
abbrev pub after_answer : Machine → Asking → Reply → Computation Here plain.Value
after_answer m k r = let x = native_at (arena_in m) k.native in after_replied (setting_of m).function k.left k.place (host_name x) (host_held x) r

-- what comes of a control in what waits
abbrev pub inside : Machine → List Waiting → Control → Final
inside m ws (control.Eval e) = around_value m ws (evaluated (setting_of m) (expr_of m.code.file e.now) (state_of m.session))
inside m ws (control.Gave v) = around_value m ws (done (value_of (arena_in m) v) (state_of m.session))
inside m ws (control.Failed f) = around_value m ws (bad f (state_of m.session))
inside m ws (control.Run os) = around_flow m ws (through (setting_of m) (ops_of m.code.file os.now) (nodes_in m) (state_of m.session))
inside m ws (control.Went w) = around_flow m ws (done (flow_of (arena_in m) w (nodes_in m)) (state_of m.session))
inside m ws (control.Left f) = around_flow m ws (bad f (state_of m.session))
inside m ws (control.Assign p x v) = around_value m ws (with_none (assigned (setting_of m) p (expr_of m.code.file x.now) (value_of (arena_in m) v)) (state_of m.session))
inside m ws (control.Clauses p cs b) = around_bag m ws (clauses_done (setting_of m) p (clauses_of m.code.file cs.now) (bag_of (arena_in m) m.code.file b) (state_of m.session))
inside m ws (control.Bagged b) = around_bag m ws (done (on (bag_of (arena_in m) m.code.file b)) (state_of m.session))
inside m ws (control.Lost f) = around_bag m ws (bad f (state_of m.session))
inside m ws (control.Ask k q) = around_value m ws (asked_in m k q (state_of m.session))

abbrev pub means : Machine → Control → Final
means m c = inside m (waiting_in m) c

-- What a call leaves goes on to what there was before, all that it holds is owned, and the arena has grown from this one.
pub record Goes (a : View) (m : Machine) (c : Control) (before : Final) : Type 0 where
  pub same : means m c ≡ before
  pub sound : Sound m
  pub owned : OwnsControl (arena_in m) c
  pub grows : Grows a (arena_in m)

-- what a call leaves goes on to this
abbrev pub GoesTo : {E : Type 0} → Result Control E → (after before : Machine) → Final → Type 0
GoesTo r n m f = IfOk r (λ c. Goes (arena_in m) n c f)

-- a call goes on to what comes of a value's computation, of a part of a block, or of a comprehension, in what waited
abbrev pub GoesToValue : {E : Type 0} → Result Control E → (after before : Machine) → Computation Here plain.Value → Type 0
GoesToValue r n m f = GoesTo r n m (around_value m (waiting_in m) (f (state_of m.session)))

abbrev pub GoesToFlow : {E : Type 0} → Result Control E → (after before : Machine) → Computation Here (Flow Nodes) → Type 0
GoesToFlow r n m f = GoesTo r n m (around_flow m (waiting_in m) (f (state_of m.session)))

abbrev pub GoesToBag : {E : Type 0} → Result Control E → (after before : Machine) → Computation Here (Flow Bag) → Type 0
GoesToBag r n m f = GoesTo r n m (around_bag m (waiting_in m) (f (state_of m.session)))

-- this value, with so many steps left, is what an expression comes to, and nothing else changes
pub record Known (m : Machine) (e : Expr) (found : Value × ℕ) : Type 0 where
  pub value : evaluated (setting_of m) e (state_of m.session) ≡ done (value_of (arena_in m) found.0) (state_in (arena_in m) found.1)
  pub owned : Owns (arena_in m) found.0

-- ---- the end

-- there is more to do
abbrev pub is_active : Machine → Control → Bool
is_active m (control.Gave v) = not (is_empty m.frames)
is_active m (control.Failed f) = not (is_empty m.frames)
is_active m (control.Went w) = not (is_empty m.frames)
is_active m (control.Left f) = not (is_empty m.frames)
is_active m (control.Bagged b) = not (is_empty m.frames)
is_active m (control.Lost f) = not (is_empty m.frames)
is_active m _ = true

-- a host is asked
abbrev pub asks_host : Control → Bool
asks_host (control.Ask k q) = true
asks_host _ = false

-- how a block ended that goes on to this, with this fault where something else comes
abbrev pub left_by : Fault → Control → Result held.Flow Fault
left_by form (control.Went w) = Ok w
left_by form (control.Failed f) = Err f
left_by form (control.Left f) = Err f
left_by form (control.Lost f) = Err f
left_by form _ = Err form

-- what a call gave that goes on to this
abbrev pub given_by : Fault → Control → Result Value Fault
given_by form (control.Gave v) = Ok v
given_by form (control.Failed f) = Err f
given_by form (control.Left f) = Err f
given_by form (control.Lost f) = Err f
given_by form _ = Err form

-- a value or a fault is how a call ends in this state
abbrev pub value_ending_of : View → Result Value Fault → State Here → Ending Here plain.Value
value_ending_of a (Ok v) s = done (value_of a v) s
value_ending_of a (Err f) s = bad f s

-- an end or a fault is how a block ends with these nodes open in this state
abbrev pub flow_ending_of : View → Result held.Flow Fault → Nodes → State Here → Ending Here (Flow Nodes)
flow_ending_of a (Ok w) k s = done (flow_of a w k) s
flow_ending_of a (Err f) k s = bad f s

-- ---- calls

-- A call of a function of this file has begun: its caller waits, and what it builds is empty.
pub record Opened (file : ℕ) (fragment : Option ItemKind) (scope : List NamedBox) (before after : Machine) : Type 0 where
  pub nodes : Builder
  pub is : after ≡ record before {
    code = in_file file before.code;
    depth = before.depth - 1;
    scope = scope;
    nodes = nodes;
    frames = before.frames ++ frame.Call (record { file = before.code.file; depth = before.depth; scope = before.scope; nodes = before.nodes; fragment = fragment }) ∷ [];
  }
  pub meaning : (a : View) → nodes_of a nodes ≡ bottom (level_of (option_map item_kind_of fragment)) ∷ []
  pub owned : (a : View) → OwnsNodes a nodes

-- A native waits for the call with this tag, which it asked for, with the nodes that were open.
pub record Waits (asking : Asking) (tag : ℕ) (before after : Machine) : Type 0 where
  pub nodes : Builder
  pub is : after ≡ record before { nodes = nodes; frames = before.frames ++ frame.Native (record { asking = asking; tag = tag; nodes = before.nodes }) ∷ [] }
  pub owned : (a : View) → OwnsNodes a nodes

-- What a call gives whose block ended so. Nothing that waits has changed.
pub record ResultGiven (fragment : Option ItemKind) (flow : held.Flow) (before after : Machine) (v : Value) : Type 0 where
  pub value : value_of (arena_in after) v ≡ result_of (option_map item_kind_of fragment) (bottom_flow (flow_of (arena_in before) flow (nodes_in before)))
  pub owned : Owns (arena_in after) v
  pub code : after.code ≡ before.code
  pub frames : after.frames ≡ before.frames
  pub state : state_of after.session ≡ state_of before.session
  pub grows : Grows (arena_in before) (arena_in after)

-- ---- comprehensions

-- Each of these names has got a new box, in front of these variables.
pub record OpensClauses (names : List Name) (outer : Env) (before after : Session) (scope : List NamedBox) : Type 0 where
  pub env : env_in (arena_of after).held scope ≡ boxed (length (arena_of before).store) (each_once names) [] ++ outer
  pub owned : OwnsEnv (arena_of after) scope
  pub state : state_of after ≡ with_unset (length (each_once names)) (state_of before)
  pub grows : Grows (arena_of before) (arena_of after)
