-- A fault in what waits goes on alike, whichever nodes are open and whatever was waited for; and what comes where something
-- else is waited for is the fault of a program in no proper form.
use Rattle.std.proofs.Common.{◌≡◌, Bool, true, false, List, [], ◌∷◌, refl}
use Rattle.ytt_base.specs.declared.fault.Fault.{Fault}
use Rattle.ytt_base.specs.declared.fault.FaultKind.TheVariants as kind
use Rattle.ytt_base.specs.Outcomes.{fault_of}
use Rattle.star_spec.specs.Flow.{Flow}
use Rattle.value_spec.specs.Outcomes.{State, bad, done}
use Rattle.star_eval.specs.Doing.{Bag, Nodes, Setting}
use Rattle.star_eval.specs.Meets.{Here}
use Rattle.star_eval.specs.Waiting.{Waiting, in_value, in_statement, in_block, in_element, in_clauses, gather, caller, in_native, clause_turn, clause_walk_end, in_env, unwind_bag, unwind_flow, unwind_value}

mutual
  pub value_alike : (c : Setting) (k j : Nodes) (ws : List Waiting) (f : Fault) (s : State Here) → unwind_value c k ws (bad f s) ≡ unwind_value c j ws (bad f s)
  value_alike c k j [] f s = refl
  value_alike c k j (in_value w ∷ ws) f s = value_alike c k j ws f s
  value_alike c k j (in_statement w ∷ ws) f s = refl
  value_alike c k j (in_block w ∷ ws) f s = refl
  value_alike c k j (in_element w ∷ ws) f s = bag_alike c k j ws f s
  value_alike c k j (in_clauses (clause_turn p x cs vs) ∷ ws) f s = bag_alike c k j ws f s
  value_alike c k j (in_clauses (clause_walk_end o) ∷ ws) f s = bag_alike c k j ws f _
  value_alike c k j (gather env ∷ ws) f s = value_alike (in_env c env) k j ws f s
  value_alike c k j (caller call env i fragment ∷ ws) f s = refl
  value_alike c k j (in_native w i ∷ ws) f s = refl

  pub bag_alike : (c : Setting) (k j : Nodes) (ws : List Waiting) (f : Fault) (s : State Here) → unwind_bag c k ws (bad f s) ≡ unwind_bag c j ws (bad f s)
  bag_alike c k j [] f s = refl
  bag_alike c k j (in_value w ∷ ws) f s = value_alike c k j ws f s
  bag_alike c k j (in_statement w ∷ ws) f s = refl
  bag_alike c k j (in_block w ∷ ws) f s = refl
  bag_alike c k j (in_element w ∷ ws) f s = bag_alike c k j ws f s
  bag_alike c k j (in_clauses (clause_turn p x cs vs) ∷ ws) f s = bag_alike c k j ws f s
  bag_alike c k j (in_clauses (clause_walk_end o) ∷ ws) f s = bag_alike c k j ws f _
  bag_alike c k j (gather env ∷ ws) f s = value_alike (in_env c env) k j ws f s
  bag_alike c k j (caller call env i fragment ∷ ws) f s = refl
  bag_alike c k j (in_native w i ∷ ws) f s = refl

-- ---- a fault where something waits

module _ (c : Setting) (k : Nodes) (ws : List Waiting) (f : Fault) (s : State Here) where
  pub flow_fails : (w : Waiting) → unwind_flow c (w ∷ ws) (bad f s) ≡ unwind_value c k (w ∷ ws) (bad f s)
  flow_fails (in_value w) = value_alike c [] k ws f s
  flow_fails (in_statement w) = refl
  flow_fails (in_block w) = refl
  flow_fails (in_element w) = bag_alike c [] k ws f s
  flow_fails (in_clauses (clause_turn p x cs vs)) = bag_alike c [] k ws f s
  flow_fails (in_clauses (clause_walk_end o)) = bag_alike c [] k ws f _
  flow_fails (gather env) = value_alike (in_env c env) [] k ws f s
  flow_fails (caller call env j fragment) = refl
  flow_fails (in_native w j) = refl

  pub bag_fails : (w : Waiting) → unwind_bag c k (w ∷ ws) (bad f s) ≡ unwind_value c k (w ∷ ws) (bad f s)
  bag_fails (in_value w) = refl
  bag_fails (in_statement w) = refl
  bag_fails (in_block w) = refl
  bag_fails (in_element w) = refl
  bag_fails (in_clauses w) = refl
  bag_fails (gather env) = refl
  bag_fails (caller call env j fragment) = refl
  bag_fails (in_native w j) = refl

-- ---- what comes where something else is waited for

-- it waits for the end of a block
abbrev pub takes_flow : Waiting → Bool
takes_flow (in_block w) = true
takes_flow (caller call env j fragment) = true
takes_flow _ = false

-- it waits for what a comprehension gathers
abbrev pub takes_bag : Waiting → Bool
takes_bag (in_clauses w) = true
takes_bag (gather env) = true
takes_bag _ = false

module _ (c : Setting) (k : Nodes) (ws : List Waiting) (s : State Here) where
  pub flow_misplaced : (w : Waiting) (x : Flow Nodes) → takes_flow w ≡ false → unwind_flow c (w ∷ ws) (done x s) ≡ unwind_value c k (w ∷ ws) (bad (fault_of kind.CodeForm) s)
  flow_misplaced (in_value w) x h = value_alike c [] k ws (fault_of kind.CodeForm) s
  flow_misplaced (in_statement w) x h = refl
  flow_misplaced (in_block w) x h = cc
  flow_misplaced (in_element w) x h = bag_alike c [] k ws (fault_of kind.CodeForm) s
  flow_misplaced (in_clauses (clause_turn p t cs vs)) x h = bag_alike c [] k ws (fault_of kind.CodeForm) s
  flow_misplaced (in_clauses (clause_walk_end o)) x h = bag_alike c [] k ws (fault_of kind.CodeForm) _
  flow_misplaced (gather env) x h = value_alike (in_env c env) [] k ws (fault_of kind.CodeForm) s
  flow_misplaced (caller call env j fragment) x h = cc
  flow_misplaced (in_native w j) x h = refl

  pub bag_misplaced : (w : Waiting) (x : Flow Bag) → takes_bag w ≡ false → unwind_bag c k (w ∷ ws) (done x s) ≡ unwind_value c k (w ∷ ws) (bad (fault_of kind.CodeForm) s)
  bag_misplaced (in_value w) x h = refl
  bag_misplaced (in_statement w) x h = refl
  bag_misplaced (in_block w) x h = refl
  bag_misplaced (in_element w) x h = refl
  bag_misplaced (in_clauses w) x h = cc
  bag_misplaced (gather env) x h = cc
  bag_misplaced (caller call env j fragment) x h = refl
  bag_misplaced (in_native w j) x h = refl
