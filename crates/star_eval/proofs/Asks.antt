-- A question goes out of all that waits, and what a host answers comes back into it.
use Rattle.std.proofs.Common.{◌≡◌, List, [], ◌∷◌, Result, Ok, Err, refl, rules, sym, ap, ◌∙◌}
use Rattle.ytt_base.specs.declared.fault.Fault.{Fault}
use Rattle.star_spec.specs.Flow.{Flow}
use Rattle.star_spec.specs.Hosts.{Answers, hosted, with_host, without_host}
use Rattle.value_spec.specs.Outcomes.{Computation, Ending, Question, Reply, State, asks, bad, done, then_do}
use Rattle.value_spec.specs.Values.{Value}
use Rattle.star_eval.specs.Doing.{Bag, Nodes, Setting}
use Rattle.star_eval.specs.Hosted.{hosted_at}
use Rattle.star_eval.specs.Meets.{Here}
use Rattle.star_eval.specs.Waiting.{Final, Waiting, in_value, in_statement, in_block, in_element, in_clauses, gather, caller, in_native, turn, rest, walk_end, clause_turn, clause_walk_end, end_env, flow_ends, in_env, setting, unwind_bag, unwind_flow, unwind_value, value_ends}

module _ (q : Question) (s : State Here) where
  -- the end is the question, with the end that follows from each answer
  pub record GoesOut (all : Final) (each : Result Reply Fault → State Here → Final) : Type 0 where
    pub env : (got : Result Reply Fault) (t : State Here) → end_env all ≡ end_env (each got t)
    pub flow : flow_ends all ≡ asks q s (λ got t. flow_ends (each got t))
    pub value : value_ends all ≡ asks q s (λ got t. value_ends (each got t))

  mutual
    pub value_out : (c : Setting) (k : Nodes) (ws : List Waiting) (f : Result Reply Fault → State Here → Ending Here Value) → GoesOut (unwind_value c k ws (asks q s f)) (λ got t. unwind_value c k ws (f got t))
    value_out c k [] f = record { env = λ got t. refl; flow = refl; value = refl }
    value_out c k (in_value w ∷ ws) f = value_out c k ws _
    value_out c k (in_statement w ∷ ws) f = flow_out c ws _
    value_out c k (in_block (turn p x os vs) ∷ ws) f = flow_out c ws _
    value_out c k (in_block (rest os) ∷ ws) f = flow_out c ws _
    value_out c k (in_block (walk_end o) ∷ ws) f = flow_out c ws _
    value_out c k (in_element w ∷ ws) f = bag_out c k ws _
    value_out c k (in_clauses (clause_turn p x cs vs) ∷ ws) f = bag_out c k ws _
    value_out c k (in_clauses (clause_walk_end o) ∷ ws) f = bag_out c k ws _
    value_out c k (gather env ∷ ws) f = value_out (in_env c env) k ws _
    value_out c k (caller g env j fragment ∷ ws) f = value_out (setting g env) j ws _
    value_out c k (in_native w j ∷ ws) f = value_out c j ws _

    flow_out : (c : Setting) (ws : List Waiting) (f : Result Reply Fault → State Here → Ending Here (Flow Nodes)) → GoesOut (unwind_flow c ws (asks q s f)) (λ got t. unwind_flow c ws (f got t))
    flow_out c [] f = record { env = λ got t. refl; flow = refl; value = refl }
    flow_out c (in_value w ∷ ws) f = value_out c [] ws _
    flow_out c (in_statement w ∷ ws) f = flow_out c ws _
    flow_out c (in_block (turn p x os vs) ∷ ws) f = flow_out c ws _
    flow_out c (in_block (rest os) ∷ ws) f = flow_out c ws _
    flow_out c (in_block (walk_end o) ∷ ws) f = flow_out c ws _
    flow_out c (in_element w ∷ ws) f = bag_out c [] ws _
    flow_out c (in_clauses (clause_turn p x cs vs) ∷ ws) f = bag_out c [] ws _
    flow_out c (in_clauses (clause_walk_end o) ∷ ws) f = bag_out c [] ws _
    flow_out c (gather env ∷ ws) f = value_out (in_env c env) [] ws _
    flow_out c (caller g env j fragment ∷ ws) f = value_out (setting g env) j ws _
    flow_out c (in_native w j ∷ ws) f = value_out c j ws _

    bag_out : (c : Setting) (k : Nodes) (ws : List Waiting) (f : Result Reply Fault → State Here → Ending Here (Flow Bag)) → GoesOut (unwind_bag c k ws (asks q s f)) (λ got t. unwind_bag c k ws (f got t))
    bag_out c k [] f = record { env = λ got t. refl; flow = refl; value = refl }
    bag_out c k (in_value w ∷ ws) f = value_out c k ws _
    bag_out c k (in_statement w ∷ ws) f = flow_out c ws _
    bag_out c k (in_block (turn p x os vs) ∷ ws) f = flow_out c ws _
    bag_out c k (in_block (rest os) ∷ ws) f = flow_out c ws _
    bag_out c k (in_block (walk_end o) ∷ ws) f = flow_out c ws _
    bag_out c k (in_element w ∷ ws) f = bag_out c k ws _
    bag_out c k (in_clauses (clause_turn p x cs vs) ∷ ws) f = bag_out c k ws _
    bag_out c k (in_clauses (clause_walk_end o) ∷ ws) f = bag_out c k ws _
    bag_out c k (gather env ∷ ws) f = value_out (in_env c env) k ws _
    bag_out c k (caller g env j fragment ∷ ws) f = value_out (setting g env) j ws _
    bag_out c k (in_native w j ∷ ws) f = value_out c j ws _

-- ---- among the answers of a host

module _ {H : Type 0} (answers : Answers H) where
  -- where the host has answered so
  pub answered_at : (q : Question) (s t : State Here) (all : Final) (each : Result Reply Fault → State Here → Final) (got : Result Reply Fault) (then now : H) →
      GoesOut q s all each → answers q (with_host then s) ≡ (got, with_host now t) → hosted_at answers (each got t) now ≡ hosted_at answers all then
  answered_at q s t all each got then now out is = sym (λ i. record {
    env = out.env got t i;
    flow = (ap (λ e. hosted answers e then) out.flow ∙ ap (λ r. hosted answers (flow_ends (each r.0 (without_host r.1))) r.1.host) is) i;
    value = (ap (λ e. hosted answers e then) out.value ∙ ap (λ r. hosted answers (value_ends (each r.0 (without_host r.1))) r.1.host) is) i;
  })

  -- what goes on from a value among the answers
  pub hosted_then : {A B : Type 0} (o : Ending Here A) (k : A → Computation Here B) (a : A) (t : State Here) (then now : H) → (Ok a, with_host now t) ≡ hosted answers o then → hosted answers (then_do o k) then ≡ hosted answers (k a t) now
  hosted_then (done b s) k a t then now e =
      let same : a ≡ b = search (rules, e) in
      let state : t ≡ s = search (rules, e) in
      let host : now ≡ then = search (rules, e) in
      λ i. hosted answers (k (sym same i) (sym state i)) (sym host i)
  hosted_then (bad f s) k a t then now e = search (rules, e)
  hosted_then (asks q s n) k a t then now e = hosted_then (n (answers q (with_host then s)).0 (without_host (answers q (with_host then s)).1)) k a t (answers q (with_host then s)).1.host now e

  pub hosted_fails : {A B : Type 0} (o : Ending Here A) (k : A → Computation Here B) (f : Fault) (t : State Here) (then now : H) → (Err f, with_host now t) ≡ hosted answers o then → hosted answers (then_do o k) then ≡ (Err f, with_host now t)
  hosted_fails (done b s) k f t then now e = search (rules, e)
  hosted_fails (bad g s) k f t then now e =
      let same : f ≡ g = search (rules, e) in
      let state : t ≡ s = search (rules, e) in
      let host : now ≡ then = search (rules, e) in
      λ i. (Err (sym same i), with_host (sym host i) (sym state i))
  hosted_fails (asks q s n) k f t then now e = hosted_fails (n (answers q (with_host then s)).0 (without_host (answers q (with_host then s)).1)) k f t (answers q (with_host then s)).1.host now e
