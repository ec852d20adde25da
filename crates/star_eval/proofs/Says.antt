-- What the machine does is what the language says.
use Rattle.std.proofs.Common.{◌≡◌, ℕ, List, [], ◌∷◌, ◌++◌, Bool, true, false, Option, Some, None, if◌then◌else◌, refl, ap, sym, ◌∙◌}
use Rattle.std.specs.Prelude.{unwrap_or}
use Rattle.ytt_base.specs.declared.fault.Place.{Place}
use Rattle.code_spec.specs.Blocks.{Op, op_part, op_statement, op_if, op_for, op_def, Arms, no_arm, else_arm, arm}
use Rattle.code_spec.specs.Code as plain
use Rattle.code_spec.specs.Names.{target_names, clauses_names}
use Rattle.code_spec.specs.Program.{NodePart, node_start, node_note, node_key, node_key_from, node_value, node_value_from, node_end}
use Rattle.index_spec.specs.Index.{index_row, set_index_row}
use Rattle.index_spec.specs.Slices.{slice_row}
use Rattle.node_build.specs.Parts.{noting}
use Rattle.builtin_spec.specs.Operators.{assignment_row}
use Rattle.star_calls.specs.Arguments.{both, none_given}
use Rattle.star_spec.specs.Eval.{assign_to, augment_to, built_so_far, clauses_in_turn, comprehend, eval, eval_arguments, eval_optional, members_of, starlark, truth_of, turn_pair}
use Rattle.star_spec.specs.Flow.{Flow, on, out, Part, over_members, plain as as_part, worded}
use Rattle.star_spec.specs.Language.{Call, Word, breaks, continues, returns, define, execute}
use Rattle.star_spec.specs.Names.{box_of, read_name, with_boxes, write_name}
use Rattle.template_meaning.proofs.Follows.{Follows, mapped, turns_follow, value_follows, walk_follows}
use Rattle.template_meaning.specs.Run.{node_part, run_arms}
use Rattle.value_spec.specs.Outcomes.{Computation, Ending, State, asks, bad, done, give, new_dict, new_list, paid, take_steps, then_do, ◌>>=◌}
use Rattle.value_spec.specs.Values.{Arguments, arguments, Env, Value, none_value}
use Rattle.star_eval.specs.Doing.{Bag, Nodes, Setting, acted, all_calls, arms_done, assigned, augmented, bag_made, bound_then, changed_at, comprehended, cut, done_after, element_done, evaluated, flow_made, making, op_done, op_place, op_through, pairs_bag, part_done, place_in, stated, statement_place, step_at, through, values_bag}
use Rattle.star_eval.specs.Meets.{Here}
use Rattle.star_eval.proofs.Chaining.{chained}

-- ---- what follows

paid_on : {A B : Type 0} (p : Place) (m : Computation Here A) (g : A → Computation Here B) → (paid p m >>= g) ≡ paid p (m >>= g)
paid_on p m g = chained (take_steps 1 p) (λ u. m) g

chosen : {K : Type 0} (c : Bool) (a b : Part Here K) (k : K) → (if c then a k else b k) ≡ (if c then a else b) k
chosen true a b k = refl
chosen false a b k = refl

-- nothing is given before
pub none_before : (vs : Arguments) → both none_given vs ≡ vs
none_before (arguments vs fs) = refl

-- ---- comprehensions

module _ (call : Call Here) (p : Place) {K L : Type 0} (g : K → L) where
  over_follows : (m : Computation Here (List Value)) (bind : Value → Computation Here (Unit {0})) (v : Value) (a : Part Here K) (b : Part Here L) → Follows g a b → Follows g (over_members p m bind v a) (over_members p m bind v b)
  over_follows m bind v a b h = record {
    by = λ k s. value_follows g (m s) _ _ (λ vs s.
        (walk_follows g v _ _ (turns_follow g p (λ w j. bind w >>= λ u. a j) (λ w j. bind w >>= λ u. b j) (λ w. record { by = λ j s. value_follows g (bind w s) _ _ (λ u s. h.by j s) }) vs)).by k s);
  }

  where_true : (a : Part Here K) (b : Part Here L) → Follows g a b → (holds : Bool) (k : K) (s : State Here) → (if holds then b (g k) else give (on (g k))) s ≡ mapped g ((if holds then a k else give (on k)) s)
  where_true a b h true k s = h.by k s
  where_true a b h false k s = refl

  clauses_follow : (a : Env → Part Here K) (b : Env → Part Here L) → ((env : Env) → Follows g (a env) (b env)) → (cs : plain.Clauses) (env : Env) → Follows g (clauses_in_turn call p a cs env) (clauses_in_turn call p b cs env)
  clauses_follow a b h plain.no_clauses env = h env
  clauses_follow a b h (plain.for_clause x e cs) env = record {
    by = λ k s. value_follows g (eval call e env s) _ _ (λ v s. (over_follows (members_of p v) (λ w. assign_to call p x w env) v (clauses_in_turn call p a cs env) (clauses_in_turn call p b cs env) (clauses_follow a b h cs env)).by k s);
  }
  clauses_follow a b h (plain.if_clause e cs) env = record {
    by = λ k s. value_follows g (eval call e env s) _ _ (λ v s. value_follows g (truth_of v s) _ _ (λ holds s. where_true (clauses_in_turn call p a cs env) (clauses_in_turn call p b cs env) (clauses_follow a b h cs env) holds k s));
  }

  comprehend_follows : (a : Env → Part Here K) (b : Env → Part Here L) → ((env : Env) → Follows g (a env) (b env)) → (cs : plain.Clauses) (env : Env) → Follows g (comprehend call p a cs env) (comprehend call p b cs env)
  comprehend_follows a b h (plain.for_clause x e cs) env = record {
    by = λ k s. value_follows g (eval call e env s) _ _ (λ v s. value_follows g (with_boxes (target_names x ++ clauses_names cs) [] s) _ _ (λ own s.
        (over_follows (members_of p v) (λ w. assign_to call p x w (own ++ env)) v (clauses_in_turn call p a cs (own ++ env)) (clauses_in_turn call p b cs (own ++ env)) (clauses_follow a b h cs (own ++ env))).by k s));
  }
  comprehend_follows a b h plain.no_clauses env = record { by = λ k s. refl }
  comprehend_follows a b h (plain.if_clause e cs) env = record { by = λ k s. refl }

-- what is made of what was gathered
made_of : {K : Type 0} (g : K → Bag) (make : K → Computation Here Value) → ((k : K) → bag_made (g k) ≡ make k) → (r : Ending Here (Flow K)) → then_do (mapped g r) flow_made ≡ then_do r (λ f. make (built_so_far f))
made_of g make h (done (on k) s) = λ i. h k i s
made_of g make h (done (out w k) s) = λ i. h k i s
made_of g make h (bad f s) = refl
made_of g make h (asks q s k) = λ i. asks q s (λ got t. made_of g make h (k got t) i)

module _ (c : Setting) where
  list_gathered : (p : Place) (e : plain.Expr) (cs : plain.Clauses) →
      comprehended c p cs (values_bag e []) ≡ (comprehend (all_calls c) p (λ scope vs. eval (all_calls c) e scope >>= λ v. give (on (vs ++ v ∷ []))) cs c.env [] >>= λ f. new_list (built_so_far f))
  list_gathered p e cs = λ i s.
      (ap (λ r. then_do r flow_made)
      ((comprehend_follows (all_calls c) p (values_bag e) (λ scope vs. eval (all_calls c) e scope >>= λ v. give (on (vs ++ v ∷ []))) (element_done (all_calls c) p) (λ env. record { by = λ vs s. value_follows (values_bag e) (eval (all_calls c) e env s) _ _ (λ v s. refl) }) cs c.env).by [] s)
      ∙ made_of (values_bag e) new_list (λ vs. refl) (comprehend (all_calls c) p (λ scope vs. eval (all_calls c) e scope >>= λ v. give (on (vs ++ v ∷ []))) cs c.env [] s)) i

  abbrev Pair : Place → plain.Expr → plain.Expr → Env → Part Here (List (Value × Value))
  Pair p e d scope ps = eval (all_calls c) e scope >>= λ k. eval (all_calls c) d scope >>= λ v. turn_pair p ps k v >>= λ all. give (on all)

  pair_follows : (p : Place) (e d : plain.Expr) (env : Env) → Follows (pairs_bag e d) (Pair p e d env) (element_done (all_calls c) p env)
  pair_follows p e d env = record {
    by = λ ps s. value_follows (pairs_bag e d) (eval (all_calls c) e env s) _ _ (λ k s. value_follows (pairs_bag e d) (eval (all_calls c) d env s) _ _ (λ v s. value_follows (pairs_bag e d) (turn_pair p ps k v s) _ _ (λ all s. refl)));
  }

  dict_gathered : (p : Place) (e d : plain.Expr) (cs : plain.Clauses) → comprehended c p cs (pairs_bag e d []) ≡ (comprehend (all_calls c) p (Pair p e d) cs c.env [] >>= λ f. new_dict (built_so_far f))
  dict_gathered p e d cs = λ i s.
      (ap (λ r. then_do r flow_made) ((comprehend_follows (all_calls c) p (pairs_bag e d) (Pair p e d) (element_done (all_calls c) p) (pair_follows p e d) cs c.env).by [] s)
      ∙ made_of (pairs_bag e d) new_dict (λ ps. refl) (comprehend (all_calls c) p (Pair p e d) cs c.env [] s)) i

  -- ---- expressions

  -- the value of a part of a slice, and what follows
  bound_says : (o : plain.OptionalExpr) (f : Value → Computation Here Value) → bound_then c o f ≡ (eval_optional (all_calls c) o c.env >>= λ v. f (unwrap_or v none_value))
  bound_says plain.absent f = refl
  bound_says (plain.present e) f = sym (chained (evaluated c e) (λ v. give (Some v)) (λ v. f (unwrap_or v none_value)))

  slice_says : (p : Place) (a : plain.Expr) (l u d : plain.OptionalExpr) → paid p (acted c p (plain.slice p a l u d)) ≡ evaluated c (plain.slice p a l u d)
  slice_says p a l u d =
      (λ i. paid p (evaluated c a >>= λ x. bound_says l (λ y. bound_then c u (λ z. bound_then c d (λ w. slice_row p x (cut y z w)))) i))
      ∙ (λ i. paid p (evaluated c a >>= λ x. eval_optional (all_calls c) l c.env >>= λ y. bound_says u (λ z. bound_then c d (λ w. slice_row p x (cut (unwrap_or y none_value) z w))) i))
      ∙ (λ i. paid p (evaluated c a >>= λ x. eval_optional (all_calls c) l c.env >>= λ y. eval_optional (all_calls c) u c.env >>= λ z. bound_says d (λ w. slice_row p x (cut (unwrap_or y none_value) (unwrap_or z none_value) w)) i))

  abbrev Stepped : plain.Expr → Computation Here Value
  Stepped e = step_at (place_in e) (λ p. acted c p e)

  says : (e : plain.Expr) → Stepped e ≡ evaluated c e
  says (plain.call p f es) = λ i. paid p (evaluated c f >>= λ g. eval_arguments (all_calls c) es c.env >>= λ vs. all_calls c p g (none_before vs i))
  says (plain.slice p a l u d) = slice_says p a l u d
  says (plain.list_comprehension p e cs) = λ i. paid p (list_gathered p e cs i)
  says (plain.dict_comprehension p e d cs) = λ i. paid p (dict_gathered p e d cs i)
  says e = refl

  pub acts_as : (e : plain.Expr) (p : Place) → place_in e ≡ Some p → paid p (acted c p e) ≡ evaluated c e
  acts_as e p h = ap (λ o. step_at o (λ p. acted c p e)) (sym h) ∙ says e

  -- ---- statements

  -- behind what is indexed
  index_changed : (o : plain.BinaryOperator) (q r : Place) (j e : plain.Expr) (x : Value) (k : Nodes) →
      ((evaluated c j >>= λ y. index_row r x y >>= λ old. evaluated c e >>= λ v. assignment_row q o old v >>= λ w. set_index_row r x y w) >>= λ u. give (on k))
      ≡ (evaluated c j >>= λ y. index_row r x y >>= λ old. evaluated c e >>= λ v. changed_at q o r x y old v k)
  index_changed o q r j e x k =
      chained (evaluated c j) (λ y. index_row r x y >>= λ old. evaluated c e >>= λ v. assignment_row q o old v >>= λ w. set_index_row r x y w) (λ u. give (on k))
      ∙ (λ i. evaluated c j >>= λ y. chained (index_row r x y) (λ old. evaluated c e >>= λ v. assignment_row q o old v >>= λ w. set_index_row r x y w) (λ u. give (on k)) i)
      ∙ (λ i. evaluated c j >>= λ y. index_row r x y >>= λ old. chained (evaluated c e) (λ v. assignment_row q o old v >>= λ w. set_index_row r x y w) (λ u. give (on k)) i)
      ∙ (λ i. evaluated c j >>= λ y. index_row r x y >>= λ old. evaluated c e >>= λ v. chained (assignment_row q o old v) (λ w. set_index_row r x y w) (λ u. give (on k)) i)

  augmented_says : (p : Place) (o : plain.BinaryOperator) (q : Place) (x e : plain.Expr) (k : Nodes) → augmented c o q x e k ≡ (augment_to (all_calls c) p o q x e c.env >>= λ u. give (on k))
  augmented_says p o q (plain.name r x) e k = sym (
      chained (read_name r x (box_of x c.env)) (λ old. evaluated c e >>= λ v. assignment_row q o old v >>= λ w. write_name r x w (box_of x c.env)) (λ u. give (on k))
      ∙ (λ i. read_name r x (box_of x c.env) >>= λ old. chained (evaluated c e) (λ v. assignment_row q o old v >>= λ w. write_name r x w (box_of x c.env)) (λ u. give (on k)) i)
      ∙ (λ i. read_name r x (box_of x c.env) >>= λ old. evaluated c e >>= λ v. chained (assignment_row q o old v) (λ w. write_name r x w (box_of x c.env)) (λ u. give (on k)) i))
  augmented_says p o q (plain.index r a j) e k = sym (
      chained (evaluated c a) (λ x. evaluated c j >>= λ y. index_row r x y >>= λ old. evaluated c e >>= λ v. assignment_row q o old v >>= λ w. set_index_row r x y w) (λ u. give (on k))
      ∙ (λ i. evaluated c a >>= λ x. index_changed o q r j e x k i))
  augmented_says p o q x e k = refl

  abbrev Then : Nodes → Option Word → Computation Here (Flow Nodes)
  Then k w = give (worded k w)

  -- what follows from one value, in a statement
  ends : {A : Type 0} (p : Place) (m : Computation Here A) (f : A → Computation Here (Option Word)) (k : Nodes) → paid p (m >>= λ a. f a >>= Then k) ≡ as_part (paid p (m >>= f)) k
  ends p m f k = sym (paid_on p (m >>= f) (Then k) ∙ (λ i. paid p (chained m f (Then k) i)))

  simple_says : (s : plain.Statement) (k : Nodes) → paid (statement_place s) (stated c (statement_place s) s k) ≡ as_part (execute starlark (all_calls c) s c.env) k
  simple_says (plain.evaluate p e) k = ends p (evaluated c e) (λ v. give None) k
  simple_says (plain.assign p x e) k =
      (λ i. paid p (evaluated c e >>= λ v. sym (chained (assigned c p x v) (λ u. give None) (Then k)) i)) ∙ ends p (evaluated c e) (λ v. assigned c p x v >>= λ u. give None) k
  simple_says (plain.augment p o q x e) k = (λ i. paid p (augmented_says p o q x e k i)) ∙ ends p (augment_to (all_calls c) p o q x e c.env) (λ u. give None) k
  simple_says (plain.load p path xs) k = sym (paid_on p (give None) (Then k))
  simple_says (plain.return p e) k = ends p (evaluated c e) (λ v. give (Some (returns v))) k
  simple_says (plain.break p) k = sym (paid_on p (give (Some breaks)) (Then k))
  simple_says (plain.continue p) k = sym (paid_on p (give (Some continues)) (Then k))
  simple_says (plain.pass p) k = sym (paid_on p (give None) (Then k))

  define_says : (p : Place) (n : ℕ) (x : plain.Name) (ps : plain.Parameters) (k : Nodes) →
      paid p (making c (record { place = p; name = x; number = n }) ps [] >>= λ f. write_name p x f (box_of x c.env) >>= λ u. give (on k)) ≡ as_part (define starlark (all_calls c) p n x ps c.env) k
  define_says p n x ps k =
      (λ i. paid p (making c (record { place = p; name = x; number = n }) ps [] >>= λ f. sym (chained (write_name p x f (box_of x c.env)) (λ u. give None) (Then k)) i))
      ∙ ends p (making c (record { place = p; name = x; number = n }) ps []) (λ f. write_name p x f (box_of x c.env) >>= λ u. give None) k

  arms_say : (bs : Arms) (k : Nodes) → arms_done c bs k ≡ run_arms starlark (all_calls c) bs c.env k
  arms_say no_arm k = refl
  arms_say (else_arm os) k = refl
  arms_say (arm e os bs) k =
      (λ i. evaluated c e >>= λ v. truth_of v >>= λ holds. if holds then through c os k else arms_say bs k i)
      ∙ (λ i. evaluated c e >>= λ v. truth_of v >>= λ holds. chosen holds (through c os) (run_arms starlark (all_calls c) bs c.env) k i)
      ∙ sym (chained (evaluated c e) truth_of (λ holds. (if holds then through c os else run_arms starlark (all_calls c) bs c.env) k))

  -- ---- parts of nodes

  value_says : (p : Place) (e : plain.Expr) (k : Nodes) → part_done c (node_value_from p e) k ≡ node_part starlark (all_calls c) (node_value_from p e) c.env k
  value_says p e [] = refl
  value_says p e (n ∷ []) = refl
  value_says p e (n ∷ m ∷ ls) = refl

  note_says : (p : Place) (x : plain.Name) (es : plain.Exprs) (k : Nodes) → part_done c (node_note p x es) k ≡ node_part starlark (all_calls c) (node_note p x es) c.env k
  note_says p x es [] = refl
  note_says p x es (n ∷ ns) = λ i. eval_arguments (all_calls c) es c.env >>= λ vs. noting x (none_before vs i) (n ∷ ns)

  key_says : (p : Place) (e : plain.Expr) (k : Nodes) → part_done c (node_key_from p e) k ≡ node_part starlark (all_calls c) (node_key_from p e) c.env k
  key_says p e [] = refl
  key_says p e (n ∷ ns) = refl

  pub part_says : (o : NodePart) (k : Nodes) → part_done c o k ≡ node_part starlark (all_calls c) o c.env k
  part_says (node_start p j g) k = refl
  part_says (node_note p x es) k = note_says p x es k
  part_says (node_key p x) k = refl
  part_says (node_key_from p e) k = key_says p e k
  part_says (node_value p x) k = refl
  part_says (node_value_from p e) k = value_says p e k
  part_says (node_end p) k = refl

  -- ---- parts of blocks

  pub op_says : (o : Op) (k : Nodes) → op_done c o k ≡ op_through c o k
  op_says (op_part q) k = part_says q k
  op_says (op_statement s) k = simple_says s k
  op_says (op_if p bs) k = λ i. paid p (arms_say bs k i)
  op_says (op_for p x e os) k = refl
  op_says (op_def p n fragment x ps os) k = define_says p n x ps k

  pub placed : (o : Op) (p : Place) (k : Nodes) → op_place o ≡ Some p → paid p (done_after c p o k) ≡ op_done c o k
  placed (op_part q) p k h = cc
  placed o p k h = ap (λ x. step_at x (λ p. done_after c p o k)) (sym h)
