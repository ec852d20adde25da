-- Numbers change nothing of which blocks and nodes a program has.
use Rattle.std.proofs.Common.{◌≡◌, ℕ, suc, List, [], ◌∷◌, Option, Some, None, IsSome, refl, sym, subst, ◌∙◌}
use Rattle.ytt_base.specs.declared.fault.Place.{Place}
use Rattle.code_spec.specs.Blocks.{Op, op_part, op_statement, op_if, op_for, op_def, Ops, no_ops, an_op, Arms, no_arm, else_arm, arm, Parsed, broken, at_top, inside, put, open_if, next_arm, last_arm, open_block, parse, whole, blocks}
use Rattle.code_spec.specs.Code.{Expr, Statement, evaluate, assign, augment, load, return, break, continue, pass}
use Rattle.code_spec.specs.Numbering.{number_expr, number_parameters, number_statement}
use Rattle.code_spec.specs.Program.{document_item, pair_item, element_item, NodePart, node_start, node_note, node_key, node_key_from, node_value, node_value_from, node_end, Instruction, part, statement, begin_if, begin_elif, begin_else, begin_for, begin_def, close}
use Rattle.template_spec.specs.Numbered.{number_part, number_program}
use Rattle.template_spec.specs.WellNested.{IfAny, Nested, NestedArms, Stage, Ways, WellNestedBlocks, after_part, begun, below_innermost, block_of, filled, in_a_branch, in_a_file, in_a_function, in_a_loop, innermost, keyed, place_of, stands, ways_at}

-- ---- blocks that are alike but for the code in them

abbrev mutual
  AlikeOp : Op → Op → Type 0
  AlikeOp (op_part o) (op_part m) = (open_nodes : List Stage) → after_part o open_nodes ≡ after_part m open_nodes
  AlikeOp (op_statement s) (op_statement t) = (w : Ways) → stands w s ≡ stands w t
  AlikeOp (op_if p bs) (op_if q cs) = AlikeArms bs cs
  AlikeOp (op_for p x e os) (op_for q y d ms) = Alike os ms
  AlikeOp (op_def p n kind x ps os) (op_def q m fragment y qs ms) = (kind ≡ fragment) × Alike os ms
  AlikeOp _ _ = ⊥

  Alike : Ops → Ops → Type 0
  Alike no_ops no_ops = Unit {0}
  Alike (an_op o os) (an_op m ms) = AlikeOp o m × Alike os ms
  Alike _ _ = ⊥

  AlikeArms : Arms → Arms → Type 0
  AlikeArms no_arm no_arm = Unit {0}
  AlikeArms (else_arm os) (else_arm ms) = Alike os ms
  AlikeArms (arm e os bs) (arm d ms cs) = Alike os ms × AlikeArms bs cs
  AlikeArms _ _ = ⊥

abbrev AlikeParsed : Parsed → Parsed → Type 0
AlikeParsed broken broken = Unit {0}
AlikeParsed (at_top os) (at_top ms) = Alike os ms
AlikeParsed (inside os bs q) (inside ms cs r) = Alike os ms × AlikeArms bs cs × AlikeParsed q r
AlikeParsed _ _ = ⊥

-- ---- what is read from the end

put_alike : (o m : Op) (q r : Parsed) → AlikeOp o m → AlikeParsed q r → AlikeParsed (put o q) (put m r)
put_alike o m broken broken a h = tt
put_alike o m (at_top os) (at_top ms) a h = (a, h)
put_alike o m (inside os bs q) (inside ms cs r) a h = ((a, h.0), h.1, h.2)
put_alike o m q r a h = absurd h

if_alike : (p : Place) (e d : Expr) (q r : Parsed) → AlikeParsed q r → AlikeParsed (open_if p e q) (open_if p d r)
if_alike p e d broken broken h = tt
if_alike p e d (at_top os) (at_top ms) h = tt
if_alike p e d (inside os bs q) (inside ms cs r) h = put_alike (op_if p (arm e os bs)) (op_if p (arm d ms cs)) q r (h.0, h.1) h.2
if_alike p e d q r h = absurd h

arm_alike : (e d : Expr) (q r : Parsed) → AlikeParsed q r → AlikeParsed (next_arm e q) (next_arm d r)
arm_alike e d broken broken h = tt
arm_alike e d (at_top os) (at_top ms) h = tt
arm_alike e d (inside os bs q) (inside ms cs r) h = (tt, (h.0, h.1), h.2)
arm_alike e d q r h = absurd h

else_alike : (q r : Parsed) → AlikeParsed q r → AlikeParsed (last_arm q) (last_arm r)
else_alike broken broken h = tt
else_alike (at_top os) (at_top ms) h = tt
else_alike (inside os no_arm q) (inside ms no_arm r) h = (tt, h.0, h.2)
else_alike (inside os (else_arm x) q) (inside ms (else_arm y) r) h = tt
else_alike (inside os (arm e x bs) q) (inside ms (arm d y cs) r) h = tt
else_alike (inside os bs q) (inside ms cs r) h = absurd h.1
else_alike q r h = absurd h

block_alike : (f g : Ops → Op) → ((os ms : Ops) → Alike os ms → AlikeOp (f os) (g ms)) → (q r : Parsed) → AlikeParsed q r → AlikeParsed (open_block f q) (open_block g r)
block_alike f g a broken broken h = tt
block_alike f g a (at_top os) (at_top ms) h = tt
block_alike f g a (inside os no_arm q) (inside ms no_arm r) h = put_alike (f os) (g ms) q r (a os ms h.0) h.2
block_alike f g a (inside os (else_arm x) q) (inside ms (else_arm y) r) h = tt
block_alike f g a (inside os (arm e x bs) q) (inside ms (arm d y cs) r) h = tt
block_alike f g a (inside os bs q) (inside ms cs r) h = absurd h.1
block_alike f g a q r h = absurd h

-- ---- instructions

statement_stands : (s : Statement) (n : ℕ) (w : Ways) → stands w s ≡ stands w (number_statement s n).result
statement_stands (evaluate p e) n w = refl
statement_stands (assign p x e) n w = refl
statement_stands (augment p o q x e) n w = refl
statement_stands (load p path xs) n w = refl
statement_stands (return p e) n w = refl
statement_stands (break p) n w = refl
statement_stands (continue p) n w = refl
statement_stands (pass p) n w = refl

part_after : (o : NodePart) (n : ℕ) (open_nodes : List Stage) → after_part o open_nodes ≡ after_part (number_part o n).result open_nodes
part_after (node_start p k h) n ss = refl
part_after (node_note p x es) n [] = refl
part_after (node_note p x es) n (begun k h ∷ ss) = refl
part_after (node_note p x es) n (keyed h ∷ ss) = refl
part_after (node_note p x es) n (filled ∷ ss) = refl
part_after (node_note p x es) n (place_of k ∷ ss) = refl
part_after (node_key p x) n ss = refl
part_after (node_key_from p e) n [] = refl
part_after (node_key_from p e) n (begun document_item h ∷ ss) = refl
part_after (node_key_from p e) n (begun pair_item h ∷ ss) = refl
part_after (node_key_from p e) n (begun element_item h ∷ ss) = refl
part_after (node_key_from p e) n (keyed h ∷ ss) = refl
part_after (node_key_from p e) n (filled ∷ ss) = refl
part_after (node_key_from p e) n (place_of k ∷ ss) = refl
part_after (node_value p x) n ss = refl
part_after (node_value_from p e) n [] = refl
part_after (node_value_from p e) n (s ∷ ss) = refl
part_after (node_end p) n ss = refl

parsed_alike : (is : List Instruction) (n : ℕ) → AlikeParsed (parse is) (parse (number_program is n).result)
parsed_alike [] n = tt
parsed_alike (part o ∷ is) n = put_alike (op_part o) (op_part (number_part o n).result) (parse is) _ (part_after o n) (parsed_alike is (number_part o n).next)
parsed_alike (statement s ∷ is) n = put_alike (op_statement s) (op_statement (number_statement s n).result) (parse is) _ (statement_stands s n) (parsed_alike is (number_statement s n).next)
parsed_alike (begin_if p e ∷ is) n = if_alike p e (number_expr e n).result (parse is) _ (parsed_alike is (number_expr e n).next)
parsed_alike (begin_elif p e ∷ is) n = arm_alike e (number_expr e n).result (parse is) _ (parsed_alike is (number_expr e n).next)
parsed_alike (begin_else p ∷ is) n = else_alike (parse is) _ (parsed_alike is n)
parsed_alike (begin_for p x e ∷ is) n =
    let target = number_expr x n in
    let members = number_expr e target.next in
    block_alike (op_for p x e) (op_for p target.result members.result) (λ os ms a. a) (parse is) _ (parsed_alike is members.next)
parsed_alike (begin_def p number kind x ps ∷ is) n =
    let parameters = number_parameters ps (suc n) in
    block_alike (op_def p number kind x ps) (op_def p n kind x parameters.result) (λ os ms a. (refl, a)) (parse is) _ (parsed_alike is parameters.next)
parsed_alike (close p ∷ is) n = (tt, tt, parsed_alike is n)

-- ---- nesting

if_any : (a : Option (List Stage)) (P Q : List Stage → Type 0) → ((ss : List Stage) → P ss → Q ss) → IfAny a P → IfAny a Q
if_any None P Q f h = h
if_any (Some ss) P Q f h = f ss h

mutual
  ops_nested : (w : Ways) (last : List Stage) (os ms : Ops) (ss : List Stage) → Alike os ms → Nested w last os ss → Nested w last ms ss
  ops_nested w last no_ops no_ops ss a h = h
  ops_nested w last (an_op (op_part o) os) (an_op (op_part m) ms) ss a h =
      subst (λ after. IfAny after (λ open_nodes. Nested w last ms open_nodes)) (a.0 ss)
      (if_any (after_part o ss) (λ open_nodes. Nested w last os open_nodes) (λ open_nodes. Nested w last ms open_nodes) (λ open_nodes k. ops_nested w last os ms open_nodes a.1 k) h)
  ops_nested w last (an_op (op_statement s) os) (an_op (op_statement t) ms) ss a h = (h.0, sym (a.0 (ways_at w ss)) ∙ h.1, ops_nested w last os ms (below_innermost ss) a.1 h.2)
  ops_nested w last (an_op (op_if p bs) os) (an_op (op_if q cs) ms) ss a h =
      (h.0, arms_nested (in_a_branch (ways_at w ss)) (innermost ss) bs cs a.0 h.1, ops_nested w last os ms (below_innermost ss) a.1 h.2)
  ops_nested w last (an_op (op_for p x e body) os) (an_op (op_for q y d other) ms) ss a h =
      (h.0, ops_nested (in_a_loop (ways_at w ss)) (innermost ss ∷ []) body other (innermost ss ∷ []) a.0 h.1, ops_nested w last os ms (below_innermost ss) a.1 h.2)
  ops_nested w last (an_op (op_def p n kind x ps body) os) (an_op (op_def q m fragment y qs other) ms) ss a h = (
    h.0,
    subst (λ k. Nested (in_a_function k) (block_of k ∷ []) other (block_of k ∷ [])) a.0.0 (ops_nested (in_a_function kind) (block_of kind ∷ []) body other (block_of kind ∷ []) a.0.1 h.1),
    ops_nested w last os ms (below_innermost ss) a.1 h.2,
  )
  ops_nested w last (an_op o os) (an_op m ms) ss a h = absurd a.0
  ops_nested w last os ms ss a h = absurd a

  arms_nested : (w : Ways) (s : Stage) (bs cs : Arms) → AlikeArms bs cs → NestedArms w s bs → NestedArms w s cs
  arms_nested w s no_arm no_arm a h = h
  arms_nested w s (else_arm os) (else_arm ms) a h = ops_nested w (s ∷ []) os ms (s ∷ []) a h
  arms_nested w s (arm e os bs) (arm d ms cs) a h = (ops_nested w (s ∷ []) os ms (s ∷ []) a.0 h.0, arms_nested w s bs cs a.1 h.1)
  arms_nested w s bs cs a h = absurd a

whole_nested : (q r : Parsed) → AlikeParsed q r → WellNestedBlocks (whole q) → WellNestedBlocks (whole r)
whole_nested (at_top os) (at_top ms) a h = ops_nested in_a_file (place_of document_item ∷ []) os ms (place_of document_item ∷ []) a h
whole_nested broken r a h = absurd h
whole_nested (inside os bs q) r a h = absurd h
whole_nested (at_top os) broken a h = absurd a
whole_nested (at_top os) (inside ms cs r) a h = absurd a

pub blocks_nested : (is : List Instruction) (n : ℕ) → WellNestedBlocks (blocks is) → WellNestedBlocks (blocks (number_program is n).result)
blocks_nested is n h = whole_nested (parse is) (parse (number_program is n).result) (parsed_alike is n) h

whole_there : (q r : Parsed) → AlikeParsed q r → IsSome (whole q) → IsSome (whole r)
whole_there (at_top os) (at_top ms) a h = refl
whole_there broken r a h = absurd (cc)
whole_there (inside os bs q) r a h = absurd (cc)
whole_there (at_top os) broken a h = absurd a
whole_there (at_top os) (inside ms cs r) a h = absurd a

pub blocks_there : (is : List Instruction) (n : ℕ) → IsSome (blocks is) → IsSome (blocks (number_program is n).result)
blocks_there is n h = whole_there (parse is) (parse (number_program is n).result) (parsed_alike is n) h
