-- The functions of a program whose blocks are closed where they should be are those that stand in its events.
use Rattle.std.proofs.Common.{◌≡◌, ℕ, List, [], ◌∷◌, ◌++◌, Option, refl, sym, ap, ◌∙◌, append_assoc, append-nil, reverse, IsSome, map as each}
use Rattle.std.proofs.lemmas.List.{map-append, reverse-reverse}
use Rattle.code_spec.specs.Allowed.{parameter_names}
use Rattle.code_spec.specs.Blocks.{Op, op_part, op_statement, op_if, op_for, op_def, no_arm, else_arm, arm, Parsed, broken, at_top, inside, put, open_if, next_arm, last_arm, open_block, parse, whole, blocks}
use Rattle.code_spec.specs.Code.{Name, Expr, Parameters}
use Rattle.code_spec.specs.Program.{ItemKind, Instruction, part, statement, begin_if, begin_elif, begin_else, begin_for, begin_def, close}
use Rattle.code_spec.specs.Scopes.{ops_names}
use Rattle.ytt_base.specs.declared.fault.Place.{Place}
use Rattle.star_resolve.specs.declared.event.Event.{Event}
use Rattle.star_resolve.specs.Events.{program_events, sizes_in}
use Rattle.star_resolve.specs.Functions.{arms_functions, expr_functions, functions_of_file, op_functions, ops_functions, parameters_functions, program_functions, scope_size}
use Rattle.star_resolve.specs.Gathered.{all_names, behind, front, gathered}
use Rattle.star_resolve.proofs.Announced.{Announces, a_function, a_name, at_end, begins, enters, of_expr, of_parameters, of_part, of_statement, then}
use Rattle.star_resolve.proofs.Nesting.{Sound, arm_sound, block_sound, else_sound, if_sound, inner_names, level_names, put_sound, whole_sound}

-- of what is read from the end
abbrev functions_from : Parsed → List (List Name)
functions_from broken = []
functions_from (at_top os) = ops_functions os
functions_from (inside os arms outer) = ops_functions os ++ (arms_functions arms ++ functions_from outer)

put_functions : (o : Op) (q : Parsed) → Sound q → op_functions o ++ functions_from q ≡ functions_from (put o q)
put_functions o broken s = absurd s
put_functions o (at_top os) s = refl
put_functions o (inside os arms outer) s = sym (append_assoc (op_functions o) (ops_functions os) (arms_functions arms ++ functions_from outer))

three : (a b c d : List (List Name)) → a ++ (b ++ (c ++ d)) ≡ (a ++ (b ++ c)) ++ d
three a b c d = ap (λ l. a ++ l) (sym (append_assoc b c d)) ∙ sym (append_assoc a (b ++ c) d)

if_functions : (p : Place) (e : Expr) (q : Parsed) → Sound (open_if p e q) → expr_functions e ++ functions_from q ≡ functions_from (open_if p e q)
if_functions p e broken s = absurd s
if_functions p e (at_top os) s = absurd s
if_functions p e (inside os arms outer) s =
    let o = op_if p (arm e os arms) in three (expr_functions e) (ops_functions os) (arms_functions arms) (functions_from outer) ∙ put_functions o outer (put_sound o outer s)

arm_functions : (e : Expr) (q : Parsed) → Sound (next_arm e q) → expr_functions e ++ functions_from q ≡ functions_from (next_arm e q)
arm_functions e broken s = absurd s
arm_functions e (at_top os) s = absurd s
arm_functions e (inside os arms outer) s = three (expr_functions e) (ops_functions os) (arms_functions arms) (functions_from outer)

else_functions : (q : Parsed) → Sound (last_arm q) → functions_from q ≡ functions_from (last_arm q)
else_functions broken s = absurd s
else_functions (at_top os) s = absurd s
else_functions (inside os no_arm outer) s = refl
else_functions (inside os (else_arm x) outer) s = absurd s
else_functions (inside os (arm e x more) outer) s = absurd s

for_functions : (p : Place) (x e : Expr) (q : Parsed) → Sound (open_block (op_for p x e) q) → (expr_functions x ++ expr_functions e) ++ functions_from q ≡ functions_from (open_block (op_for p x e) q)
for_functions p x e broken s = absurd s
for_functions p x e (at_top os) s = absurd s
for_functions p x e (inside os no_arm outer) s =
    append_assoc (expr_functions x) (expr_functions e) (ops_functions os ++ functions_from outer)
    ∙ three (expr_functions x) (expr_functions e) (ops_functions os) (functions_from outer)
    ∙ put_functions (op_for p x e os) outer (put_sound (op_for p x e os) outer s)
for_functions p x e (inside os (else_arm y) outer) s = absurd s
for_functions p x e (inside os (arm d y more) outer) s = absurd s

def_functions : (p : Place) (n : ℕ) (kind : Option ItemKind) (x : Name) (ps : Parameters) (q : Parsed) → Sound (open_block (op_def p n kind x ps) q) →
    ((parameter_names ps ++ reverse (front (level_names q))) ∷ parameters_functions ps) ++ functions_from q ≡ functions_from (open_block (op_def p n kind x ps) q)
def_functions p n kind x ps broken s = absurd s
def_functions p n kind x ps (at_top os) s = absurd s
def_functions p n kind x ps (inside os no_arm outer) s =
    let names = parameter_names ps ++ ops_names os in
    ap (λ l. ((parameter_names ps ++ l) ∷ parameters_functions ps) ++ (ops_functions os ++ functions_from outer)) (reverse-reverse (ops_names os ++ []) ∙ append-nil (ops_names os))
    ∙ sym (append_assoc (names ∷ parameters_functions ps) (ops_functions os) (functions_from outer))
    ∙ put_functions (op_def p n kind x ps os) outer (put_sound (op_def p n kind x ps os) outer s)
def_functions p n kind x ps (inside os (else_arm y) outer) s = absurd s
def_functions p n kind x ps (inside os (arm d y more) outer) s = absurd s

-- events in front of others
read : {es : List Event} {fs : List (List Name)} (a : Announces es fs) (rest : List Event) (more all : List (List Name)) →
    sizes_in rest ≡ each scope_size more → fs ++ more ≡ all → sizes_in (es ++ rest) ≡ each scope_size all
read {fs = fs} a rest more all h e = a.all rest ∙ ap (λ l. each scope_size fs ++ l) h ∙ sym (map-append scope_size fs more) ∙ ap (each scope_size) e

functions_read : (is : List Instruction) → Sound (parse is) → sizes_in (program_events (gathered is).functions is) ≡ each scope_size (functions_from (parse is))
functions_read [] s = refl
functions_read (part o ∷ is) s =
    let t = put_sound (op_part o) (parse is) s in read (of_part o) _ (functions_from (parse is)) _ (functions_read is t) (put_functions (op_part o) (parse is) t)
functions_read (statement a ∷ is) s =
    let t = put_sound (op_statement a) (parse is) s in read (of_statement a) _ (functions_from (parse is)) _ (functions_read is t) (put_functions (op_statement a) (parse is) t)
functions_read (begin_if p e ∷ is) s = read (at_end (of_expr e) begins) _ (functions_from (parse is)) _ (functions_read is (if_sound p e (parse is) s)) (if_functions p e (parse is) s)
functions_read (begin_elif p e ∷ is) s = read (of_expr e) _ (functions_from (parse is)) _ (functions_read is (arm_sound e (parse is) s)) (arm_functions e (parse is) s)
functions_read (begin_else p ∷ is) s = functions_read is (else_sound (parse is) s) ∙ ap (each scope_size) (else_functions (parse is) s)
functions_read (begin_for p x e ∷ is) s =
    read (then (of_expr x) (at_end (of_expr e) begins)) _ (functions_from (parse is)) _ (functions_read is (block_sound (op_for p x e) (parse is) s)) (for_functions p x e (parse is) s)
functions_read (begin_def p n kind x ps ∷ is) s =
    let t = block_sound (op_def p n kind x ps) (parse is) s in
    let names = parameter_names ps ++ reverse (front (gathered is).inner) in
    read (then (a_name p x) (then (a_function names) (at_end (of_parameters ps) (enters names)))) _ (functions_from (parse is)) _ (functions_read is t)
    (ap (λ l. ((parameter_names ps ++ reverse (front l)) ∷ parameters_functions ps) ++ functions_from (parse is)) (inner_names is t) ∙ def_functions p n kind x ps (parse is) s)
functions_read (close p ∷ is) s = functions_read is s

whole_functions : (q : Parsed) → IsSome (whole q) → functions_from q ≡ functions_of_file (whole q)
whole_functions broken h = absurd (cc)
whole_functions (at_top os) h = refl
whole_functions (inside os arms outer) h = absurd (cc)

pub functions_are : (is : List Instruction) → IsSome (blocks is) → sizes_in (program_events (behind (all_names is)) is) ≡ each scope_size (program_functions is)
functions_are is h = functions_read is (whole_sound (parse is) h) ∙ ap (each scope_size) (whole_functions (parse is) h)
