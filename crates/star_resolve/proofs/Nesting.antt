-- The events of a program whose blocks are closed where they should be: the names in them are the uses of its blocks.
use Rattle.std.proofs.Common.{◌≡◌, ℕ, List, [], ◌∷◌, ◌++◌, Option, Some, None, refl, sym, ap, ◌∙◌, append_assoc, append-nil, reverse, IsSome}
use Rattle.std.proofs.lemmas.List.{reverse-append, reverse-reverse}
use Rattle.code_spec.specs.Code.{Name, Expr, Parameters}
use Rattle.code_spec.specs.Names.{target_names, statement_names}
use Rattle.code_spec.specs.Program.{ItemKind, Instruction, part, statement, begin_if, begin_elif, begin_else, begin_for, begin_def, close}
use Rattle.code_spec.specs.Blocks.{Op, op_part, op_statement, op_if, op_for, op_def, Ops, no_arm, else_arm, arm, Parsed, broken, at_top, inside, put, open_if, next_arm, last_arm, open_block, parse, whole, blocks}
use Rattle.code_spec.specs.Allowed.{parameter_names}
use Rattle.code_spec.specs.Scopes.{Use, use_at, arms_names, arms_uses, expr_uses, op_names, op_uses, ops_names, ops_uses, parameters_uses, names_of_file, program_names, program_uses, uses_of_file}
use Rattle.ytt_base.specs.declared.fault.Place.{Place}
use Rattle.star_resolve.specs.Events.{program_events}
use Rattle.star_resolve.specs.Functions.{scope_size}
use Rattle.star_resolve.specs.Gathered.{all_names, behind, front, gathered, merged, with_names}
use Rattle.star_resolve.proofs.Running.{Levels, a_name, announces, begins, enters, expr_runs, last, next, outer_levels, parameters_run, part_runs, run, scopes_in, statement_runs}

-- no block is closed where it shouldn't be
abbrev pub Sound : Parsed → Type 0
Sound broken = ⊥
Sound (at_top os) = Unit {0}
Sound (inside os arms outer) = Sound outer

pub put_sound : (o : Op) (q : Parsed) → Sound (put o q) → Sound q
put_sound o broken s = s
put_sound o (at_top os) s = tt
put_sound o (inside os arms outer) s = s

-- ---- the names of blocks

abbrev pub level_names : Parsed → List (List Name)
level_names broken = []
level_names (at_top os) = reverse (ops_names os) ∷ []
level_names (inside os arms outer) = reverse (ops_names os ++ arms_names arms) ∷ level_names outer

reversed_more : (xs ys zs : List Name) → reverse ((xs ++ ys) ++ zs) ≡ reverse (ys ++ zs) ++ reverse xs
reversed_more xs ys zs = ap reverse (append_assoc xs ys zs) ∙ reverse-append xs (ys ++ zs)

put_names : (o : Op) (q : Parsed) → Sound q → level_names (put o q) ≡ with_names (op_names o) (level_names q)
put_names o broken s = absurd s
put_names o (at_top os) s = ap (λ l. l ∷ []) (reverse-append (op_names o) (ops_names os))
put_names o (inside os arms outer) s = ap (λ l. l ∷ level_names outer) (reversed_more (op_names o) (ops_names os) (arms_names arms))

-- nothing more
no_more : (ls : List (List Name)) → with_names [] ls ≡ ls
no_more [] = refl
no_more (xs ∷ ls) = ap (λ l. l ∷ ls) (append-nil xs)

-- first some names, and then others in front of them
both_names : (xs ys : List Name) (ls : List (List Name)) → with_names xs (with_names ys ls) ≡ with_names (xs ++ ys) ls
both_names xs ys [] = refl
both_names xs ys (zs ∷ ls) = ap (λ l. l ∷ ls) (append_assoc zs (reverse ys) (reverse xs) ∙ ap (λ l. zs ++ l) (sym (reverse-append xs ys)))

merged_names : (xs : List Name) (q : Parsed) → Sound q → merged (reverse xs ∷ level_names q) ≡ with_names xs (level_names q)
merged_names xs broken s = absurd s
merged_names xs (at_top os) s = refl
merged_names xs (inside os arms outer) s = refl

pub if_sound : (p : Place) (e : Expr) (q : Parsed) → Sound (open_if p e q) → Sound q
if_sound p e broken s = s
if_sound p e (at_top os) s = tt
if_sound p e (inside os arms outer) s = put_sound (op_if p (arm e os arms)) outer s

if_names : (p : Place) (e : Expr) (q : Parsed) → Sound (open_if p e q) → with_names [] (merged (level_names q)) ≡ level_names (open_if p e q)
if_names p e broken s = absurd s
if_names p e (at_top os) s = absurd s
if_names p e (inside os arms outer) s =
    let o = op_if p (arm e os arms) in
    let t = put_sound o outer s in
    no_more (merged (level_names (inside os arms outer))) ∙ merged_names (op_names o) outer t ∙ sym (put_names o outer t)

pub arm_sound : (e : Expr) (q : Parsed) → Sound (next_arm e q) → Sound q
arm_sound e broken s = s
arm_sound e (at_top os) s = tt
arm_sound e (inside os arms outer) s = s

arm_names : (e : Expr) (q : Parsed) → Sound (next_arm e q) → with_names [] (level_names q) ≡ level_names (next_arm e q)
arm_names e broken s = absurd s
arm_names e (at_top os) s = absurd s
arm_names e (inside os arms outer) s = no_more (level_names (inside os arms outer))

pub else_sound : (q : Parsed) → Sound (last_arm q) → Sound q
else_sound broken s = s
else_sound (at_top os) s = tt
else_sound (inside os no_arm outer) s = s
else_sound (inside os (else_arm x) outer) s = absurd s
else_sound (inside os (arm e x more) outer) s = absurd s

else_names : (q : Parsed) → Sound (last_arm q) → with_names [] (level_names q) ≡ level_names (last_arm q)
else_names broken s = absurd s
else_names (at_top os) s = absurd s
else_names (inside os no_arm outer) s = no_more (level_names (inside os no_arm outer)) ∙ ap (λ l. reverse l ∷ level_names outer) (append-nil (ops_names os))
else_names (inside os (else_arm x) outer) s = absurd s
else_names (inside os (arm e x more) outer) s = absurd s

pub block_sound : (f : Ops → Op) (q : Parsed) → Sound (open_block f q) → Sound q
block_sound f broken s = s
block_sound f (at_top os) s = tt
block_sound f (inside os no_arm outer) s = put_sound (f os) outer s
block_sound f (inside os (else_arm x) outer) s = absurd s
block_sound f (inside os (arm e x more) outer) s = absurd s

for_names : (p : Place) (x e : Expr) (q : Parsed) → Sound (open_block (op_for p x e) q) → with_names (target_names x) (merged (level_names q)) ≡ level_names (open_block (op_for p x e) q)
for_names p x e broken s = absurd s
for_names p x e (at_top os) s = absurd s
for_names p x e (inside os no_arm outer) s =
    let t = put_sound (op_for p x e os) outer s in
    ap (λ l. with_names (target_names x) (merged (reverse l ∷ level_names outer))) (append-nil (ops_names os))
    ∙ ap (with_names (target_names x)) (merged_names (ops_names os) outer t)
    ∙ both_names (target_names x) (ops_names os) (level_names outer)
    ∙ sym (put_names (op_for p x e os) outer t)
for_names p x e (inside os (else_arm y) outer) s = absurd s
for_names p x e (inside os (arm d y more) outer) s = absurd s

def_names : (p : Place) (n : ℕ) (kind : Option ItemKind) (x : Name) (ps : Parameters) (q : Parsed) → Sound (open_block (op_def p n kind x ps) q) →
    with_names (x ∷ []) (behind (level_names q)) ≡ level_names (open_block (op_def p n kind x ps) q)
def_names p n kind x ps broken s = absurd s
def_names p n kind x ps (at_top os) s = absurd s
def_names p n kind x ps (inside os no_arm outer) s = sym (put_names (op_def p n kind x ps os) outer (put_sound (op_def p n kind x ps os) outer s))
def_names p n kind x ps (inside os (else_arm y) outer) s = absurd s
def_names p n kind x ps (inside os (arm d y more) outer) s = absurd s

pub inner_names : (is : List Instruction) → Sound (parse is) → (gathered is).inner ≡ level_names (parse is)
inner_names [] s = refl
inner_names (part o ∷ is) s =
    let t = put_sound (op_part o) (parse is) s in ap (with_names []) (inner_names is t) ∙ sym (put_names (op_part o) (parse is) t)
inner_names (statement a ∷ is) s =
    let t = put_sound (op_statement a) (parse is) s in ap (with_names (statement_names a)) (inner_names is t) ∙ sym (put_names (op_statement a) (parse is) t)
inner_names (begin_if p e ∷ is) s = ap (λ l. with_names [] (merged l)) (inner_names is (if_sound p e (parse is) s)) ∙ if_names p e (parse is) s
inner_names (begin_elif p e ∷ is) s = ap (with_names []) (inner_names is (arm_sound e (parse is) s)) ∙ arm_names e (parse is) s
inner_names (begin_else p ∷ is) s = ap (with_names []) (inner_names is (else_sound (parse is) s)) ∙ else_names (parse is) s
inner_names (begin_for p x e ∷ is) s = ap (λ l. with_names (target_names x) (merged l)) (inner_names is (block_sound (op_for p x e) (parse is) s)) ∙ for_names p x e (parse is) s
inner_names (begin_def p n kind x ps ∷ is) s =
    ap (λ l. with_names (x ∷ []) (behind l)) (inner_names is (block_sound (op_def p n kind x ps) (parse is) s)) ∙ def_names p n kind x ps (parse is) s
inner_names (close p ∷ is) s = ap (λ l. [] ∷ l) (inner_names is s)

-- ---- the uses

abbrev uses_from : Levels → Parsed → List Use
uses_from ls broken = []
uses_from ls (at_top os) = ops_uses (scopes_in ls) os
uses_from ls (inside os arms outer) = ops_uses (scopes_in ls) os ++ (arms_uses (scopes_in ls) arms ++ uses_from (outer_levels ls) outer)

put_uses : (ls : Levels) (o : Op) (q : Parsed) → Sound q → op_uses (scopes_in ls) o ++ uses_from ls q ≡ uses_from ls (put o q)
put_uses ls o broken s = absurd s
put_uses ls o (at_top os) s = refl
put_uses ls o (inside os arms outer) s = sym (append_assoc (op_uses (scopes_in ls) o) (ops_uses (scopes_in ls) os) (arms_uses (scopes_in ls) arms ++ uses_from (outer_levels ls) outer))

three : (a b c d : List Use) → a ++ (b ++ (c ++ d)) ≡ (a ++ (b ++ c)) ++ d
three a b c d = ap (λ l. a ++ l) (sym (append_assoc b c d)) ∙ sym (append_assoc a (b ++ c) d)

if_uses : (ls : Levels) (p : Place) (e : Expr) (q : Parsed) → Sound (open_if p e q) → expr_uses (scopes_in ls) e ++ uses_from (None ∷ ls) q ≡ uses_from ls (open_if p e q)
if_uses ls p e broken s = absurd s
if_uses ls p e (at_top os) s = absurd s
if_uses ls p e (inside os arms outer) s =
    let o = op_if p (arm e os arms) in
    three (expr_uses (scopes_in ls) e) (ops_uses (scopes_in ls) os) (arms_uses (scopes_in ls) arms) (uses_from ls outer) ∙ put_uses ls o outer (put_sound o outer s)

arm_uses : (ls : Levels) (e : Expr) (q : Parsed) → Sound (next_arm e q) → expr_uses (scopes_in ls) e ++ uses_from ls q ≡ uses_from ls (next_arm e q)
arm_uses ls e broken s = absurd s
arm_uses ls e (at_top os) s = absurd s
arm_uses ls e (inside os arms outer) s = three (expr_uses (scopes_in ls) e) (ops_uses (scopes_in ls) os) (arms_uses (scopes_in ls) arms) (uses_from (outer_levels ls) outer)

else_uses : (ls : Levels) (q : Parsed) → Sound (last_arm q) → uses_from ls q ≡ uses_from ls (last_arm q)
else_uses ls broken s = absurd s
else_uses ls (at_top os) s = absurd s
else_uses ls (inside os no_arm outer) s = refl
else_uses ls (inside os (else_arm x) outer) s = absurd s
else_uses ls (inside os (arm e x more) outer) s = absurd s

for_uses : (ls : Levels) (p : Place) (x e : Expr) (q : Parsed) → Sound (open_block (op_for p x e) q) →
    (expr_uses (scopes_in ls) x ++ expr_uses (scopes_in ls) e) ++ uses_from (None ∷ ls) q ≡ uses_from ls (open_block (op_for p x e) q)
for_uses ls p x e broken s = absurd s
for_uses ls p x e (at_top os) s = absurd s
for_uses ls p x e (inside os no_arm outer) s =
    append_assoc (expr_uses (scopes_in ls) x) (expr_uses (scopes_in ls) e) (ops_uses (scopes_in ls) os ++ uses_from ls outer)
    ∙ three (expr_uses (scopes_in ls) x) (expr_uses (scopes_in ls) e) (ops_uses (scopes_in ls) os) (uses_from ls outer)
    ∙ put_uses ls (op_for p x e os) outer (put_sound (op_for p x e os) outer s)
for_uses ls p x e (inside os (else_arm y) outer) s = absurd s
for_uses ls p x e (inside os (arm d y more) outer) s = absurd s

def_uses : (ls : Levels) (p : Place) (n : ℕ) (kind : Option ItemKind) (x : Name) (ps : Parameters) (q : Parsed) → Sound (open_block (op_def p n kind x ps) q) →
    (names : List Name) → names ≡ parameter_names ps ++ reverse (front (level_names q)) →
    (use_at (scopes_in ls) p x ∷ parameters_uses (scopes_in ls) ps) ++ uses_from (Some names ∷ ls) q ≡ uses_from ls (open_block (op_def p n kind x ps) q)
def_uses ls p n kind x ps broken s names e = absurd s
def_uses ls p n kind x ps (at_top os) s names e = absurd s
def_uses ls p n kind x ps (inside os no_arm outer) s names e =
    let around = scopes_in ls in
    let here : names ≡ parameter_names ps ++ ops_names os = e ∙ ap (λ l. parameter_names ps ++ l) (reverse-reverse (ops_names os ++ []) ∙ append-nil (ops_names os)) in
    ap (λ l. (use_at around p x ∷ parameters_uses around ps) ++ (ops_uses (l ∷ around) os ++ uses_from ls outer)) here
    ∙ sym (append_assoc (use_at around p x ∷ parameters_uses around ps) (ops_uses ((parameter_names ps ++ ops_names os) ∷ around) os) (uses_from ls outer))
    ∙ put_uses ls (op_def p n kind x ps os) outer (put_sound (op_def p n kind x ps os) outer s)
def_uses ls p n kind x ps (inside os (else_arm y) outer) s names e = absurd s
def_uses ls p n kind x ps (inside os (arm d y more) outer) s names e = absurd s

-- the events of the instructions from some place on, where so much is open
events_run : (is : List Instruction) (ls : Levels) → Sound (parse is) → run ls (program_events (gathered is).functions is) ≡ uses_from ls (parse is)
events_run [] ls s = refl
events_run (part o ∷ is) ls s =
    let t = put_sound (op_part o) (parse is) s in
    (part_runs o ls).all (program_events (gathered is).functions is) ∙ ap (λ us. op_uses (scopes_in ls) (op_part o) ++ us) (events_run is ls t) ∙ put_uses ls (op_part o) (parse is) t
events_run (statement a ∷ is) ls s =
    let t = put_sound (op_statement a) (parse is) s in
    (statement_runs a ls).all (program_events (gathered is).functions is) ∙ ap (λ us. op_uses (scopes_in ls) (op_statement a) ++ us) (events_run is ls t) ∙ put_uses ls (op_statement a) (parse is) t
events_run (begin_if p e ∷ is) ls s =
    (last (expr_runs e ls) (begins ls)).all (program_events (gathered is).functions is)
    ∙ ap (λ us. expr_uses (scopes_in ls) e ++ us) (events_run is (None ∷ ls) (if_sound p e (parse is) s)) ∙ if_uses ls p e (parse is) s
events_run (begin_elif p e ∷ is) ls s =
    (expr_runs e ls).all (program_events (gathered is).functions is)
    ∙ ap (λ us. expr_uses (scopes_in ls) e ++ us) (events_run is ls (arm_sound e (parse is) s)) ∙ arm_uses ls e (parse is) s
events_run (begin_else p ∷ is) ls s = events_run is ls (else_sound (parse is) s) ∙ else_uses ls (parse is) s
events_run (begin_for p x e ∷ is) ls s =
    (next (expr_runs x ls) (last (expr_runs e ls) (begins ls))).all (program_events (gathered is).functions is)
    ∙ ap (λ us. (expr_uses (scopes_in ls) x ++ expr_uses (scopes_in ls) e) ++ us) (events_run is (None ∷ ls) (block_sound (op_for p x e) (parse is) s)) ∙ for_uses ls p x e (parse is) s
events_run (begin_def p n kind x ps ∷ is) ls s =
    let t = block_sound (op_def p n kind x ps) (parse is) s in
    let names = parameter_names ps ++ reverse (front (gathered is).inner) in
    (next (a_name ls p x) (next (announces ls (scope_size names)) (last (parameters_run ps ls) (enters ls names)))).all (program_events (gathered is).functions is)
    ∙ ap (λ us. (use_at (scopes_in ls) p x ∷ parameters_uses (scopes_in ls) ps) ++ us) (events_run is (Some names ∷ ls) t)
    ∙ def_uses ls p n kind x ps (parse is) s names (ap (λ l. parameter_names ps ++ reverse (front l)) (inner_names is t))
events_run (close p ∷ is) ls s = events_run is (outer_levels ls) s

-- ---- programs

pub whole_sound : (q : Parsed) → IsSome (whole q) → Sound q
whole_sound broken h = absurd (cc)
whole_sound (at_top os) h = tt
whole_sound (inside os arms outer) h = absurd (cc)

whole_uses : (q : Parsed) → IsSome (whole q) → uses_from [] q ≡ uses_of_file (whole q)
whole_uses broken h = absurd (cc)
whole_uses (at_top os) h = refl
whole_uses (inside os arms outer) h = absurd (cc)

whole_names : (q : Parsed) → IsSome (whole q) → reverse (front (level_names q)) ≡ names_of_file (whole q)
whole_names broken h = absurd (cc)
whole_names (at_top os) h = reverse-reverse (ops_names os)
whole_names (inside os arms outer) h = absurd (cc)

pub program_runs : (is : List Instruction) → IsSome (blocks is) → run [] (program_events (behind (all_names is)) is) ≡ program_uses is
program_runs is h = events_run is [] (whole_sound (parse is) h) ∙ whole_uses (parse is) h

pub globals_are : (is : List Instruction) → IsSome (blocks is) → front (all_names is) ≡ program_names is
globals_are is h = ap (λ l. reverse (front l)) (inner_names is (whole_sound (parse is) h)) ∙ whole_names (parse is) h
