-- The pass looks at nothing of a head but its form.
use Rattle.std.proofs.Common.{◌≡◌, ℕ, Bool, true, false, if◌then◌else◌, List, [], ◌∷◌, Option, Some, None, refl, ap}
use Rattle.std.specs.Prelude.{option_map, is_some, not, ◌&&◌, drop}
use Rattle.std.proofs.lemmas.List.{length-map}
use Rattle.code_spec.specs.Code.{Statement, evaluate, assign, augment, load, return, break, continue, pass}
use Rattle.code_spec.specs.CodeReading.{Header, if_header, elif_header, else_header, for_header, def_header, end_header}
use Rattle.code_spec.specs.Program.{Instruction, part, statement, begin_if, begin_elif, begin_else, begin_for, begin_def, close}
use Rattle.template_spec.specs.Comments.{Said, ignored, a_note, a_value, statements, opens, elif, otherwise, closes}
use Rattle.template_spec.specs.Misplaced.{is_if, is_def, is_for, Returned}
use Rattle.template_pass.specs.Building.{innermost}
use Rattle.template_pass.specs.Levels.{Open, advanced, behind, belongs, has_one, keep, is_over, innermost_def, innermost_loop, is_level_of, no_block, statement_fault, statements_fault, said_fault, waiting_or_said, stays_within, row_fault, takes_branch, takes_end, returned_in, returned_at, holder_in, holder_at, with_else}
use Rattle.template_pass.specs.Rows.{Row, begins, beside, says}
use Rattle.template_checks.specs.Walk.{bare, bare_all, bare_row, mark_level, same_form}

pub if_form : (h : Header) → is_if (same_form h) ≡ is_if h
if_form (if_header e) = refl
if_form (for_header x e) = refl
if_form (def_header x ps) = refl
if_form (elif_header e) = refl
if_form else_header = refl
if_form end_header = refl

pub def_form : (h : Header) → is_def (same_form h) ≡ is_def h
def_form (if_header e) = refl
def_form (for_header x e) = refl
def_form (def_header x ps) = refl
def_form (elif_header e) = refl
def_form else_header = refl
def_form end_header = refl

pub for_form : (h : Header) → is_for (same_form h) ≡ is_for h
for_form (if_header e) = refl
for_form (for_header x e) = refl
for_form (def_header x ps) = refl
for_form (elif_header e) = refl
for_form else_header = refl
for_form end_header = refl

-- ---- levels

pub belongs_bare : (bs : List Open) (next : Option ℕ) → belongs (bare_all bs) next ≡ belongs bs next
belongs_bare [] None = refl
belongs_bare [] (Some d) = refl
belongs_bare (b ∷ bs) None = refl
belongs_bare (b ∷ bs) (Some d) = refl

pub innermost_bare : (bs : List Open) → innermost (bare_all bs) ≡ innermost bs
innermost_bare [] = refl
innermost_bare (b ∷ bs) = refl

pub mark_level_bare : (bs : List Open) (next : Option ℕ) (r : Row) → mark_level (bare_all bs) next r ≡ mark_level bs next r
mark_level_bare bs next (begins d k l key w) = belongs_bare bs next
mark_level_bare bs next (beside d k b l s) = belongs_bare bs next
mark_level_bare bs next (says l ignored) = belongs_bare bs next
mark_level_bare bs next (says l (a_note x es)) = belongs_bare bs next
mark_level_bare bs next (says l (a_value e)) = belongs_bare bs next
mark_level_bare bs next (says l (statements is)) = belongs_bare bs next
mark_level_bare bs next (says l (opens h z)) = belongs_bare bs next
mark_level_bare bs next (says l (elif e)) = innermost_bare bs
mark_level_bare bs next (says l otherwise) = innermost_bare bs
mark_level_bare bs next (says l closes) = innermost_bare bs

-- ---- blocks

chosen : (t : Bool) (b : Open) (o p : Option Open) → p ≡ option_map bare o → (if t then Some (bare b) else p) ≡ option_map bare (if t then Some b else o)
chosen true b o p e = refl
chosen false b o p e = e

none_or : (t : Bool) (o p : Option Open) → p ≡ option_map bare o → (if t then None else p) ≡ option_map bare (if t then None else o)
none_or true o p e = refl
none_or false o p e = e

pub def_bare : (bs : List Open) → innermost_def (bare_all bs) ≡ option_map bare (innermost_def bs)
def_bare [] = refl
def_bare (b ∷ bs) = rw (def_form b.header) (chosen (is_def b.header) b (innermost_def bs) (innermost_def (bare_all bs)) (def_bare bs))

pub loop_bare : (bs : List Open) → innermost_loop (bare_all bs) ≡ option_map bare (innermost_loop bs)
loop_bare [] = refl
loop_bare (b ∷ bs) =
    rw (def_form b.header, for_form b.header)
    (none_or (is_def b.header) (if is_for b.header then Some b else innermost_loop bs) (if is_for b.header then Some (bare b) else innermost_loop (bare_all bs)) (chosen (is_for b.header) b (innermost_loop bs) (innermost_loop (bare_all bs)) (loop_bare bs)))

has_map : (o : Option Open) → is_some (option_map bare o) ≡ is_some o
has_map None = refl
has_map (Some b) = refl

level_map : (d : ℕ) (o : Option Open) → is_level_of d (option_map bare o) ≡ is_level_of d o
level_map d None = refl
level_map d (Some b) = refl

no_block_bare : (bs : List Open) → no_block (bare_all bs) ≡ no_block bs
no_block_bare [] = refl
no_block_bare (b ∷ bs) = refl

-- ---- faults

pub statement_bare : (bs : List Open) (d : ℕ) (s : Statement) → statement_fault (bare_all bs) d s ≡ statement_fault bs d s
statement_bare bs d (evaluate p e) = refl
statement_bare bs d (assign p x e) = refl
statement_bare bs d (augment p o q x e) = refl
statement_bare bs d (load p path xs) = rw (no_block_bare bs) refl
statement_bare bs d (return p e) = rw (def_bare bs, level_map d (innermost_def bs)) refl
statement_bare bs d (break p) = rw (loop_bare bs, level_map d (innermost_loop bs)) refl
statement_bare bs d (continue p) = rw (loop_bare bs, level_map d (innermost_loop bs)) refl
statement_bare bs d (pass p) = refl

pub statements_bare : (bs : List Open) (d : ℕ) (is : List Instruction) → statements_fault (bare_all bs) d is ≡ statements_fault bs d is
statements_bare bs d [] = refl
statements_bare bs d (part o ∷ is) = statements_bare bs d is
statements_bare bs d (statement s ∷ is) = rw (statement_bare bs d s, statements_bare bs d is) refl
statements_bare bs d (begin_if p e ∷ is) = statements_bare bs d is
statements_bare bs d (begin_elif p e ∷ is) = statements_bare bs d is
statements_bare bs d (begin_else p ∷ is) = statements_bare bs d is
statements_bare bs d (begin_for p x e ∷ is) = statements_bare bs d is
statements_bare bs d (begin_def p n f x ps ∷ is) = statements_bare bs d is
statements_bare bs d (close p ∷ is) = statements_bare bs d is

branch_bare : (bs : List Open) → takes_branch (bare_all bs) ≡ takes_branch bs
branch_bare [] = refl
branch_bare (b ∷ bs) = rw (if_form b.header) refl

end_bare : (bs : List Open) → takes_end (bare_all bs) ≡ takes_end bs
end_bare [] = refl
end_bare (b ∷ bs) = refl

said_bare : (file : ℕ) (bs : List Open) (next : Option ℕ) (l : ℕ) (s : Said) → said_fault file (bare_all bs) next l s ≡ said_fault file bs next l s
said_bare file bs next l ignored = refl
said_bare file bs next l (a_note x es) = refl
said_bare file bs next l (a_value e) = refl
said_bare file bs next l (statements is) = rw (belongs_bare bs next) (statements_bare bs (belongs bs next) is)
said_bare file bs next l (opens h z) = rw (length-map bs bare) refl
said_bare file bs next l (elif e) = rw (branch_bare bs) refl
said_bare file bs next l otherwise = rw (branch_bare bs) refl
said_bare file bs next l closes = rw (end_bare bs) refl

waiting_bare : (file : ℕ) (bs : List Open) (next : Option ℕ) (l : ℕ) (s : Said) → waiting_or_said file (bare_all bs) next l s ≡ waiting_or_said file bs next l s
waiting_bare file [] next l s = refl
waiting_bare file (b ∷ bs) next l s = rw (said_bare file (b ∷ bs) next l s) refl

within_bare : (bs : List Open) (d : ℕ) → stays_within (bare_all bs) d ≡ stays_within bs d
within_bare [] d = refl
within_bare (b ∷ bs) d = refl

pub row_bare : (file : ℕ) (bs : List Open) (next : Option ℕ) (r : Row) → row_fault file (bare_all bs) next r ≡ row_fault file bs next r
row_bare file bs next (begins d k l key w) = rw (within_bare bs d) refl
row_bare file bs next (beside d k b l s) = refl
row_bare file bs next (says l s) = waiting_bare file bs next l s

-- ---- returns and holders

in_map : (o : Option Open) (is : List Instruction) → returned_in (option_map bare o) is ≡ returned_in o is
in_map None is = refl
in_map (Some b) [] = refl
in_map (Some b) (part o ∷ is) = in_map (Some b) is
in_map (Some b) (statement (return p e) ∷ is) = ap (λ (rs : List Returned). record { within = b.before; place = p } ∷ rs) (in_map (Some b) is)
in_map (Some b) (statement (evaluate p e) ∷ is) = in_map (Some b) is
in_map (Some b) (statement (assign p x e) ∷ is) = in_map (Some b) is
in_map (Some b) (statement (augment p o q x e) ∷ is) = in_map (Some b) is
in_map (Some b) (statement (load p path xs) ∷ is) = in_map (Some b) is
in_map (Some b) (statement (break p) ∷ is) = in_map (Some b) is
in_map (Some b) (statement (continue p) ∷ is) = in_map (Some b) is
in_map (Some b) (statement (pass p) ∷ is) = in_map (Some b) is
in_map (Some b) (begin_if p e ∷ is) = in_map (Some b) is
in_map (Some b) (begin_elif p e ∷ is) = in_map (Some b) is
in_map (Some b) (begin_else p ∷ is) = in_map (Some b) is
in_map (Some b) (begin_for p x e ∷ is) = in_map (Some b) is
in_map (Some b) (begin_def p n f x ps ∷ is) = in_map (Some b) is
in_map (Some b) (close p ∷ is) = in_map (Some b) is

pub returned_bare : (bs : List Open) (r : Row) → returned_at (bare_all bs) r ≡ returned_at bs r
returned_bare bs (begins d k l key w) = refl
returned_bare bs (beside d k b l s) = refl
returned_bare bs (says l ignored) = refl
returned_bare bs (says l (a_note x es)) = refl
returned_bare bs (says l (a_value e)) = refl
returned_bare bs (says l (statements is)) = rw (def_bare bs) (in_map (innermost_def bs) is)
returned_bare bs (says l (opens h z)) = refl
returned_bare bs (says l (elif e)) = refl
returned_bare bs (says l otherwise) = refl
returned_bare bs (says l closes) = refl

holder_map : (d : ℕ) (o : Option Open) → holder_in d (option_map bare o) ≡ holder_in d o
holder_map d None = refl
holder_map d (Some b) = refl

pub holder_bare : (bs : List Open) (r : Row) → holder_at (bare_all bs) r ≡ holder_at bs r
holder_bare bs (begins d k l key w) = rw (def_bare bs) (holder_map d (innermost_def bs))
holder_bare bs (beside d k b l s) = refl
holder_bare bs (says l s) = refl

-- ---- the blocks behind a row

chosen_block : (t : Bool) (b c : Open) → (if t then bare c else bare b) ≡ bare (if t then c else b)
chosen_block true b c = refl
chosen_block false b c = refl

one_bare : (d : ℕ) (b : Open) → has_one d (bare b) ≡ bare (has_one d b)
one_bare d b = chosen_block (b.for_one && not (is_some b.one)) b (record b { one = Some d })

chosen_blocks : (t : Bool) (b : Open) (bs : List Open) → (if t then bare_all bs else bare b ∷ bare_all bs) ≡ bare_all (if t then bs else b ∷ bs)
chosen_blocks true b bs = refl
chosen_blocks false b bs = refl

keep_bare : (next : Option ℕ) (b : Open) (bs : List Open) → keep next (bare b) (bare_all bs) ≡ bare_all (keep next b bs)
keep_bare next b bs = chosen_blocks (b.for_one && is_over b.one next) b bs

advanced_bare : (d : ℕ) (next : Option ℕ) (bs : List Open) → advanced d next (bare_all bs) ≡ bare_all (advanced d next bs)
advanced_bare d next [] = refl
advanced_bare d next (b ∷ bs) = rw (advanced_bare d next bs, one_bare d b) (keep_bare next (has_one d b) (advanced d next bs))

else_bare : (bs : List Open) → with_else (bare_all bs) ≡ bare_all (with_else bs)
else_bare [] = refl
else_bare (b ∷ bs) = refl

drop_bare : (bs : List Open) → drop 1 (bare_all bs) ≡ bare_all (drop 1 bs)
drop_bare [] = refl
drop_bare (b ∷ bs) = refl

pub behind_bare : (bs : List Open) (next : Option ℕ) (n : ℕ) (r : Row) → behind (bare_all bs) next n (bare_row r) ≡ bare_all (behind bs next n r)
behind_bare bs next n (begins d k l key w) = advanced_bare d next bs
behind_bare bs next n (beside d k b l s) = refl
behind_bare bs next n (says l ignored) = refl
behind_bare bs next n (says l (a_note x es)) = refl
behind_bare bs next n (says l (a_value e)) = refl
behind_bare bs next n (says l (statements is)) = refl
behind_bare bs next n (says l (opens h z)) = rw (belongs_bare bs next) refl
behind_bare bs next n (says l (elif e)) = refl
behind_bare bs next n (says l otherwise) = else_bare bs
behind_bare bs next n (says l closes) = drop_bare bs
