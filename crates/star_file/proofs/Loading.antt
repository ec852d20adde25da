-- The places where a program loads modules that come later are those where the items of its blocks do.
use Rattle.std.proofs.Common.{◌≡◌, List, [], ◌∷◌, ◌++◌, Some, refl, sym, ap, ◌∙◌, subst, append_assoc}
use Rattle.ytt_base.specs.declared.fault.Place.{Place}
use Rattle.code_spec.specs.Blocks.{Op, Ops, op_part, op_statement, op_if, op_for, op_def, an_op, Arms, no_arm, else_arm, arm, Parsed, broken, at_top, inside, put, open_if, next_arm, last_arm, open_block, parse, whole, blocks}
use Rattle.code_spec.specs.Code.{Expr}
use Rattle.code_spec.specs.Program.{Instruction, part, statement, begin_if, begin_elif, begin_else, begin_for, begin_def, close}
use Rattle.passes_spec.specs.Unbuilt.{unbuilt_branches, unbuilt_items, unbuilt_statement}
use Rattle.world_spec.specs.StarFiles.{arms_branches, ops_items}
use Rattle.star_file.specs.Loads.{load_places}

abbrev places : Ops → List Place
places os = unbuilt_items (ops_items os)

abbrev arms_places : Arms → List Place
arms_places no_arm = []
arms_places (else_arm os) = places os
arms_places (arm e os more) = places os ++ arms_places more

same_arms : (p : Place) (more : Arms) → unbuilt_branches (arms_branches p more) ≡ arms_places more
same_arms p no_arm = refl
same_arms p (else_arm os) = refl
same_arms p (arm e os more) = ap (λ l. places os ++ l) (same_arms p more)

-- what is read has these places, where no block is broken
abbrev Has : Parsed → List Place → Type 0
Has broken l = Unit {0}
Has (at_top os) l = l ≡ places os
Has (inside os arms outer) l = (m : List Place) × Has outer m × (l ≡ places os ++ (arms_places arms ++ m))

put_has : (o : Op) (front : List Place) (r : Parsed) (l : List Place) → ((os : Ops) → places (an_op o os) ≡ front ++ places os) → Has r l → Has (put o r) (front ++ l)
put_has o front broken l f h = tt
put_has o front (at_top os) l f h = ap (λ l. front ++ l) h ∙ sym (f os)
put_has o front (inside os arms outer) l f h =
    (h.0, h.1, ap (λ l. front ++ l) h.2 ∙ sym (append_assoc front (places os) (arms_places arms ++ h.0)) ∙ ap (λ u. u ++ (arms_places arms ++ h.0)) (sym (f os)))

if_has : (p : Place) (e : Expr) (r : Parsed) (l : List Place) → Has r l → Has (open_if p e r) l
if_has p e broken l h = tt
if_has p e (at_top os) l h = tt
if_has p e (inside os arms outer) l h =
    subst (Has (put (op_if p (arm e os arms)) outer)) (append_assoc (places os) (arms_places arms) h.0 ∙ sym h.2)
    (put_has (op_if p (arm e os arms)) (places os ++ arms_places arms) outer h.0 (λ qs. ap (λ u. (places os ++ u) ++ places qs) (same_arms p arms)) h.1)

elif_has : (e : Expr) (r : Parsed) (l : List Place) → Has r l → Has (next_arm e r) l
elif_has e broken l h = tt
elif_has e (at_top os) l h = tt
elif_has e (inside os arms outer) l h = (h.0, h.1, h.2 ∙ sym (append_assoc (places os) (arms_places arms) h.0))

else_has : (r : Parsed) (l : List Place) → Has r l → Has (last_arm r) l
else_has (inside os no_arm outer) l h = h
else_has (inside os (else_arm qs) outer) l h = tt
else_has (inside os (arm e qs more) outer) l h = tt
else_has broken l h = tt
else_has (at_top os) l h = tt

block_has : (f : Ops → Op) (r : Parsed) (l : List Place) → ((os qs : Ops) → places (an_op (f os) qs) ≡ places os ++ places qs) → Has r l → Has (open_block f r) l
block_has f (inside os no_arm outer) l g h = subst (Has (put (f os) outer)) (sym h.2) (put_has (f os) (places os) outer h.0 (g os) h.1)
block_has f (inside os (else_arm qs) outer) l g h = tt
block_has f (inside os (arm e qs more) outer) l g h = tt
block_has f broken l g h = tt
block_has f (at_top os) l g h = tt

has : (is : List Instruction) → Has (parse is) (load_places is)
has [] = refl
has (part o ∷ is) = put_has (op_part o) [] (parse is) (load_places is) (λ os. refl) (has is)
has (statement s ∷ is) = put_has (op_statement s) (unbuilt_statement s) (parse is) (load_places is) (λ os. refl) (has is)
has (begin_if p e ∷ is) = if_has p e (parse is) (load_places is) (has is)
has (begin_elif p e ∷ is) = elif_has e (parse is) (load_places is) (has is)
has (begin_else p ∷ is) = else_has (parse is) (load_places is) (has is)
has (begin_for p x e ∷ is) = block_has (op_for p x e) (parse is) (load_places is) (λ os qs. refl) (has is)
has (begin_def p n fragment x ps ∷ is) = block_has (op_def p n fragment x ps) (parse is) (load_places is) (λ os qs. refl) (has is)
has (close p ∷ is) = (load_places is, has is, refl)

in_whole : (r : Parsed) (l : List Place) (os : Ops) → Has r l → whole r ≡ Some os → l ≡ places os
in_whole broken l os h e = cc
in_whole (at_top qs) l os h e = h ∙ ap places (inner qs os e)
  where
    inner : (qs os : Ops) → Some qs ≡ Some os → qs ≡ os
    inner qs os e = cc
in_whole (inside qs arms outer) l os h e = cc

pub loaded_places : (is : List Instruction) (os : Ops) → blocks is ≡ Some os → load_places is ≡ unbuilt_items (ops_items os)
loaded_places is os e = in_whole (parse is) (load_places is) os (has is) e
