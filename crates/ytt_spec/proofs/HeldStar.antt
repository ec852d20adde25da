-- The items of a file of code are what the program holds, where the file is read as such.
use Rattle.std.proofs.Common.{ℕ, suc, List, [], ◌∷◌, Some, None, sym, subst, if◌then◌else◌}
use Rattle.std.specs.Result.{IfOk}
use Rattle.ytt_base.specs.declared.fault.Place.{Place}
use Rattle.ytt_laws.proofs.Yielded.{yielded_behind, yielded_then}
use Rattle.code_spec.specs.Blocks.{Op, op_part, op_statement, op_if, op_for, op_def, Ops, Arms, no_arm, else_arm, arm, Parsed, broken, at_top, inside, put, open_if, next_arm, last_arm, open_block, parse, whole}
use Rattle.code_spec.specs.Code.{Expr}
use Rattle.code_spec.specs.CodeReading.{CodeReader}
use Rattle.code_spec.specs.Numbering.{number_expr}
use Rattle.code_spec.specs.Program.{document_item, Instruction, part, statement, begin_if, begin_elif, begin_else, begin_for, begin_def, close}
use Rattle.star_spec.specs.Held.{HeldExpr}
use Rattle.template_spec.specs.Numbered.{number_instruction, number_program, numbered_program}
use Rattle.template_spec.specs.Template.{Items, fragment_kind}
use Rattle.template_meaning.specs.Calls.{level_of}
use Rattle.template_meaning.proofs.BuildKeeps.{HeldBranches, HeldItems}
use Rattle.template_meaning.proofs.NumbersHeld.{held_expr, held_parameters, held_statement}
use Rattle.yaml_spec.specs.Lines.{Lines}
use Rattle.world_spec.proofs.CodeBlocks.{no_nodes}
use Rattle.world_spec.specs.StarFiles.{arms_branches, items_in, lines_text, op_item, ops_items, program_items, star_items}
use Rattle.ytt_spec.proofs.HeldCode.{ReadsHeld, HeldInstruction, HeldLine}

-- ---- numbers

numbered_instruction : (i : Instruction) (n : ℕ) → HeldInstruction i → HeldInstruction (number_instruction i n).result
numbered_instruction (part o) n h = tt
numbered_instruction (statement s) n h = held_statement s n h
numbered_instruction (begin_if p e) n h = held_expr e n h
numbered_instruction (begin_elif p e) n h = held_expr e n h
numbered_instruction (begin_else p) n h = tt
numbered_instruction (begin_for p x e) n h = (held_expr x n h.0, held_expr e (number_expr x n).next h.1)
numbered_instruction (begin_def p k fragment x ps) n h = (h.0, held_parameters ps (suc n) h.1)
numbered_instruction (close p) n h = tt

numbered_line : (is : List Instruction) (n : ℕ) → HeldLine is → HeldLine (number_program is n).result
numbered_line [] n h = tt
numbered_line (i ∷ is) n h = (numbered_instruction i n h.0, numbered_line is (number_instruction i n).next h.1)

-- ---- blocks

abbrev HeldOp : Op → Type 0
HeldOp o = (is : Items) → HeldItems 0 is → HeldItems 0 (op_item o is)

abbrev HeldArms : Arms → Type 0
HeldArms arms = (p : Place) → HeldBranches 0 (arms_branches p arms)

abbrev HeldParsed : Parsed → Type 0
HeldParsed broken = Unit {0}
HeldParsed (at_top os) = HeldItems 0 (ops_items os)
HeldParsed (inside os arms outer) = HeldItems 0 (ops_items os) × HeldArms arms × HeldParsed outer

held_put : (o : Op) (t : Parsed) → HeldOp o → HeldParsed t → HeldParsed (put o t)
held_put o broken h g = tt
held_put o (at_top os) h g = h (ops_items os) g
held_put o (inside os arms outer) h g = (h (ops_items os) g.0, g.1, g.2)

held_if : (p : Place) (e : Expr) (t : Parsed) → HeldExpr e → HeldParsed t → HeldParsed (open_if p e t)
held_if p e broken h g = tt
held_if p e (at_top os) h g = tt
held_if p e (inside os arms outer) h g = held_put (op_if p (arm e os arms)) outer (λ is k. ((h, g.0, g.1 p), k)) g.2

held_next : (e : Expr) (t : Parsed) → HeldExpr e → HeldParsed t → HeldParsed (next_arm e t)
held_next e broken h g = tt
held_next e (at_top os) h g = tt
held_next e (inside os arms outer) h g = (tt, (λ p. (h, g.0, g.1 p)), g.2)

held_last : (t : Parsed) → HeldParsed t → HeldParsed (last_arm t)
held_last broken g = tt
held_last (at_top os) g = tt
held_last (inside os no_arm outer) g = (tt, (λ p. g.0), g.2)
held_last (inside os (else_arm qs) outer) g = tt
held_last (inside os (arm e qs more) outer) g = tt

held_block : (f : Ops → Op) (t : Parsed) → ((os : Ops) → HeldItems 0 (ops_items os) → HeldOp (f os)) → HeldParsed t → HeldParsed (open_block f t)
held_block f broken h g = tt
held_block f (at_top os) h g = tt
held_block f (inside os no_arm outer) h g = held_put (f os) outer (h os g.0) g.2
held_block f (inside os (else_arm qs) outer) h g = tt
held_block f (inside os (arm e qs more) outer) h g = tt

-- the body of a function, in which no node stands
body_held : (os : Ops) → HeldItems 0 (ops_items os) → HeldItems (level_of (fragment_kind document_item (ops_items os))) (ops_items os)
body_held os h = subst (λ b. HeldItems (level_of (if b then Some document_item else None)) (ops_items os)) (sym (no_nodes os)) h

held_parsed : (is : List Instruction) → HeldLine is → HeldParsed (parse is)
held_parsed [] h = tt
held_parsed (part o ∷ is) h = held_put (op_part o) (parse is) (λ js k. k) (held_parsed is h.1)
held_parsed (statement s ∷ is) h = held_put (op_statement s) (parse is) (λ js k. (h.0, k)) (held_parsed is h.1)
held_parsed (begin_if p e ∷ is) h = held_if p e (parse is) h.0 (held_parsed is h.1)
held_parsed (begin_elif p e ∷ is) h = held_next e (parse is) h.0 (held_parsed is h.1)
held_parsed (begin_else p ∷ is) h = held_last (parse is) (held_parsed is h.1)
held_parsed (begin_for p x e ∷ is) h = held_block (op_for p x e) (parse is) (λ os g js k. ((h.0.0, h.0.1, g), k)) (held_parsed is h.1)
held_parsed (begin_def p n fragment x ps ∷ is) h = held_block (op_def p n fragment x ps) (parse is) (λ os g js k. ((h.0.0, h.0.1, body_held os g), k)) (held_parsed is h.1)
held_parsed (close p ∷ is) h = (tt, (λ q. tt), held_parsed is h.1)

held_whole : (t : Parsed) → HeldParsed t → IfOk (items_in (whole t)) (HeldItems 0)
held_whole broken g = tt
held_whole (at_top os) g = g
held_whole (inside os arms outer) g = tt

program_held : (is : List Instruction) → HeldLine is → IfOk (program_items is) (HeldItems 0)
program_held is h = held_whole (parse (numbered_program is)) (held_parsed (numbered_program is) (numbered_line is 0 h))

pub star_held : (r : CodeReader) → ReadsHeld r → (n : ℕ) (bytes : List ℕ) → IfOk (star_items r n bytes) (HeldItems 0)
star_held r reads n bytes =
    yielded_behind (HeldItems 0) (Lines n bytes) _
    (λ ls. yielded_then HeldLine (HeldItems 0) (r.file n (lines_text ls)) program_items (reads.file n (lines_text ls)) program_held)
