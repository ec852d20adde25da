-- The parts of a text are the text.
use Rattle.std.proofs.Common.{◌≡◌, ℕ, List, [], ◌∷◌, ◌++◌, refl, sym, ap, ◌∙◌, append_assoc, append-nil, codes, decimal, Some, None, Result, Ok, Err, OnOk}
use Rattle.ytt_base.specs.declared.text.Memory.{Memory}
use Rattle.yaml_spec.specs.Bytes.{space}
use Rattle.code_spec.specs.Code as code
use Rattle.code_spec.specs.Code.{Expr, BinaryOperator, not_contained, evaluate, assign, augment, load, return, break, continue, pass}
use Rattle.code_spec.specs.Program.{node_start, node_note, node_key, node_key_from, node_value, node_value_from, node_end, Instruction, part, statement, begin_if, begin_elif, begin_else, begin_for, begin_def, close}
use Rattle.listing_spec.specs.Listing.{binary_phrases, clauses_phrases, expr_phrase, instruction_phrases, instruction_place, line_listed, listing, loaded_phrases, parameters_phrases, pieces_phrases, two}
use Rattle.listing_spec.specs.Phrases.{bracketed, Phrases, no_phrases, a_phrase, joined_text, phrase_text, spaced_text}
use Rattle.listing.specs.Forms.{binary_words, clause_phrase, closing, inside, opening, parameter_phrase, piece_phrase, separated_text, spaced}
use Rattle.listing.specs.Lines.{first_word, rest}
use Rattle.star_tree.specs.declared.code.Loaded.{Loaded}
use Rattle.star_tree.specs.declared.code.Stmt.{Stmt}
use Rattle.star_tree.specs.Whole as whole
use Rattle.star_tree.specs.Whole.{for_part, if_part, named_part, default_part, bare_part, star_part, stars_part, written_part, expr_part, clauses_from, instruction_of, instructions_of, loaded_names_of, parameters_from, pieces_from}

-- an operator in front of phrases
operator_first : (o : BinaryOperator) (ps : Phrases) → spaced_text (binary_phrases o ps) ≡ space ∷ (binary_words o ++ spaced_text ps)
operator_first not_contained ps = refl
operator_first o ps = refl

operated : (o a b : List ℕ) → (codes "(bin " ++ o) ++ (((space ∷ a) ++ (space ∷ b)) ++ codes ")") ≡ codes "(bin" ++ ((space ∷ (o ++ (space ∷ (a ++ (space ∷ (b ++ [])))))) ++ codes ")")
operated o a b = simp (append_assoc, append-nil)

pub whole_text : (e : Expr) → opening e ++ (inside e ++ closing e) ≡ phrase_text (expr_phrase e)
whole_text (code.int p z) = append-nil _
whole_text (code.text p t) = append-nil _
whole_text (code.name p x) = append-nil _
whole_text (code.list p es) = refl
whole_text (code.tuple p es) = refl
whole_text (code.dict p es) = refl
whole_text (code.unary p o a) = simp (append_assoc, append-nil)
whole_text (code.binary p o a b) =
    operated (binary_words o) (phrase_text (expr_phrase a)) (phrase_text (expr_phrase b)) ∙ ap (λ t. codes "(bin" ++ (t ++ codes ")")) (sym (operator_first o (two (expr_phrase a) (expr_phrase b))))
whole_text (code.conjunction p a b) = simp (append_assoc, append-nil)
whole_text (code.disjunction p a b) = simp (append_assoc, append-nil)
whole_text (code.conditional p c a b) = simp (append_assoc, append-nil)
whole_text (code.call p f es) = simp (append_assoc, append-nil)
whole_text (code.named p x e) = simp (append_assoc, append-nil)
whole_text (code.starred p e) = simp (append_assoc, append-nil)
whole_text (code.double_starred p e) = simp (append_assoc, append-nil)
whole_text (code.index p a i) = simp (append_assoc, append-nil)
whole_text (code.slice p a l h d) = simp (append_assoc, append-nil)
whole_text (code.attribute p a x) = simp (append_assoc, append-nil)
whole_text (code.lambda p n ps e) = simp (append_assoc, append-nil)
whole_text (code.list_comprehension p e cs) = simp (append_assoc, append-nil)
whole_text (code.dict_comprehension p a b cs) = simp (append_assoc, append-nil)
whole_text (code.text_template p ps) = refl

-- an expression that was put part by part, behind what stands before it
pub put_whole : (old first second third new before last : List ℕ) (e : Expr) →
    first ≡ old ++ before → second ≡ first ++ opening e → third ≡ second ++ inside e → new ≡ third ++ last → last ≡ closing e → new ≡ old ++ (before ++ phrase_text (expr_phrase e))
put_whole old first second third new before last e a b c d shut =
    d ∙ (λ i. c i ++ shut i) ∙ ap (λ l. (l ++ inside e) ++ closing e) (b ∙ ap (λ l. l ++ opening e) a)
    ∙ append_assoc ((old ++ before) ++ opening e) (inside e) (closing e) ∙ append_assoc (old ++ before) (opening e) (inside e ++ closing e)
    ∙ append_assoc old before (opening e ++ (inside e ++ closing e)) ∙ ap (λ l. old ++ (before ++ l)) (whole_text e)

-- the same, where the last call tells whether there was room
pub put_whole_if : (r : Result (Unit {0}) Memory) (old first second third new before last : List ℕ) (e : Expr) →
    first ≡ old ++ before → second ≡ first ++ opening e → third ≡ second ++ inside e → OnOk r (new ≡ third ++ last) → last ≡ closing e → OnOk r (new ≡ old ++ (before ++ phrase_text (expr_phrase e)))
put_whole_if (Ok u) old first second third new before last e a b c d shut = put_whole old first second third new before last e a b c d shut
put_whole_if (Err m) old first second third new before last e a b c d shut = tt

-- ---- what stands in lists, the first and the others

pub clauses_first : (c : whole.Clause) (cs : List whole.Clause) → spaced_text (clauses_phrases (clauses_from (c ∷ cs))) ≡ spaced (clause_phrase c) ++ spaced_text (clauses_phrases (clauses_from cs))
clauses_first (for_part x e) cs = refl
clauses_first (if_part e) cs = refl

pub pieces_first : (p : whole.Piece) (ps : List whole.Piece) → spaced_text (pieces_phrases (pieces_from (p ∷ ps))) ≡ spaced (piece_phrase p) ++ spaced_text (pieces_phrases (pieces_from ps))
pieces_first (written_part t) ps = refl
pieces_first (expr_part e) ps = refl

parameters_first : (p : whole.Parameter) (ps : List whole.Parameter) → parameters_phrases (parameters_from (p ∷ ps)) ≡ a_phrase (parameter_phrase p) (parameters_phrases (parameters_from ps))
parameters_first (named_part x) ps = refl
parameters_first (default_part x e) ps = refl
parameters_first bare_part ps = refl
parameters_first (star_part x) ps = refl
parameters_first (stars_part x) ps = refl

separated_spaced : (ps : Phrases) → separated_text (codes " ") ps ≡ spaced_text ps
separated_spaced no_phrases = refl
separated_spaced (a_phrase p ps) = refl

-- parameters behind what stands before the first of them
pub parameters_then : (before : List ℕ) (p : whole.Parameter) (ps : List whole.Parameter) →
    separated_text before (parameters_phrases (parameters_from (p ∷ ps))) ≡ (before ++ phrase_text (parameter_phrase p)) ++ separated_text (codes " ") (parameters_phrases (parameters_from ps))
parameters_then before p ps =
    ap (separated_text before) (parameters_first p ps) ∙ sym (append_assoc before (phrase_text (parameter_phrase p)) (spaced_text (parameters_phrases (parameters_from ps))))
    ∙ ap (λ l. (before ++ phrase_text (parameter_phrase p)) ++ l) (sym (separated_spaced (parameters_phrases (parameters_from ps))))

pub joined_separated : (ps : Phrases) → separated_text [] ps ≡ joined_text ps
joined_separated no_phrases = refl
joined_separated (a_phrase p ps) = refl

-- parameters in brackets
pub parameters_closed : (r : Result (Unit {0}) Memory) (old first second new : List ℕ) (ps : Phrases) →
    first ≡ old ++ codes " (" → second ≡ first ++ joined_text ps → OnOk r (new ≡ second ++ codes ")") → OnOk r (new ≡ old ++ spaced (bracketed ps))
parameters_closed (Ok u) old first second new ps a b c =
    c ∙ ap (λ l. l ++ codes ")") (b ∙ ap (λ l. l ++ joined_text ps) a) ∙ append_assoc (old ++ codes " (") (joined_text ps) (codes ")") ∙ append_assoc old (codes " (") (joined_text ps ++ codes ")")
parameters_closed (Err m) old first second new ps a b c = tt

pub names_first : (x : Loaded) (xs : List Loaded) →
    spaced_text (loaded_phrases (loaded_names_of (x ∷ xs))) ≡ spaced_text (loaded_phrases (loaded_names_of (x ∷ []))) ++ spaced_text (loaded_phrases (loaded_names_of xs))
names_first x xs = simp (append_assoc, append-nil)

-- ---- instructions

-- the word of a line, and what stands behind it
pub line_parts : (i : Instruction) → first_word i ++ rest i ≡ spaced_text (instruction_phrases i)
line_parts (part (node_start p k h)) = simp (append_assoc, append-nil)
line_parts (part (node_note p x es)) = refl
line_parts (part (node_key p x)) = simp (append_assoc, append-nil)
line_parts (part (node_key_from p e)) = simp (append_assoc, append-nil)
line_parts (part (node_value p x)) = simp (append_assoc, append-nil)
line_parts (part (node_value_from p e)) = simp (append_assoc, append-nil)
line_parts (part (node_end p)) = refl
line_parts (statement (evaluate p e)) = simp (append_assoc, append-nil)
line_parts (statement (assign p x e)) = simp (append_assoc, append-nil)
line_parts (statement (augment p o q x e)) = simp (append_assoc, append-nil)
line_parts (statement (load p path xs)) = refl
line_parts (statement (return p e)) = simp (append_assoc, append-nil)
line_parts (statement (break p)) = refl
line_parts (statement (continue p)) = refl
line_parts (statement (pass p)) = refl
line_parts (begin_if p e) = simp (append_assoc, append-nil)
line_parts (begin_elif p e) = simp (append_assoc, append-nil)
line_parts (begin_else p) = refl
line_parts (begin_for p x e) = simp (append_assoc, append-nil)
line_parts (begin_def p n None x ps) = simp (append_assoc, append-nil)
line_parts (begin_def p n (Some k) x ps) = simp (append_assoc, append-nil)
line_parts (close p) = refl

-- a line that was put part by part, where there was room
pub put_line : (r : Result (Unit {0}) Memory) (old first second third new : List ℕ) (line : ℕ) (i : Instruction) →
    first ≡ old ++ decimal line → second ≡ first ++ first_word i → third ≡ second ++ rest i → OnOk r (new ≡ third ++ codes "\n") → OnOk r (new ≡ old ++ line_listed line (instruction_phrases i))
put_line (Ok u) old first second third new line i a b c d =
    d ∙ ap (λ l. l ++ codes "\n") (c ∙ ap (λ l. l ++ rest i) (b ∙ ap (λ l. l ++ first_word i) a))
    ∙ append_assoc ((old ++ decimal line) ++ first_word i) (rest i) (codes "\n") ∙ append_assoc (old ++ decimal line) (first_word i) (rest i ++ codes "\n")
    ∙ append_assoc old (decimal line) (first_word i ++ (rest i ++ codes "\n")) ∙ ap (λ l. old ++ (decimal line ++ l)) (sym (append_assoc (first_word i) (rest i) (codes "\n")) ∙ ap (λ l. l ++ codes "\n") (line_parts i))
put_line (Err m) old first second third new line i a b c d = tt

pub no_instructions : listing [] ≡ []
unfolding listing
no_instructions = refl

pub instructions_first : (file : ℕ) (s : Stmt) (ss : List Stmt) →
    listing (instructions_of file (s ∷ ss)) ≡ line_listed (instruction_place (instruction_of file s)).line (instruction_phrases (instruction_of file s)) ++ listing (instructions_of file ss)
unfolding listing
instructions_first file s ss = refl
