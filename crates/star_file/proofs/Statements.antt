-- What each rule of the grammar opens and closes of the blocks of a file.
use Rattle.std.proofs.Common.{◌≡◌, ℕ, ◌+◌, ◌||◌, nat_eq, Bool, true, false, List, [], ◌∷◌, Option, Some, drop, refl, sym, ap, ◌∙◌, subst, arith, if◌then◌else◌}
use Rattle.std.proofs.lemmas.Bool.Decides.{nat_tests}
use Rattle.std.proofs.lemmas.List.{drop-drop, map_push}
use Rattle.star_tree.specs.declared.code.Expr.{Expr}
use Rattle.star_tree.specs.declared.code.Stmt.{Stmt}
use Rattle.star_tree.specs.Whole.{instruction_of, instructions_of}
use Rattle.star_grammar.specs.declared.part.Part.{Part}
use Rattle.star_grammar.specs.declared.table.Choice.{Choice}
use Rattle.star_grammar.specs.declared.table.Choice.TheVariants as choice
use Rattle.star_grammar.specs.declared.table.Kind.TheVariants as kind
use Rattle.star_grammar.specs.declared.table.Rule.{Rule}
use Rattle.star_grammar.specs.declared.table.Rule.TheVariants as ruled
use Rattle.star_grammar.specs.declared.table.Stated.TheVariants as stated
use Rattle.star_grammar.specs.declared.token.Mark.{Mark}
use Rattle.star_grammar.specs.declared.token.Mark.TheVariants as mark
use Rattle.star_grammar.specs.declared.token.Token.{Token}
use Rattle.star_grammar.specs.declared.token.TokenKind.{TokenKind}
use Rattle.star_grammar.specs.declared.token.TokenKind.TheVariants as token
use Rattle.star_grammar.specs.Effects.{place}
use Rattle.star_grammar.specs.Language.{is_constant, kind_of_mark, kind_of_token, mark_of, mark_part}
use Rattle.star_grammar.specs.Parts.{code_in, mark_in, top}
use Rattle.star_grammar.specs.Table.{action_of, body, head}
use Rattle.star_grammar.specs.Trees.{built, fourth, second, stated_parts, statement_of_word, statement_with, third, with_statement}
use Rattle.star_file.proofs.Levels.{Level, Levels, block, branch, closed, next_branch, opened, run, run_more, step, step_from}
use Rattle.star_file.proofs.Stack.{Steps, past_one, past_2, past_3, steps_move}

-- ---- words at which blocks begin and end

data Word : Type 0 where
  if_word : Word
  elif_word : Word
  else_word : Word
  end_word : Word
  other_word : Word

abbrev word_of : Mark → Word
word_of mark.If = if_word
word_of mark.Elif = elif_word
word_of mark.Else = else_word
word_of mark.End = end_word
word_of m = other_word

-- by the place of the kind
abbrev word_at : ℕ → Word
word_at n = if nat_eq n 34 then if_word else if nat_eq n 30 then elif_word else if nat_eq n 31 then else_word else if nat_eq n 32 then end_word else other_word

mark_word : (m : Mark) → word_of m ≡ word_at (place (kind_of_mark m))
mark_word mark.If = refl
mark_word m = refl

name_word : (b : Bool) → other_word ≡ word_at (place (if b then kind.Constant else kind.Name))
name_word true = refl
name_word false = refl

token_word : (k : TokenKind) → word_of (mark_of k) ≡ word_at (place (kind_of_token k))
token_word (token.Name x) = name_word (is_constant x)
token_word (token.Int z) = refl
token_word (token.Text t) = refl
token_word (token.Mark m) = mark_word m

same_number : (n m : ℕ) → (nat_eq n m || false) ≡ true → n ≡ m
same_number n m e = grind (arith, nat_tests)

found_word : (k : Token) (n : ℕ) → (nat_eq (place (kind_of_token k.kind)) n || false) ≡ true → word_of (mark_of k.kind) ≡ word_at n
found_word k n e = token_word k.kind ∙ ap word_at (same_number (place (kind_of_token k.kind)) n e)

-- what a word does with an expression behind it, and alone
abbrev with_word : Word → Levels → Option Levels
with_word if_word ls = opened branch ls
with_word elif_word ls = next_branch branch ls
with_word w ls = Some ls

abbrev alone : Word → Levels → Option Levels
alone else_word ls = next_branch block ls
alone end_word ls = closed ls
alone w ls = Some ls

module _ (file : ℕ) where
  step_with : (l : ℕ) (m : Mark) (e : Expr) (ls : Levels) → step (instruction_of file (statement_with l m e)) ls ≡ with_word (word_of m) ls
  step_with l mark.If e ls = refl
  step_with l m e ls = refl

  step_alone : (l : ℕ) (m : Mark) (ls : Levels) → step (instruction_of file (statement_of_word l m)) ls ≡ alone (word_of m) ls
  step_alone l mark.Else ls = refl
  step_alone l m ls = refl

  -- ---- the statements that were read

  abbrev open_in : Part → Option Levels
  open_in p = run (instructions_of file (code_in p)) (Some [])

  -- what is open behind them, where they are the last part
  abbrev pub open_behind : List Part → Option Levels
  open_behind ps = open_in (top ps)

  abbrev Leads : (Levels → Option Levels) → List Part → List Part → Type 0
  Leads f ps qs = (ls : Levels) → open_behind ps ≡ Some ls → open_behind qs ≡ f ls

  abbrev pub Does : Rule → List Part → List Part → Type 0
  Does ruled.Top ps qs = Leads Some ps qs
  Does ruled.TopEnd ps qs = Leads Some ps qs
  Does ruled.File ps qs = Leads Some ps qs
  Does ruled.Stmt ps qs = Leads Some ps qs
  Does ruled.Simple ps qs = Leads Some ps qs
  Does ruled.SimpleMore ps qs = Leads Some ps qs
  Does ruled.SimpleTail ps qs = Leads Some ps qs
  Does ruled.Small ps qs = Leads Some ps qs
  Does ruled.DefHead ps qs = Leads (opened block) ps qs
  Does ruled.IfHead ps qs = Leads (opened branch) ps qs
  Does ruled.ElifHead ps qs = Leads (next_branch branch) ps qs
  Does ruled.ElseHead ps qs = Leads (next_branch block) ps qs
  Does ruled.ForHead ps qs = Leads (opened block) ps qs
  Does ruled.EndHead ps qs = Leads closed ps qs
  Does ruled.Elifs ps qs = (ls : Levels) → open_behind ps ≡ Some (branch ∷ ls) → (l : Level) × (open_behind qs ≡ Some (l ∷ ls))
  Does ruled.SmallMore ps qs = (ls : Levels) → open_in (second ps) ≡ Some ls → open_behind qs ≡ Some ls
  Does r ps qs = Unit {0}

  -- one more statement
  one_more : (p : Part) (s : Stmt) (ls : Levels) → open_in p ≡ Some ls → open_in (with_statement p s) ≡ step (instruction_of file s) ls
  one_more p s ls e =
      ap (λ is. run is (Some [])) (map_push (instruction_of file) (code_in p) s)
      ∙ run_more (instructions_of file (code_in p)) (instruction_of file s) (Some [])
      ∙ ap (step_from (instruction_of file s)) e

  same : (ps qs : List Part) → ps ≡ qs → Leads Some ps qs
  same ps qs e ls o = ap open_behind (sym e) ∙ o

  -- the parts under some
  second_is : (qs rs : List Part) → drop 1 qs ≡ rs → second qs ≡ top rs
  second_is qs rs e = ap top (past_one qs ∙ e)

  third_is : (qs rs : List Part) → drop 2 qs ≡ rs → third qs ≡ top rs
  third_is qs rs e = ap top (past_2 qs ∙ e)

  fourth_is : (qs rs : List Part) → drop 3 qs ≡ rs → fourth qs ≡ top rs
  fourth_is qs rs e = ap top (past_3 qs ∙ e)

  one_further : (n : ℕ) (qs rs : List Part) → drop n qs ≡ rs → drop (n + 1) qs ≡ drop 1 rs
  one_further n qs rs e = sym (drop-drop 1 n qs) ∙ ap (drop 1) e

  alone_does : (ps : List Part) (k : Token) (w : Word) → word_of (mark_of k.kind) ≡ w → Leads (alone w) ps (stated_parts stated.Word (mark_part k ∷ ps))
  alone_does ps k w e ls o =
      one_more (top ps) (statement_of_word k.line (mark_of k.kind)) ls o
      ∙ step_alone k.line (mark_of k.kind) ls
      ∙ ap (λ w. alone w ls) e

  with_does : (ps qs : List Part) (k : Token) (w : Word) → drop 1 qs ≡ mark_part k ∷ ps → word_of (mark_of k.kind) ≡ w → Leads (with_word w) ps (stated_parts stated.WordExpr qs)
  with_does ps qs k w below e ls o =
      one_more (third qs) _ ls (ap open_in (third_is qs ps (one_further 1 qs (mark_part k ∷ ps) below)) ∙ o)
      ∙ step_with _ (mark_in (second qs)) _ ls
      ∙ ap (λ p. with_word (word_of (mark_in p)) ls) (second_is qs (mark_part k ∷ ps) below)
      ∙ ap (λ w. with_word w ls) e

  -- ---- alternatives

  pub does : (c : Choice) (ps qs : List Part) → Steps Does (body c) ps qs → Does (head c) ps (built (action_of c) qs)
  does choice.Top ps qs h = λ ls o. same h.3.0 qs h.3.3 ls (h.3.2 ls (h.2 ls o))
  does choice.TopEmpty ps qs h = same ps qs h
  does choice.TopNext ps qs h = λ ls o. same h.2.0 qs h.2.3 ls (h.2.2 ls o)
  does choice.TopStop ps qs h = same ps qs h
  does choice.File ps qs h = λ ls o. same h.3.2.0 qs h.3.2.3 ls (h.3.2.2 ls (h.2 ls o))
  does choice.FileEnd ps qs h = same ps qs h
  does choice.DefStmt ps qs h = λ ls o. same h.3.2.3.0 qs h.3.2.3.3 ls (h.3.2.3.2 (block ∷ ls) (h.3.2.2 (block ∷ ls) (h.2 ls o)))
  does choice.IfStmt ps qs h = λ ls o.
      let inner = h.3.2 in
      let more = inner.3.2 ls (inner.2 (branch ∷ ls) (h.2 ls o)) in
      same inner.3.3.0 qs inner.3.3.3 ls (inner.3.3.2 (more.0 ∷ ls) more.1)
  does choice.ForStmt ps qs h = λ ls o. same h.3.2.3.0 qs h.3.2.3.3 ls (h.3.2.3.2 (block ∷ ls) (h.3.2.2 (block ∷ ls) (h.2 ls o)))
  does choice.SimpleStmt ps qs h = λ ls o. same h.0 qs h.3 ls (h.2 ls o)
  does choice.Elif ps qs h = λ ls o.
      let inner = h.3.2 in
      let more = inner.3.2 ls (inner.2 (branch ∷ ls) (h.2 (branch ∷ ls) o)) in
      (more.0, same inner.3.0 qs inner.3.3 (more.0 ∷ ls) more.1)
  does choice.Else ps qs h = λ ls o.
      let inner = h.3.2 in
      (block, same inner.0 qs inner.3 (block ∷ ls) (inner.2 (block ∷ ls) (h.2 (branch ∷ ls) o)))
  does choice.ElifsEnd ps qs h = λ ls o. (branch, same ps qs h (branch ∷ ls) o)
  does choice.DefHead ps qs h = λ ls o. one_more (fourth qs) _ ls (ap open_in (fourth_is qs ps (steps_move Does (body choice.DefHead) ps qs h)) ∙ o)
  does choice.IfHead ps qs h = with_does ps qs h.0 if_word (subst (λ us. drop 1 us ≡ mark_part h.0 ∷ ps) h.2.3.2 h.2.1) (found_word h.0 34 h.1)
  does choice.ElifHead ps qs h = with_does ps qs h.0 elif_word (subst (λ us. drop 1 us ≡ mark_part h.0 ∷ ps) h.2.3.2 h.2.1) (found_word h.0 30 h.1)
  does choice.ElseHead ps qs h = subst (λ us. Leads (next_branch block) ps (stated_parts stated.Word us)) h.2.2 (alone_does ps h.0 else_word (found_word h.0 31 h.1))
  does choice.ForHead ps qs h = λ ls o. one_more (fourth qs) _ ls (ap open_in (fourth_is qs ps (steps_move Does (body choice.ForHead) ps qs h)) ∙ o)
  does choice.EndHead ps qs h = subst (λ us. Leads closed ps (stated_parts stated.Word us)) h.2 (alone_does ps h.0 end_word (found_word h.0 32 h.1))
  does choice.Simple ps qs h = λ ls o. same h.3.0 qs h.3.3 ls (h.3.2 ls (h.2 ls o))
  does choice.Semicolon ps qs h = λ ls o. same h.2.0 qs h.2.3 ls (h.2.2 ls o)
  does choice.SimpleEnd ps qs h = same ps qs h
  does choice.SimpleNext ps qs h = λ ls o. same h.3.0 qs h.3.3 ls (h.3.2 ls (h.2 ls o))
  does choice.SimpleStop ps qs h = same ps qs h
  does choice.Return ps qs h = with_does ps qs h.0 other_word (subst (λ us. drop 1 us ≡ mark_part h.0 ∷ ps) h.2.3 h.2.1) (found_word h.0 41 h.1)
  does choice.Break ps qs h = subst (λ us. Leads Some ps (stated_parts stated.Word us)) h.2 (alone_does ps h.0 other_word (found_word h.0 27 h.1))
  does choice.Continue ps qs h = subst (λ us. Leads Some ps (stated_parts stated.Word us)) h.2 (alone_does ps h.0 other_word (found_word h.0 28 h.1))
  does choice.Pass ps qs h = subst (λ us. Leads Some ps (stated_parts stated.Word us)) h.2 (alone_does ps h.0 other_word (found_word h.0 40 h.1))
  does choice.Load ps qs h = λ ls o. one_more (fourth qs) _ ls (ap open_in (fourth_is qs ps (steps_move Does (body choice.Load) ps qs h)) ∙ o)
  does choice.Statement ps qs h = λ ls o. same h.3.0 qs h.3.3 ls (h.3.2 ls (ap open_in (second_is h.0 ps h.1) ∙ o))
  does choice.Assign ps qs h = λ ls o.
      let under_it = one_further 1 qs ps (steps_move Does (body choice.Assign) ps qs h) in
      one_more (third qs) _ ls (ap open_in (third_is qs (drop 1 ps) under_it ∙ sym (second_is ps (drop 1 ps) refl)) ∙ o)
  does choice.Augment ps qs h = λ ls o.
      let under_it = one_further 2 qs ps (steps_move Does (body choice.Augment) ps qs h) in
      one_more (fourth qs) _ ls (ap open_in (fourth_is qs (drop 1 ps) under_it ∙ sym (second_is ps (drop 1 ps) refl)) ∙ o)
  does choice.SmallEnd ps qs h = λ ls o. one_more (second qs) _ ls (ap (λ us. open_in (second us)) (sym h) ∙ o)
  does c ps qs h = tt
