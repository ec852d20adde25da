-- What the text of a file is read as.
use Rattle.std.proofs.Common.{◌≡◌, ℕ, List, [], ◌∷◌, Result, Ok, Err, ap, ◌∙◌, inl, inr}
use Rattle.std.specs.Result.{IfOk}
use Rattle.ytt_base.specs.declared.fault.Fault.{Fault}
use Rattle.ytt_base.specs.declared.fault.Stop.{Stop}
use Rattle.ytt_base.specs.declared.fault.Stop.TheVariants as stop
use Rattle.ytt_base.specs.Outcomes.{Gives, Outcome, place_at}
use Rattle.code_spec.specs.Program.{Instruction}
use Rattle.star_tree.specs.declared.code.Program.{Program}
use Rattle.star_tree.specs.Whole.{instructions_of, program_of}
use Rattle.star_grammar.specs.declared.part.Part.{Part}
use Rattle.star_grammar.specs.declared.start.Start.TheVariants as start
use Rattle.star_grammar.specs.declared.token.Origin.TheVariants as origin
use Rattle.star_grammar.specs.CodeReaders.{ReadsFileAs, refusal_fault}
use Rattle.star_grammar.specs.Parts.{code_in}
use Rattle.star_token.specs.declared.found.Tokens as held
use Rattle.star_token.specs.Outcome.{HasTokens}
use Rattle.star_read.specs.Answers.{HasRead, program_in}
use Rattle.notes_read.proofs.Reading.{one_reading, told_is}
use Rattle.world_spec.specs.Laws.{AreCodeBlocks}
use Rattle.star_file.proofs.ReadFiles.{files_are_code}

stop_inj : (f g : Fault) → stop.Fault f ≡ stop.Fault g → f ≡ g
stop_inj f g e = cc

module _ (n : ℕ) (text : List ℕ) where
  abbrev view : Part → List Instruction
  view p = instructions_of n (code_in p)

  same_reading : (o p : Outcome (List Instruction)) → ReadsFileAs n text o → ReadsFileAs n text p → o ≡ p
  same_reading o p h g = one_reading origin.File start.File view (place_at n 1) text o p h g

  -- that it has no tokens
  pub gives_cut : (f : Fault) (o : Outcome (List Instruction)) → HasTokens origin.File n 1 text (Err (stop.Fault f)) → ReadsFileAs n text o → o ≡ Err f
  gives_cut f o h r = same_reading o (Err f) r (inl h)

  module _ (found : held.Tokens) (cut : HasTokens origin.File n 1 text (Ok found)) where
    is_tree : (x : Program) → HasRead start.File (program_in found.file) found (Ok x) → ReadsFileAs n text (Ok (program_of x))
    is_tree x p = (found.tokens, p.0 ∷ [], cut.0, p.2, ap program_of p.1 ∙ ap (λ file. instructions_of file (code_in p.0)) cut.1)

    -- what its tokens are read as
    pub gives_read : (res : Result Program Stop) (o : Outcome (List Instruction)) → HasRead start.File (program_in found.file) found res → ReadsFileAs n text o → Gives program_of res o
    gives_read (Ok x) o p r = same_reading o (Ok (program_of x)) r (is_tree x p)
    gives_read (Err (stop.Fault f)) o p r =
        let same : f ≡ refusal_fault n p.0 = stop_inj f (refusal_fault n p.0) (p.1 ∙ told_is found.file p.0 ∙ ap (λ file. stop.Fault (refusal_fault file p.0)) cut.1) in
        same_reading o (Err f) r (inr (found.tokens, p.0, cut.0, p.2, same))
    gives_read (Err stop.Memory) o p r = tt

    pub read_code : (res : Result Program Stop) → HasRead start.File (program_in found.file) found res → IfOk res (λ p. AreCodeBlocks (program_of p))
    read_code (Ok x) p = files_are_code n text (program_of x) (is_tree x p)
    read_code (Err e) p = tt

    pub read_number : (res : Result Program Stop) → HasRead start.File (program_in found.file) found res → IfOk res (λ p. p.file ≡ n)
    read_number (Ok x) p = ap (λ (p : Program). p.file) p.1 ∙ cut.1
    read_number (Err e) p = tt
