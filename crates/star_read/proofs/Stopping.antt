-- Where the reader stops: at the token that is refused, or at the end, with the one part of the text.
use Rattle.std.proofs.Common.{◌≡◌, ◌⊎◌, ℕ, ◌<◌, List, Result, Ok, Err, length, get_or, drop, take, refl, subst, inl, inr}
use Rattle.std.specs.Result.{result_map_both}
use Rattle.ytt_base.specs.declared.fault.Stop.{Stop}
use Rattle.ytt_base.specs.declared.fault.Stop.TheVariants as stop
use Rattle.star_grammar.specs.declared.part.Part.{Part}
use Rattle.star_grammar.specs.declared.start.Stand.{Stand}
use Rattle.star_grammar.specs.declared.start.Start.{Start}
use Rattle.star_grammar.specs.declared.token.Token.{Token}
use Rattle.star_grammar.specs.Parts.{top}
use Rattle.star_grammar.specs.Reading.{Refusal, code_form, too_deep, Refuses}
use Rattle.star_grammar.specs.Standing.{stands, at_first}
use Rattle.star_token.specs.declared.found.Tokens.{Tokens}
use Rattle.star_machine.specs.declared.machine.Machine.{Machine}
use Rattle.star_machine.specs.Turns.{value_of}
use Rattle.star_read.specs.Answers.{HasParts, HasRead, refusal_at, told}
use Rattle.star_read.specs.Passing.{IsRefused, IsTooHigh, stand_behind}
use Rattle.star_read.proofs.Answering.{read, read_all, refused_form, refused_deep}
use Rattle.star_read.proofs.OnePart.{one_read}

told_parts : (A : Type 0) (s : Start) (ts : Tokens) (r : Refusal) (x : Stop) (ps : List Part) → x ≡ told ts.file r → Refuses s ts.tokens r → HasParts {A = A} s ts (Err x) ps
told_parts A s ts (code_form l) x ps e h = rw e (code_form l, refl, h)
told_parts A s ts (too_deep l) x ps e h = rw e (too_deep l, refl, h)

module _ (A : Type 0) (s : Start) (ts : Tokens) (found : List Token) (i : ℕ) (k : Token) (m n : Machine) (st : Stand) (x : Stop) (ps : List Part) (same : found ≡ ts.tokens) (lt : i < length found)
    (is : k ≡ get_or found i k) (r : read (drop i found) m.pending (value_of m) ≡ read_all s found) (at : st ≡ stands s at_first (take i found)) where
  pub stopped : IsRefused ts.file st k m x ⊎ (IsTooHigh s ts.file st k m n x ⊎ (x ≡ stop.Memory)) → HasParts {A = A} s ts (Err x) ps
  stopped (inl h) = told_parts A s ts (refusal_at st k) x ps h.0 (subst (λ l. Refuses s l (refusal_at st k)) same (refused_form s found i k m.pending (value_of m) lt is r st at h.1))
  stopped (inr (inl h)) =
      told_parts A s ts (too_deep (stand_behind s st k).line) x ps h.0
      (subst (λ l. Refuses s l (too_deep (stand_behind s st k).line)) same (refused_deep s found i k m.pending (value_of m) lt is r st n.pending (value_of n) at h.1 h.2))
  stopped (inr (inr e)) = rw e tt

-- the last part is the one that the tokens are
pub part_read : (A : Type 0) (s : Start) (ts : Tokens) (done : Result A Stop) (ps : List Part) (x : Result Part Stop) → HasParts s ts done ps → x ≡ result_map_both (λ _. top ps) (λ stop. stop) done → HasRead s (λ p. p) ts x
part_read A s ts (Ok u) ps x h e = rw e (one_read s ts.tokens ps (top ps) h refl)
part_read A s ts (Err (stop.Fault f)) ps x h e = rw e h
part_read A s ts (Err stop.Memory) ps x h e = rw e tt
