-- A plain scalar line by line (YAML 1.2.2, 7.3.3).
use Rattle.std.specs.Prelude.{ℕ, Bool, true, false, if◌then◌else◌, List, ◌∷◌, Ok}
use Rattle.ytt_base.specs.Outcomes.{Outcome, ◌>>=◌}
use Rattle.yaml_spec.specs.Bytes.{is_blank, skip_white}
use Rattle.yaml_spec.specs.Folding.{Fold}
use Rattle.yaml_spec.specs.Plain.{part, behind, breaks_scalar, ends_scalar, further, plain_at}
use Rattle.ytt_base.specs.declared.fault.Place.{Place}
use Rattle.ytt_base.specs.Trees.{Tree}
use Rattle.yaml_spec.specs.Quotes.{Cursor}
use Rattle.yaml_plain.specs.declared.further.Further as held
use Rattle.yaml_plain.specs.declared.further.Further.TheVariants as seen

-- what a line below a plain scalar is to it: empty, its end, none that can stand there, or a part and what stands behind it
pub data Further : Type 0 where
  empty : Further
  ends : Further
  wrong : Further
  goes_on : List ℕ → List ℕ → Further

abbrev pub further_line : Bool → ℕ → List ℕ → Further
further_line in_flow least t =
    if is_blank t then empty
    else if ends_scalar in_flow least t then ends
    else if breaks_scalar in_flow (skip_white t) then wrong
    else goes_on (part in_flow (skip_white t)) (behind in_flow (skip_white t))

abbrev pub further_of : held.Further → Further
further_of seen.Empty = empty
further_of seen.Ends = ends
further_of seen.Wrong = wrong
further_of (seen.GoesOn p b) = goes_on p.now b.now

-- the text of a plain scalar with this first part, behind which its line ends, and the place behind it
unfoldable pub further_from : Bool → ℕ → List ℕ → Cursor → Outcome (List ℕ × Cursor)
further_from in_flow least first here = further in_flow least 0 here here.below >>= (λ r. Ok (Fold (first ∷ r.0), r.1))

-- the text of a plain scalar with this first part, and the place behind it
abbrev pub text_from : Bool → ℕ → List ℕ → Cursor → Outcome (List ℕ × Cursor)
text_from in_flow least first here = elim (is_blank here.text) [ true ↦ further_from in_flow least first here | false ↦ Ok (first, here) ]

-- a text by its form, its faults told at this place
abbrev pub typed_text : Place → List ℕ × Cursor → Outcome (Tree × Cursor)
typed_text p r = plain_at p r.0 >>= (λ t. Ok (t, r.1))

-- the value of a plain scalar with this first part, and the place behind it
abbrev pub typed_from : Bool → ℕ → Place → List ℕ → Cursor → Outcome (Tree × Cursor)
typed_from in_flow least p first here = text_from in_flow least first here >>= typed_text p
