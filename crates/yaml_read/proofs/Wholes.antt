-- What a text reads as, step by step.
use Rattle.std.proofs.Common.{◌≡◌, ℕ, List, refl}
use Rattle.ytt_base.specs.Outcomes.{Outcome, ◌>>=◌}
use Rattle.yaml_spec.specs.Lines.{Line, Lines}
use Rattle.yaml_spec.specs.Noted.{Documents}
use Rattle.yaml_spec.specs.Read.{Read, implicit, plain_trees, read_trees, segments}

abbrev pub documents_in : List Line → Outcome Documents
documents_in ls = let cut = segments ls in implicit cut.0 cut.1

pub read_by_lines : (file : ℕ) (bytes : List ℕ) → Read file bytes ≡ (Lines file bytes >>= documents_in)
unfolding Read
read_by_lines file bytes = refl

pub trees_by_documents : (file : ℕ) (bytes : List ℕ) → read_trees file bytes ≡ (Read file bytes >>= plain_trees)
unfolding read_trees
trees_by_documents file bytes = refl
