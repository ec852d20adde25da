-- A printed text means the documents that it is the text of: rendering it gives it again.
use Rattle.std.proofs.Common.{◌≡◌, ◌∙◌, Bool, false, [], ◌∷◌, refl, Ok, Err, ap, if◌then◌else◌}
use Rattle.ytt_base.specs.Outcomes.{Outcome, ◌>>=◌}
use Rattle.ytt_base.specs.Trees.{AreTrees, Trees, no_trees, tree, Writable}
use Rattle.yaml_spec.specs.Noted.{Documents, has_code}
use Rattle.yaml_spec.specs.Read.{Read, plain_trees, read_trees}
use Rattle.yaml_spec.specs.Text.{Text}
use Rattle.yaml_back.proofs.ReadsBack.{no_code, noted_same, reads_back}
use Rattle.code_spec.specs.CodeReading.{CodeReader}
use Rattle.world_spec.specs.Parts.{Budget, trees_before, units_meaning}
use Rattle.world_spec.specs.Units.{FileUnit, Source, code_source, plain, template_items, unit_of, yaml_source}
use Rattle.ytt_spec.specs.Meaning.{TextMeans, a_file}

none_behind : (ts : Trees) → trees_before ts no_trees ≡ ts
none_behind no_trees = refl
none_behind (tree t ts) = ap (tree t) (none_behind ts)

-- a unit of documents means them
plain_means : (budget : Budget) (ts : Trees) → units_meaning budget (unit_of a_file (plain ts) ∷ []) ≡ Ok ts
unfolding units_meaning
plain_means budget ts = ap Ok (none_behind ts)

-- what reads as documents, and as noted ones without code, means these documents
read_so : (r : CodeReader) (ignore : Bool) (budget : Budget) (o : Outcome Documents) (ts : Trees) → o >>= (λ ds. plain_trees ds) ≡ Ok ts → ((ds : Documents) → o ≡ Ok ds → has_code ds ≡ false)
    → ((ds : Documents) → o ≡ Ok ds → plain_trees ds ≡ Ok ts) → o >>= yaml_source r ignore 1 a_file.name ≡ Ok (plain ts)
read_so r ignore budget (Ok ds) ts e without same =
    ap (λ b. if b then code_source (template_items r ignore 1 ds) else (plain_trees ds >>= λ us. Ok (plain us))) (without ds refl) ∙ ap (λ o. o >>= λ us. Ok (plain us)) (same ds refl)
read_so r ignore budget (Err f) ts e without same = cc

-- whatever is ignored, with any budget, and whichever reader reads code, since there is none
pub printed_means : (ts : Trees) → AreTrees ts → Writable ts → (ignore : Bool) (budget : Budget) → TextMeans ignore budget (Text ts) (Ok ts)
unfolding read_trees
printed_means ts h w ignore budget r reads =
    ap (λ o. o >>= (λ (s : Source). Ok (unit_of a_file s)) >>= (λ (u : FileUnit). units_meaning budget (u ∷ []))) (read_so r ignore budget (Read 1 (Text ts)) ts (reads_back ts h w 1) (no_code ts h w 1) (noted_same ts h w 1))
    ∙ plain_means budget ts
