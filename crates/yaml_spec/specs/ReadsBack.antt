-- Texts that read back as their documents and as no others.
use Rattle.std.specs.Prelude.{◌≡◌, ℕ, List}
use Rattle.ytt_base.specs.Trees.{Trees}
use Rattle.yaml_spec.specs.Read.{Reads}

-- the text reads as these documents, and as no others
pub record ReadsAlone (text : List ℕ) (documents : Trees) : Type 0 where
  pub reads : Reads text documents
  pub alone : (others : Trees) → Reads text others → others ≡ documents
