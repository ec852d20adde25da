-- The text of documents, one after another.
use Rattle.std.proofs.Common.{◌≡◌, ℕ, List, [], ◌∷◌, ◌++◌, codes, ap, ◌∙◌, sym, append_assoc, append-nil}
use Rattle.std.specs.List.{flat_map}
use Rattle.ytt_base.specs.declared.tree.Tree.{Tree}
use Rattle.ytt_base.specs.View.{tree_of, trees_of}
use Rattle.yaml_spec.specs.Text.{Text, document_text}

-- a document behind a line `---`
abbrev pub document_line : Tree → List ℕ
document_line t = codes "---\n" ++ document_text (tree_of t)

-- the first document, and each other behind a line `---`
pub Text-first : (t : Tree) (ts : List Tree) → Text (trees_of (t ∷ ts)) ≡ document_text (tree_of t) ++ flat_map document_line ts
Text-first t [] = sym (append-nil (document_text (tree_of t)))
Text-first t (u ∷ us) =
    ap (λ s. document_text (tree_of t) ++ (codes "---\n" ++ s)) (Text-first u us)
    ∙ ap (λ s. document_text (tree_of t) ++ s) (sym (append_assoc (codes "---\n") (document_text (tree_of u)) (flat_map document_line us)))
