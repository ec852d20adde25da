-- The premises of the law hold of documents with a literal, an integer and two documents, and the law then says what is read.
use Rattle.std.proofs.Common.{◌≡◌, pos, true, refl, arith}
use Rattle.std.specs.Prelude.{codes}
use Rattle.std.specs.Str.{is_utf8, chars}
use Rattle.std.proofs.lemmas.Str.{IsUtf8-from_is_utf8}
use lib.Utf8.{encode}
use Rattle.ytt_base.specs.Trees.{integer, string, scalar, list, map, Trees, no_trees, tree, no_pairs, pair, AreTrees, Writable}
use Rattle.yaml_spec.specs.Read.{Reads}
use Rattle.yaml_spec.specs.Text.{Text}
use Rattle.yaml_back.proofs.ReadsBack.{reads_back}

abbrev two_documents : Trees
two_documents =
    tree (map (pair (string (codes "a")) (list (tree (scalar (integer (pos 1))) (tree (scalar (string (codes "x\ny\n"))) no_trees))) no_pairs))
    (tree (scalar (string (codes "yes"))) no_trees)

a_utf8 : is_utf8 (codes "a") ≡ true
unfolding is_utf8 chars encode
a_utf8 = refl

lines_utf8 : is_utf8 (codes "x\ny\n") ≡ true
unfolding is_utf8 chars encode
lines_utf8 = refl

yes_utf8 : is_utf8 (codes "yes") ≡ true
unfolding is_utf8 chars encode
yes_utf8 = refl

are_trees : AreTrees two_documents
are_trees = (
  (IsUtf8-from_is_utf8 (codes "a") a_utf8, (omega arith, (IsUtf8-from_is_utf8 (codes "x\ny\n") lines_utf8, tt)), refl, tt),
  (IsUtf8-from_is_utf8 (codes "yes") yes_utf8, tt),
)

writable : Writable two_documents
writable = (refl, omega arith, (refl, omega arith, tt))

pub two_documents-back : Reads (Text two_documents) two_documents
two_documents-back = reads_back two_documents are_trees writable
