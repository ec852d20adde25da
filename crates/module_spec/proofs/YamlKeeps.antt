-- What YAML a value is and what value a text of YAML is are such as the program holds.
use Rattle.std.proofs.Common.{◌^◌, ℕ, nat_lt, List, length, None, Ok, Err}
use Rattle.std.specs.Result.{IfOk}
use Rattle.ytt_base.specs.declared.fault.FaultKind.TheVariants as kind
use Rattle.ytt_base.specs.declared.fault.Place.{Place}
use Rattle.ytt_base.specs.Outcomes.{Outcome}
use Rattle.ytt_base.specs.Trees.{Trees, no_trees, tree, max_depth}
use Rattle.ytt_laws.proofs.Yielded.{yielded_option}
use Rattle.yaml_held.proofs.Held.{AreHeld, Held}
use Rattle.yaml_held.proofs.HeldDocuments.{DocumentsHeld, good_read}
use Rattle.yaml_spec.specs.Noted.{Content, Documents, Items, bare_pairs, bare_tree, bare_trees, item, no_items, noted_list, noted_map, noted_scalar, twice_below}
use Rattle.yaml_spec.specs.Read.{Read, distinct}
use Rattle.yaml_spec.specs.Text.{Text}
use Rattle.star_spec.proofs.Keeping.{IfFound, Keeps, found_if, found_one, keeps_or_fail, keeps_then}
use Rattle.star_spec.specs.Held.{HeldValue}
use Rattle.template_meaning.proofs.TakeKeeps.{value_keeps}
use Rattle.value_spec.specs.Values.{Value}
use Rattle.module_spec.proofs.RowsKeep.{text_given_keeps}
use Rattle.module_spec.proofs.TreesKeep.{HeldTree, HeldTreePairs, HeldTrees, given_keeps, tree_held}
use Rattle.module_spec.specs.YamlCodec as yaml
use Rattle.module_spec.specs.YamlCodec.{distinct_of, document_read, only_one, tree_read}

pub encode_keeps : {H : Type 0} (p : Place) (v : Value) → HeldValue v → Keeps {H = H} HeldValue (yaml.encode p v)
encode_keeps p v h = keeps_then (value_keeps max_depth p v h) (λ t g. text_given_keeps p (Text (tree t no_trees)))

-- ---- documents that were read

mutual
  bare_held : (c : Content) → Held c → HeldTree (bare_tree c)
  bare_held (noted_scalar t) h = tree_held t h
  bare_held (noted_list is) h = bare_trees_held is h
  bare_held (noted_map is) h = bare_pairs_held is h

  bare_trees_held : (is : Items) → AreHeld is → HeldTrees (bare_trees is)
  bare_trees_held no_items h = tt
  bare_trees_held (item n c is) h = (bare_held c h.1, bare_trees_held is h.2)

  bare_pairs_held : (is : Items) → AreHeld is → HeldTreePairs (bare_pairs is)
  bare_pairs_held no_items h = tt
  bare_pairs_held (item n c is) h = (h.0, bare_held c h.1, bare_pairs_held is h.2)

distinct_held : (o : Outcome Documents) → IfOk o DocumentsHeld → IfOk (distinct_of o) DocumentsHeld
unfolding distinct
distinct_held (Ok ds) h = yielded_option DocumentsHeld (twice_below ds.items) _ _ h (λ n. tt)
distinct_held (Err f) h = tt

only_held : (ts : Trees) → HeldTrees ts → IfFound HeldTree (only_one ts)
only_held no_trees h = tt
only_held (tree t no_trees) h = h.0
only_held (tree t (tree u ts)) h = tt

document_held : (o : Outcome Documents) → IfOk o DocumentsHeld → IfFound HeldTree (document_read o)
document_held (Ok ds) h = only_held (bare_trees ds.items) (bare_trees_held ds.items h)
document_held (Err f) h = tt

read_held : (text : List ℕ) → IfFound HeldTree (tree_read text)
read_held text = found_if HeldTree (nat_lt (length text) (2 ^ 32)) (document_read (distinct_of (Read 1 text))) None (document_held (distinct_of (Read 1 text)) (distinct_held (Read 1 text) (good_read 1 text))) tt

pub decode_keeps : {H : Type 0} (p : Place) (text : List ℕ) → Keeps {H = H} HeldValue (yaml.decode p text)
decode_keeps p text = keeps_then {P = HeldTree} (keeps_or_fail kind.CodecForm p (tree_read text) (λ t e. found_one HeldTree (tree_read text) t (read_held text) e)) (λ t h. given_keeps p text t h)
