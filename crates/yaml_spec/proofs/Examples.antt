-- What the definitions give for some texts and documents, by computing.
use Rattle.std.specs.Prelude.{◌≡◌, ℕ, zero, suc, ℤ, pos, negsuc, Bool, true, false, Option, Some, None, List, [], ◌∷◌, codes, Ok, Err, refl}
use Rattle.std.specs.Str.{is_utf8, chars}
use lib.Utf8.{encode}
use Rattle.std.specs.Fmt.{digits}
use Rattle.ytt_base.specs.declared.fault.FaultKind.{FaultKind}
use Rattle.ytt_base.specs.declared.fault.FaultKind.TheVariants as kind
use Rattle.ytt_base.specs.Outcomes.{Outcome, ◌>>=◌, place_at}
use Rattle.ytt_base.specs.Trees.{Scalar, null, boolean, integer, string, Tree, scalar, list, map, Trees, no_trees, tree, no_pairs, pair}
use Rattle.yaml_spec.specs.Refusals.{refused}
use Rattle.yaml_spec.specs.Noted.{Comment, Note, noted_scalar, noted_list, noted_map, no_items, item}
use Rattle.yaml_spec.specs.Positions.{quoted_at, block_at}
use Rattle.yaml_spec.specs.Lines.{cut, lines_of, checked, Lines}
use Rattle.yaml_spec.specs.Scalars.{form, plain}
use Rattle.yaml_spec.specs.Folding.{fold_parts}
use Rattle.yaml_spec.specs.Quotes.{single, double, parts, Quote}
use Rattle.yaml_spec.specs.Blocks.{header, body, block_text, Block}
use Rattle.yaml_spec.specs.Plain.{start_fault, span, further, plain_lines}
use Rattle.yaml_spec.specs.Flow.{gap, flow_key, elements, pair_value, pairs, flow_scalar, flow}
use Rattle.yaml_spec.specs.Values.{noted, ended, value}
use Rattle.yaml_spec.specs.Rows.{key_at, heads_of, row_at, taken, rows}
use Rattle.yaml_spec.specs.Entries.{cut_after, content_of, entry_content, entry, entry_at, entries, Doc}
use Rattle.yaml_spec.specs.Read.{segments, explicit, ended as read_ended, documents, implicit, Read, distinct, read_trees}
use Rattle.yaml_spec.specs.Text.{fits_plain, fits_literal, Text}

abbrev text : List ℕ → Tree
text s = scalar (string s)

abbrev integral : ℤ → Tree
integral z = scalar (integer z)

-- a refusal at a line of file 1
abbrev fault : FaultKind → ℕ → Outcome Trees
fault k n = refused k (place_at 1 n)

-- plain scalars by their form
plain_scalars :
    (read_trees 1 (codes "mode: 0644\n") ≡ Ok (tree (map (pair (string (codes "mode")) (integral (pos 420)) no_pairs)) no_trees))
    × (read_trees 1 (codes "mode: 0689\n") ≡ fault kind.YamlOut 1)
    × (read_trees 1 (codes "v: 1.5\n") ≡ fault kind.FloatScalar 1)
    × (read_trees 1 (codes "- 0o17\n- 0xfF\n- -7\n- ~\n- True\n- yes\n-\n") ≡ Ok (tree (list (tree (integral (pos 15)) (tree (integral (pos 255)) (tree (integral (negsuc 6)) (tree (scalar null) (tree (scalar (boolean true)) (tree (text (codes "yes")) (tree (scalar null) no_trees)))))))) no_trees))
    × (read_trees 1 (codes "v: 1e3\n") ≡ fault kind.FloatScalar 1)
    × (read_trees 1 (codes "v: -.inf\n") ≡ fault kind.FloatScalar 1)
    × (read_trees 1 (codes "v: !x 1\n") ≡ fault kind.YamlOut 1)
    × (read_trees 1 (codes "v: @x\n") ≡ fault kind.YamlForm 1)
    × (read_trees 1 (codes "- a:\tb\n- a#b\n- a # b\n- -1x\n- :x\n") ≡ Ok (tree (list (tree (text (codes "a:\tb")) (tree (text (codes "a#b")) (tree (text (codes "a")) (tree (text (codes "-1x")) (tree (text (codes ":x")) no_trees)))))) no_trees))
unfolding is_utf8 chars encode digits cut lines_of checked Lines form plain fold_parts single double parts Quote header body block_text Block start_fault span further plain_lines gap flow_key elements pair_value pairs flow_scalar flow noted ended value key_at heads_of row_at taken rows cut_after content_of entry_content entry entry_at entries Doc segments explicit read_ended documents implicit Read distinct read_trees fits_plain fits_literal
plain_scalars = (refl, refl, refl, refl, refl, refl, refl, refl, refl)

-- lines, a byte order mark aside
line_ends :
    (read_trees 1 (codes "a: 1\r\n") ≡ Ok (tree (map (pair (string (codes "a")) (integral (pos 1)) no_pairs)) no_trees))
    × (read_trees 1 (codes "a: 1\rb\n") ≡ fault kind.BadChar 1)
    × (read_trees 1 (codes "") ≡ Ok no_trees)
    × (read_trees 1 (codes "# c\n\n") ≡ Ok no_trees)
    × (read_trees 1 (codes "a: 1") ≡ Ok (tree (map (pair (string (codes "a")) (integral (pos 1)) no_pairs)) no_trees))
unfolding is_utf8 chars encode digits cut lines_of checked Lines form plain fold_parts single double parts Quote header body block_text Block start_fault span further plain_lines gap flow_key elements pair_value pairs flow_scalar flow noted ended value key_at heads_of row_at taken rows cut_after content_of entry_content entry entry_at entries Doc segments explicit read_ended documents implicit Read distinct read_trees fits_plain fits_literal
line_ends = (refl, refl, refl, refl, refl)

-- plain scalars that go on, and what ends them
plain_lines-read :
    (read_trees 1 (codes "a: b\n  c\n\n  d\ne: f\n") ≡ Ok (tree (map (pair (string (codes "a")) (text (codes "b c\nd")) (pair (string (codes "e")) (text (codes "f")) no_pairs))) no_trees))
    × (read_trees 1 (codes "a: b\n  c: d\n") ≡ fault kind.YamlForm 2)
    × (read_trees 1 (codes "a: b\n  c:\n") ≡ fault kind.YamlForm 2)
    × (read_trees 1 (codes "a: 1.5: b\n") ≡ fault kind.FloatScalar 1)
    × (read_trees 1 (codes "a: 1.5\n  b: c\n") ≡ fault kind.YamlForm 2)
    × (read_trees 1 (codes "a: b:\n") ≡ fault kind.YamlForm 1)
    × (read_trees 1 (codes "a:: b\n") ≡ Ok (tree (map (pair (string (codes "a:")) (text (codes "b")) no_pairs)) no_trees))
    × (read_trees 1 (codes "a: b\n  # c\n  d\n") ≡ fault kind.YamlForm 3)
    × (read_trees 1 (codes "<<: 1\n") ≡ fault kind.YamlOut 1)
unfolding is_utf8 chars encode digits cut lines_of checked Lines form plain fold_parts single double parts Quote header body block_text Block start_fault span further plain_lines gap flow_key elements pair_value pairs flow_scalar flow noted ended value key_at heads_of row_at taken rows cut_after content_of entry_content entry entry_at entries Doc segments explicit read_ended documents implicit Read distinct read_trees fits_plain fits_literal
plain_lines-read = (refl, refl, refl, refl, refl, refl, refl, refl, refl)

-- quotes
quotes_read :
    (read_trees 1 (codes "a: 'it''s'\nb: \"\\x41\\u0042\\n\\\"\"\n") ≡ Ok (tree (map (pair (string (codes "a")) (text (codes "it's")) (pair (string (codes "b")) (text (codes "AB\n\"")) no_pairs))) no_trees))
    × (read_trees 1 (codes "a: \"x\ny\"\n") ≡ Ok (tree (map (pair (string (codes "a")) (text (codes "x y")) no_pairs)) no_trees))
    × (read_trees 1 (codes "a: \"x\n\"\n") ≡ Ok (tree (map (pair (string (codes "a")) (text (codes "x ")) no_pairs)) no_trees))
    × (read_trees 1 (codes "a: \"x\n\n\ny\"\n") ≡ Ok (tree (map (pair (string (codes "a")) (text (codes "x\n\ny")) no_pairs)) no_trees))
    × (read_trees 1 (codes "a: \"x \\\n  y\"\n") ≡ Ok (tree (map (pair (string (codes "a")) (text (codes "x y")) no_pairs)) no_trees))
    × (read_trees 1 (codes "a: \"\\q\"\n") ≡ fault kind.YamlForm 1)
    × (read_trees 1 (codes "a: \"\\ud800\"\n") ≡ fault kind.YamlForm 1)
    × (read_trees 1 (codes "a: \"x\n") ≡ fault kind.YamlForm 1)
    × (read_trees 1 (codes "a: \"x\n---\n") ≡ fault kind.YamlForm 2)
    × (read_trees 1 (codes "a: \"x\" y\n") ≡ fault kind.YamlForm 1)
    × (read_trees 1 (codes "\"a b\": 1\n") ≡ Ok (tree (map (pair (string (codes "a b")) (integral (pos 1)) no_pairs)) no_trees))
unfolding is_utf8 chars encode digits cut lines_of checked Lines form plain fold_parts single double parts Quote header body block_text Block start_fault span further plain_lines gap flow_key elements pair_value pairs flow_scalar flow noted ended value key_at heads_of row_at taken rows cut_after content_of entry_content entry entry_at entries Doc segments explicit read_ended documents implicit Read distinct read_trees fits_plain fits_literal
quotes_read = (refl, refl, refl, refl, refl, refl, refl, refl, refl, refl, refl)

-- block scalars
block_scalars :
    (read_trees 1 (codes "a: >-\n  p\n  q\n") ≡ Ok (tree (map (pair (string (codes "a")) (text (codes "p q")) no_pairs)) no_trees))
    × (read_trees 1 (codes "a: |\n  x\n   y\n\nb: 1\n") ≡ Ok (tree (map (pair (string (codes "a")) (text (codes "x\n y\n")) (pair (string (codes "b")) (integral (pos 1)) no_pairs))) no_trees))
    × (read_trees 1 (codes "a: |+\n  x\n\n\nb: 1\n") ≡ Ok (tree (map (pair (string (codes "a")) (text (codes "x\n\n\n")) (pair (string (codes "b")) (integral (pos 1)) no_pairs))) no_trees))
    × (read_trees 1 (codes "a: >\n  p\n\n  q\n   r\n  s\n") ≡ Ok (tree (map (pair (string (codes "a")) (text (codes "p\nq\n r\ns\n")) no_pairs)) no_trees))
    × (read_trees 1 (codes "a: |2-\n   x\n") ≡ Ok (tree (map (pair (string (codes "a")) (text (codes " x")) no_pairs)) no_trees))
    × (read_trees 1 (codes "a: |\n    \n  x\n") ≡ fault kind.YamlForm 2)
    × (read_trees 1 (codes "a: |x\n") ≡ fault kind.YamlForm 1)
    × (read_trees 1 (codes "a: | # c\n  x\n") ≡ Ok (tree (map (pair (string (codes "a")) (text (codes "x\n")) no_pairs)) no_trees))
    × (read_trees 1 (codes "- |\n x\n- y\n") ≡ Ok (tree (list (tree (text (codes "x\n")) (tree (text (codes "y")) no_trees))) no_trees))
    × (read_trees 1 (codes "|\nx\n") ≡ Ok (tree (text (codes "x\n")) no_trees))
unfolding is_utf8 chars encode digits cut lines_of checked Lines form plain fold_parts single double parts Quote header body block_text Block start_fault span further plain_lines gap flow_key elements pair_value pairs flow_scalar flow noted ended value key_at heads_of row_at taken rows cut_after content_of entry_content entry entry_at entries Doc segments explicit read_ended documents implicit Read distinct read_trees fits_plain fits_literal
block_scalars = (refl, refl, refl, refl, refl, refl, refl, refl, refl, refl)

-- blocks
blocks_read :
    (read_trees 1 (codes "a:\n  [1]\nb:\n  \"x\"\n") ≡ Ok (tree (map (pair (string (codes "a")) (list (tree (integral (pos 1)) no_trees)) (pair (string (codes "b")) (text (codes "x")) no_pairs))) no_trees))
    × (read_trees 1 (codes "a:\n- 1\n- b: 2\n  c: 3\nd:\n  - - 4\n    - 5\n") ≡ Ok (tree (map (pair (string (codes "a")) (list (tree (integral (pos 1)) (tree (map (pair (string (codes "b")) (integral (pos 2)) (pair (string (codes "c")) (integral (pos 3)) no_pairs))) no_trees))) (pair (string (codes "d")) (list (tree (list (tree (integral (pos 4)) (tree (integral (pos 5)) no_trees))) no_trees)) no_pairs))) no_trees))
    × (read_trees 1 (codes "a:\nb:\n") ≡ Ok (tree (map (pair (string (codes "a")) (scalar null) (pair (string (codes "b")) (scalar null) no_pairs))) no_trees))
    × (read_trees 1 (codes "a:\n\tb: 1\n") ≡ fault kind.YamlTab 2)
    × (read_trees 1 (codes "- \ta: 1\n") ≡ fault kind.YamlTab 1)
    × (read_trees 1 (codes "a: 1\n- b\n") ≡ fault kind.YamlForm 2)
    × (read_trees 1 (codes "a: 1\n b: 2\n") ≡ fault kind.YamlForm 2)
    × (read_trees 1 (codes "  a: 1\n b: 2\n") ≡ fault kind.YamlForm 2)
    × (read_trees 1 (codes "a: 1\n? b\n") ≡ fault kind.YamlOut 2)
    × (read_trees 1 (codes "[a]: 1\n") ≡ fault kind.YamlOut 1)
    × (read_trees 1 (codes "a: [b]: c\n") ≡ fault kind.YamlForm 1)
    × (read_trees 1 (codes "1: a\n~: c\n") ≡ Ok (tree (map (pair (integer (pos 1)) (text (codes "a")) (pair null (text (codes "c")) no_pairs))) no_trees))
    × (read_trees 1 (codes "a: 1\na: 2\n") ≡ Err (record { kind = kind.KeyTwice; place = Some (place_at 1 2); detail = codes "a" }))
    × (read_trees 1 (codes "a: {b: 1, b: 2}\na: 3\n") ≡ Err (record { kind = kind.KeyTwice; place = Some (place_at 1 1); detail = codes "b" }))
    × (read_trees 1 (codes "a: 1\na: 1.5\n") ≡ fault kind.FloatScalar 2)
unfolding is_utf8 chars encode digits cut lines_of checked Lines form plain fold_parts single double parts Quote header body block_text Block start_fault span further plain_lines gap flow_key elements pair_value pairs flow_scalar flow noted ended value key_at heads_of row_at taken rows cut_after content_of entry_content entry entry_at entries Doc segments explicit read_ended documents implicit Read distinct read_trees fits_plain fits_literal
blocks_read = (refl, refl, refl, refl, refl, refl, refl, refl, refl, refl, refl, refl, refl, refl, refl)

-- flow collections
flow_read :
    (read_trees 1 (codes "a: [1, {b: 2, \"c\":3, d}, ]\n") ≡ Ok (tree (map (pair (string (codes "a")) (list (tree (integral (pos 1)) (tree (map (pair (string (codes "b")) (integral (pos 2)) (pair (string (codes "c")) (integral (pos 3)) (pair (string (codes "d")) (scalar null) no_pairs)))) no_trees))) no_pairs)) no_trees))
    × (read_trees 1 (codes "a: [1,\n2 # c\n, 3]\n") ≡ Ok (tree (map (pair (string (codes "a")) (list (tree (integral (pos 1)) (tree (integral (pos 2)) (tree (integral (pos 3)) no_trees)))) no_pairs)) no_trees))
    × (read_trees 1 (codes "a: {\n") ≡ fault kind.YamlForm 1)
    × (read_trees 1 (codes "a: [\n\"x\n") ≡ fault kind.YamlForm 1)
    × (read_trees 1 (codes "[a: b]\n") ≡ fault kind.YamlOut 1)
    × (read_trees 1 (codes "[a\nb: c]\n") ≡ fault kind.YamlForm 2)
    × (read_trees 1 (codes "{a\n: 1}\n") ≡ Ok (tree (map (pair (string (codes "a")) (integral (pos 1)) no_pairs)) no_trees))
    × (read_trees 1 (codes "[-, ?]\n") ≡ Ok (tree (list (tree (text (codes "-")) (tree (text (codes "?")) no_trees))) no_trees))
    × (read_trees 1 (codes "[:]\n") ≡ fault kind.YamlForm 1)
    × (read_trees 1 (codes "[1,, 2]\n") ≡ fault kind.YamlForm 1)
    × (read_trees 1 (codes "[a\n#@ b\n]\n") ≡ fault kind.YamlOut 2)
    × (read_trees 1 (codes "[1.5: a]\n") ≡ fault kind.FloatScalar 1)
    × (read_trees 1 (codes "{[a]: 1}\n") ≡ fault kind.YamlOut 1)
    × (read_trees 1 (codes "[1]]\n") ≡ fault kind.YamlForm 1)
unfolding is_utf8 chars encode digits cut lines_of checked Lines form plain fold_parts single double parts Quote header body block_text Block start_fault span further plain_lines gap flow_key elements pair_value pairs flow_scalar flow noted ended value key_at heads_of row_at taken rows cut_after content_of entry_content entry entry_at entries Doc segments explicit read_ended documents implicit Read distinct read_trees fits_plain fits_literal
flow_read = (refl, refl, refl, refl, refl, refl, refl, refl, refl, refl, refl, refl, refl, refl)

-- documents
documents_read :
    (read_trees 1 (codes "---\nx\n---\ny\n") ≡ Ok (tree (text (codes "x")) (tree (text (codes "y")) no_trees)))
    × (read_trees 1 (codes "---\na: 1\n---\n---\nb: 2\n") ≡ Ok (tree (map (pair (string (codes "a")) (integral (pos 1)) no_pairs)) (tree (map (pair (string (codes "b")) (integral (pos 2)) no_pairs)) no_trees)))
    × (read_trees 1 (codes "--- a\n...\n# c\n---\nb\n") ≡ Ok (tree (text (codes "a")) (tree (text (codes "b")) no_trees)))
    × (read_trees 1 (codes "a\n...\nb\n") ≡ fault kind.YamlForm 3)
    × (read_trees 1 (codes "a\n...\n...\n") ≡ fault kind.YamlForm 3)
    × (read_trees 1 (codes "%YAML 1.2\n---\na\n") ≡ fault kind.YamlOut 1)
    × (read_trees 1 (codes "--- a: 1\n") ≡ fault kind.YamlForm 1)
    × (read_trees 1 (codes "--- - a\n") ≡ fault kind.YamlForm 1)
    × (read_trees 1 (codes "--- [a]\n") ≡ Ok (tree (list (tree (text (codes "a")) no_trees)) no_trees))
    × (read_trees 1 (codes "---x\n") ≡ Ok (tree (text (codes "---x")) no_trees))
unfolding is_utf8 chars encode digits cut lines_of checked Lines form plain fold_parts single double parts Quote header body block_text Block start_fault span further plain_lines gap flow_key elements pair_value pairs flow_scalar flow noted ended value key_at heads_of row_at taken rows cut_after content_of entry_content entry entry_at entries Doc segments explicit read_ended documents implicit Read distinct read_trees fits_plain fits_literal
documents_read = (refl, refl, refl, refl, refl, refl, refl, refl, refl, refl)

-- what ends behind an indicator, and tabs
gaps_read :
    (read_trees 1 (codes "a:\t\nb:\t# c\n") ≡ Ok (tree (map (pair (string (codes "a")) (scalar null) (pair (string (codes "b")) (scalar null) no_pairs))) no_trees))
    × (read_trees 1 (codes "-\t\n- 1\n") ≡ Ok (tree (list (tree (scalar null) (tree (integral (pos 1)) no_trees))) no_trees))
    × (read_trees 1 (codes "-\tx\n") ≡ Ok (tree (text (codes "-\tx")) no_trees))
    × (read_trees 1 (codes "---\t\na\n") ≡ Ok (tree (text (codes "a")) no_trees))
    × (read_trees 1 (codes "---\tx\n") ≡ Ok (tree (text (codes "---\tx")) no_trees))
    × (read_trees 1 (codes "...\tx\n") ≡ Ok (tree (text (codes "...\tx")) no_trees))
    × (read_trees 1 (codes "a: [1]\n \tb: 2\n") ≡ fault kind.YamlTab 2)
    × (read_trees 1 (codes "- [a]\n \t- b\n") ≡ fault kind.YamlTab 2)
    × (read_trees 1 (codes "- a\n \t- b\n") ≡ Ok (tree (list (tree (text (codes "a - b")) no_trees)) no_trees))
    × (read_trees 1 (codes "a:\n  \tx\n") ≡ Ok (tree (map (pair (string (codes "a")) (text (codes "x")) no_pairs)) no_trees))
    × (read_trees 1 (codes "?\n") ≡ fault kind.YamlOut 1)
    × (read_trees 1 (codes "a: -\n") ≡ fault kind.YamlForm 1)
    × (read_trees 1 (codes "a: [1]\n  ? b\n") ≡ fault kind.YamlForm 2)
    × (read_trees 1 (codes "a: 1\n!x b\n") ≡ fault kind.YamlOut 2)
    × (read_trees 1 (codes "a: b:\t\n") ≡ fault kind.YamlForm 1)
    × (read_trees 1 (codes "[a:\t]\n") ≡ fault kind.YamlForm 1)
    × (read_trees 1 (codes "a:\t: b\n") ≡ fault kind.YamlForm 1)
unfolding is_utf8 chars encode digits cut lines_of checked Lines form plain fold_parts single double parts Quote header body block_text Block start_fault span further plain_lines gap flow_key elements pair_value pairs flow_scalar flow noted ended value key_at heads_of row_at taken rows cut_after content_of entry_content entry entry_at entries Doc segments explicit read_ended documents implicit Read distinct read_trees fits_plain fits_literal
gaps_read = (refl, refl, refl, refl, refl, refl, refl, refl, refl, refl, refl, refl, refl, refl, refl, refl, refl)

-- a collection in brackets before a colon
bracket_keys :
    (read_trees 1 (codes "- a: [b]: c\n") ≡ fault kind.YamlForm 1)
    × (read_trees 1 (codes "--- [a]: 1\n") ≡ fault kind.YamlForm 1)
    × (read_trees 1 (codes "[[a]: 1]\n") ≡ fault kind.YamlOut 1)
    × (read_trees 1 (codes "[[a]:1]\n") ≡ fault kind.YamlOut 1)
    × (read_trees 1 (codes "[::]\n") ≡ fault kind.YamlOut 1)
    × (read_trees 1 (codes "{: x}\n") ≡ fault kind.YamlForm 1)
    × (read_trees 1 (codes "{\"a\nb\": 1}\n") ≡ fault kind.YamlForm 1)
    × (read_trees 1 (codes "{<<: 1}\n") ≡ fault kind.YamlOut 1)
    × (read_trees 1 (codes "[<<]\n") ≡ Ok (tree (list (tree (text (codes "<<")) no_trees)) no_trees))
    × (read_trees 1 (codes "[1.5\n") ≡ fault kind.FloatScalar 1)
    × (read_trees 1 (codes "a:\n  [\n  {\n") ≡ fault kind.YamlForm 2)
unfolding is_utf8 chars encode digits cut lines_of checked Lines form plain fold_parts single double parts Quote header body block_text Block start_fault span further plain_lines gap flow_key elements pair_value pairs flow_scalar flow noted ended value key_at heads_of row_at taken rows cut_after content_of entry_content entry entry_at entries Doc segments explicit read_ended documents implicit Read distinct read_trees fits_plain fits_literal
bracket_keys = (refl, refl, refl, refl, refl, refl, refl, refl, refl, refl, refl)

-- markers inside values, and block scalars of a document
markers_read :
    (read_trees 1 (codes "a: \"x\n...\n") ≡ fault kind.YamlForm 2)
    × (read_trees 1 (codes "a: [1\n---\n") ≡ fault kind.YamlForm 2)
    × (read_trees 1 (codes "a: |\n  x\n---\nb\n") ≡ Ok (tree (map (pair (string (codes "a")) (text (codes "x\n")) no_pairs)) (tree (text (codes "b")) no_trees)))
    × (read_trees 1 (codes "|1\nx\n") ≡ Ok (tree (text (codes "x\n")) no_trees))
    × (read_trees 1 (codes "|2\n x\n") ≡ Ok (tree (text (codes "x\n")) no_trees))
    × (read_trees 1 (codes "\"x\\\n\n\n y\"\n") ≡ Ok (tree (text (codes "x\n\ny")) no_trees))
    × (read_trees 1 (codes "'x\n   y'\n") ≡ Ok (tree (text (codes "x y")) no_trees))
    × (read_trees 1 (codes "...\na: 1\n") ≡ fault kind.YamlForm 2)
    × (read_trees 1 (codes "...\n---\na\n") ≡ Ok (tree (text (codes "a")) no_trees))
    × (read_trees 1 (codes "a\n... b\n") ≡ fault kind.YamlForm 2)
    × (read_trees 1 (codes "---\n%a\n") ≡ fault kind.YamlForm 2)
    × (read_trees 1 (codes ">\n\n\n x\n") ≡ Ok (tree (text (codes "\n\nx\n")) no_trees))
    × (read_trees 1 (codes "|\n  x") ≡ Ok (tree (text (codes "x\n")) no_trees))
    × (read_trees 1 (codes "|+\n\n\n") ≡ Ok (tree (text (codes "\n\n")) no_trees))
    × (read_trees 1 (codes "|\n\n") ≡ Ok (tree (text (codes "")) no_trees))
    × (read_trees 1 (codes "a: |\n\tx\n") ≡ fault kind.YamlForm 2)
unfolding is_utf8 chars encode digits cut lines_of checked Lines form plain fold_parts single double parts Quote header body block_text Block start_fault span further plain_lines gap flow_key elements pair_value pairs flow_scalar flow noted ended value key_at heads_of row_at taken rows cut_after content_of entry_content entry entry_at entries Doc segments explicit read_ended documents implicit Read distinct read_trees fits_plain fits_literal
markers_read = (refl, refl, refl, refl, refl, refl, refl, refl, refl, refl, refl, refl, refl, refl, refl, refl)

-- the text of documents: the first style that fits
styles :
    (Text (tree (map (pair (string (codes "mode")) (integral (pos 420)) no_pairs)) no_trees) ≡ codes "mode: 420\n")
    × (Text (tree (map (pair (string (codes "a")) (text (codes "p q")) no_pairs)) no_trees) ≡ codes "a: p q\n")
    × (Text (tree (map (pair (string (codes "a")) (list (tree (integral (pos 1)) no_trees)) (pair (string (codes "b")) (text (codes "x")) no_pairs))) no_trees) ≡ codes "a:\n- 1\nb: x\n")
    × (Text (tree (text (codes "x")) (tree (text (codes "y")) no_trees)) ≡ codes "x\n---\n\"y\"\n")
    × (Text (tree (map (pair (string (codes "a")) (text (codes "")) (pair (string (codes "b")) (text (codes "yes")) (pair (string (codes "c")) (text (codes "1")) (pair (string (codes "d")) (text (codes " a")) (pair (string (codes "e")) (text (codes "a: b")) (pair (string (codes "f")) (text (codes "a #b")) (pair (string (codes "g")) (text (codes "...")) (pair (string (codes "h")) (text (codes "a:")) (pair (string (codes "i")) (text (codes "-a")) (pair (string (codes "j")) (text (codes "a-")) no_pairs))))))))))) no_trees) ≡ codes "a: \"\"\nb: \"yes\"\nc: \"1\"\nd: \" a\"\ne: \"a: b\"\nf: \"a #b\"\ng: \"...\"\nh: \"a:\"\ni: \"-a\"\nj: a-\n")
    × (Text (tree (map (pair (string (codes "a")) (text (codes "x\ny")) (pair (string (codes "b")) (text (codes "x\n")) (pair (string (codes "c")) (text (codes "x\n\n")) (pair (string (codes "d")) (text (codes "\nx")) (pair (string (codes "e")) (text (codes "x \ny")) (pair (string (codes "f")) (text (codes "\t")) no_pairs))))))) no_trees) ≡ codes "a: |-\n  x\n  y\nb: |\n  x\nc: |+\n  x\n\nd: \"\\nx\"\ne: \"x \\ny\"\nf: \"\\t\"\n")
    × (Text (tree (text (codes "x\ny\n")) no_trees) ≡ codes "|\n  x\n  y\n")
    × (Text (tree (list (tree (list no_trees) (tree (map no_pairs) (tree (list (tree (integral (pos 1)) (tree (list (tree (integral (pos 2)) no_trees)) no_trees))) (tree (map (pair (string (codes "a")) (map (pair (string (codes "b")) (list (tree (scalar null) (tree (scalar (boolean true)) no_trees))) no_pairs)) no_pairs)) no_trees))))) no_trees) ≡ codes "- []\n- {}\n- - 1\n  - - 2\n- a:\n    b:\n    - null\n    - true\n")
    × (Text (tree (list (tree (text (codes "x\ny")) no_trees)) no_trees) ≡ codes "- |-\n  x\n  y\n")
unfolding is_utf8 chars encode digits cut lines_of checked Lines form plain fold_parts single double parts Quote header body block_text Block start_fault span further plain_lines gap flow_key elements pair_value pairs flow_scalar flow noted ended value key_at heads_of row_at taken rows cut_after content_of entry_content entry entry_at entries Doc segments explicit read_ended documents implicit Read distinct read_trees fits_plain fits_literal
styles = (refl, refl, refl, refl, refl, refl, refl, refl, refl)

-- a list in a list, so many times
abbrev nested : ℕ → Tree → Tree
nested zero t = t
nested (suc n) t = list (tree (nested n t) no_trees)

abbrev dashes : ℕ → List ℕ → List ℕ
dashes zero t = t
dashes (suc n) t = 45 ∷ 32 ∷ dashes n t

-- 100 lists inside each other are read, and no more
depths :
    (read_trees 1 (dashes 100 (codes "1\n")) ≡ Ok (tree (nested 100 (integral (pos 1))) no_trees))
    × (Text (tree (nested 100 (integral (pos 1))) no_trees) ≡ dashes 100 (codes "1\n"))
    × (read_trees 1 (dashes 101 (codes "1\n")) ≡ fault kind.YamlDepth 1)
unfolding is_utf8 chars encode digits cut lines_of checked Lines form plain fold_parts single double parts Quote header body block_text Block start_fault span further plain_lines gap flow_key elements pair_value pairs flow_scalar flow noted ended value key_at heads_of row_at taken rows cut_after content_of entry_content entry entry_at entries Doc segments explicit read_ended documents implicit Read distinct read_trees fits_plain fits_literal
depths = (refl, refl, refl)

-- ---- comments

abbrev comment : ℕ → Bool → List ℕ → Comment
comment line own_line text = record { line = line; own_line = own_line; text = text }

abbrev note : ℕ → Option Scalar → List Comment → Option Comment → Note
note line key before trailing = record { place = place_at 1 line; key = key; before = before; trailing = trailing; flow = false }

-- A comment on its own line belongs to the next item, one behind content to the innermost item that starts there, and what no item follows stands after them.
comments_read :
    (Read 1 (codes "# a\nx: # b\n  - - 1 # c\n# d\n") ≡ Ok (record {
      items = item (note 2 None [] None) (noted_map (item (note 2 (Some (string (codes "x"))) (comment 1 true (codes "# a") ∷ []) (Some (comment 2 false (codes "# b"))))
          (noted_list (item (note 3 None [] None) (noted_list (item (note 3 None [] (Some (comment 3 false (codes "# c")))) (noted_scalar (integral (pos 1))) no_items)) no_items))
          no_items)) no_items;
      after = comment 4 true (codes "# d") ∷ [];
    }))
    × (Read 1 (codes "--- # a\nx #b # c\n") ≡ Ok (record { items = item (note 1 None [] (Some (comment 1 false (codes "# a")))) (noted_scalar (text (codes "x"))) no_items; after = comment 2 false (codes "#b # c") ∷ [] }))
    × (read_trees 1 (codes "---\nx #@ 1\n") ≡ fault kind.YamlOut 2)
unfolding is_utf8 chars encode digits cut lines_of checked Lines form plain fold_parts single double parts Quote header body block_text Block start_fault span further plain_lines gap flow_key elements pair_value pairs flow_scalar flow noted ended value key_at heads_of row_at taken rows cut_after content_of entry_content entry entry_at entries Doc segments explicit read_ended documents implicit Read distinct read_trees fits_plain fits_literal
comments_read = (refl, refl, refl)

-- ---- strings at a position in lines

positions :
    ((Lines 1 (codes "a: \"x\n y\" z\n") >>= (λ ls. quoted_at ls 0 3)) ≡ Ok (record { text = codes "x y"; line = 1; column = 3 }))
    × ((Lines 1 (codes "  a: |-\n   x\n\n  b: 1\n") >>= (λ ls. block_at ls 0 5 (pos 2))) ≡ Ok (record { text = codes "x"; line = 2; column = 0 }))
    × ((Lines 1 (codes "'x") >>= (λ ls. quoted_at ls 0 0)) ≡ Err (record { kind = kind.YamlForm; place = Some (place_at 1 1); detail = [] }))
unfolding is_utf8 chars encode digits cut lines_of checked Lines form plain fold_parts single double parts Quote header body block_text Block start_fault span further plain_lines gap flow_key elements pair_value pairs flow_scalar flow noted ended value key_at heads_of row_at taken rows cut_after content_of entry_content entry entry_at entries Doc segments explicit read_ended documents implicit Read distinct read_trees fits_plain fits_literal quoted_at block_at
positions = (refl, refl, refl)
