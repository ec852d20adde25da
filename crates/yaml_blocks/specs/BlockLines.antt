-- The lines of a block scalar one by one (YAML 1.2.2, 8.1).
use Rattle.std.specs.Prelude.{ℕ, zero, suc, ◌+◌, Bool, true, false, ◌||◌, nat_le, if◌then◌else◌, List, [], ◌∷◌, ◌++◌, length, drop, string_bytes, Option, Some, None, Ok}
use Rattle.ytt_base.specs.declared.fault.FaultKind.TheVariants as kind
use Rattle.ytt_base.specs.Outcomes.{Outcome, ◌>>=◌}
use Rattle.yaml_spec.specs.Bytes.{is_empty, indent}
use Rattle.yaml_spec.specs.Folding.{breaks}
use Rattle.yaml_spec.specs.Lines.{Line}
use Rattle.yaml_spec.specs.Refusals.{refused, place_below}
use Rattle.yaml_spec.specs.Blocks.{Chomp, is_spaces, found_indent, too_long, starts_white, between, end_breaks, block_text}
use Rattle.yaml_spec.specs.Quotes.{Cursor}
use Rattle.yaml_blocks.specs.declared.blocktext.BlockText.{BlockText}
use Rattle.yaml_blocks.specs.declared.blocktext.Break.{Break}
use Rattle.yaml_blocks.specs.declared.blocktext.Break.TheVariants as break

-- the content indent, where a line has content
unfoldable pub indent_of : ℕ → ℕ → List Line → Outcome (Option ℕ)
indent_of least (suc d) ls = Ok (Some (least + d))
indent_of least zero ls =
    elim (found_indent least ls) [
      | None ↦ Ok None
      | Some n ↦ elim (too_long n ls) [ Some p ↦ refused kind.YamlForm p | None ↦ Ok (Some n) ]
    ]

-- what the line adds to a scalar of this content indent, if it belongs to it
abbrev pub content_at : Option ℕ → List ℕ → Option (List ℕ)
content_at (Some n) t = if is_spaces t || nat_le n (indent t) then Some (drop n t) else None
content_at None t = if is_spaces t then Some [] else None

abbrev pub contents_of : Option ℕ → List Line → List (List ℕ)
contents_of n [] = []
contents_of n (l ∷ ls) = elim (content_at n l.text) [ Some t ↦ t ∷ contents_of n ls | None ↦ [] ]

-- the text of a scalar's lines, and how many they are
abbrev pub lines_read : Bool → Chomp → ℕ → ℕ → List Line → Outcome (List ℕ × ℕ)
lines_read is_literal chomp least digit ls =
    indent_of least digit ls >>= (λ n. Ok (block_text is_literal chomp (contents_of n ls), length (contents_of n ls)))

-- the place so many lines below
abbrev pub end_at : Cursor → ℕ → Cursor
end_at c n = record { place = place_below c.place n; text = []; below = drop n c.below }

-- no line with content has come
abbrev pub is_start : Break → Bool
is_start break.Start = true
is_start break.Kept = false
is_start break.Folded = false

-- what stands before a line with content that begins with white space or not, after so many empty lines
abbrev pub before : Break → Bool → ℕ → List ℕ
before break.Start white n = breaks n
before break.Kept white n = breaks (suc n)
before break.Folded white n = between white n

abbrev pub break_after : Bool → List ℕ → Break
break_after is_literal t = if is_literal || starts_white t then break.Kept else break.Folded

-- what these contents and the end add, after so many empty lines
abbrev pub rest_text : Bool → Chomp → Break → ℕ → List (List ℕ) → List ℕ
rest_text is_literal chomp b n [] = end_breaks chomp (is_start b) n
rest_text is_literal chomp b n (t ∷ ts) =
    elim (is_empty t) [
      | true ↦ rest_text is_literal chomp b (suc n) ts
      | false ↦ before b (starts_white t) n ++ (t ++ rest_text is_literal chomp (break_after is_literal t) 0 ts)
    ]

-- the whole text, where these contents follow
abbrev pub with_contents : BlockText → Chomp → List (List ℕ) → List ℕ
with_contents b chomp ts = string_bytes b.text ++ rest_text b.is_literal chomp b.last b.empties ts
