-- A block scalar by its header and its lines one by one.
use Rattle.std.proofs.Common.{◌≡◌, ℕ, zero, suc, ◌+◌, ◌≤◌, Bool, true, false, ◌||◌, ◌==◌, nat_le, List, [], ◌∷◌, length, drop, map, Option, Some, None, Ok, Err, refl, ap, ◌∙◌, arith}
use Rattle.ytt_base.specs.declared.fault.FaultKind.TheVariants as kind
use Rattle.ytt_base.specs.declared.fault.Place.{Place}
use Rattle.ytt_base.specs.declared.line.Line as held
use Rattle.ytt_base.specs.Outcomes.{Outcome, ◌>>=◌}
use Rattle.yaml_spec.specs.Blocks.{Chomp, Header, Body, is_spaces, lines_within, lines_of_spaces, found_indent, too_long, body_at, empty_body, body, header, ends_header, block_text, Block}
use Rattle.yaml_spec.specs.Bytes.{indent, bar, first, skip_white}
use Rattle.yaml_spec.specs.Held.{plain_lines}
use Rattle.yaml_spec.specs.Lines.{Line}
use Rattle.yaml_spec.specs.Quotes.{Cursor}
use Rattle.yaml_spec.specs.Refusals.{refused}
use Rattle.ytt_laws.proofs.Chains.{when_true, when_false}
use Rattle.yaml_blocks.specs.BlockLines.{indent_of, content_at, contents_of, lines_read, end_at}

-- ---- lines one by one

contents-within : (n : ℕ) (ls : List Line) → contents_of (Some n) ls ≡ map (λ (l : Line). drop n l.text) (lines_within n ls)
contents-within n [] = refl
contents-within n (l ∷ ls) = by (is_spaces l.text || nat_le n (indent l.text)) refl (contents-within n ls) where
  by : (v : Bool) → (is_spaces l.text || nat_le n (indent l.text)) ≡ v → contents_of (Some n) ls ≡ map (λ (l : Line). drop n l.text) (lines_within n ls)
      → contents_of (Some n) (l ∷ ls) ≡ map (λ (l : Line). drop n l.text) (lines_within n (l ∷ ls))
  by true e more = rw (contents_of, lines_within, e, more) refl
  by false e more = rw (contents_of, lines_within, e) refl

contents-spaces : (ls : List Line) → contents_of None ls ≡ map (λ (l : Line). []) (lines_of_spaces ls)
contents-spaces [] = refl
contents-spaces (l ∷ ls) = by (is_spaces l.text) refl (contents-spaces ls) where
  by : (v : Bool) → is_spaces l.text ≡ v → contents_of None ls ≡ map (λ (l : Line). []) (lines_of_spaces ls) → contents_of None (l ∷ ls) ≡ map (λ (l : Line). []) (lines_of_spaces (l ∷ ls))
  by true e more = rw (contents_of, lines_of_spaces, e, more) refl
  by false e more = rw (contents_of, lines_of_spaces, e) refl

map-length : {A B : Type 0} (f : A → B) (xs : List A) → length (map f xs) ≡ length xs
map-length f [] = refl
map-length f (x ∷ xs) = ap (λ n. suc n) (map-length f xs)

abbrev body_of : Option ℕ → List Line → Body
body_of n ls = record { contents = contents_of n ls; size = length (contents_of n ls) }

body-within : (n : ℕ) (ls : List Line) → body_at n ls ≡ body_of (Some n) ls
body-within n ls = rw (contents-within n ls, map-length (λ (l : Line). drop n l.text) (lines_within n ls)) refl

body-spaces : (ls : List Line) → empty_body ls ≡ body_of None ls
body-spaces ls = rw (contents-spaces ls, map-length {A = Line} {B = List ℕ} (λ (l : Line). []) (lines_of_spaces ls)) refl

body-indent : (least digit : ℕ) (ls : List Line) → body least digit ls ≡ (indent_of least digit ls >>= (λ o. Ok (body_of o ls)))
unfolding body indent_of
body-indent least (suc d) ls = ap Ok (body-within (least + d) ls)
body-indent least zero ls = by (found_indent least ls) refl where
  by : (f : Option ℕ) → found_indent least ls ≡ f → body least 0 ls ≡ (indent_of least 0 ls >>= (λ o. Ok (body_of o ls)))
  by None e = rw (body, indent_of, e) (ap Ok (body-spaces ls))
  by (Some n) e = among (too_long n ls) refl where
    among : (t : Option Place) → too_long n ls ≡ t → body least 0 ls ≡ (indent_of least 0 ls >>= (λ o. Ok (body_of o ls)))
    among None g = rw (body, indent_of, e, g) (ap Ok (body-within n ls))
    among (Some p) g = rw (body, indent_of, e, g) refl

text_and_size : Bool → Chomp → Body → Outcome (List ℕ × ℕ)
text_and_size is_literal chomp b = Ok (block_text is_literal chomp b.contents, b.size)

lines_read-body : (is_literal : Bool) (chomp : Chomp) (least digit : ℕ) (ls : List Line) → (body least digit ls >>= text_and_size is_literal chomp) ≡ lines_read is_literal chomp least digit ls
unfolding text_and_size
lines_read-body is_literal chomp least digit ls = rw (body-indent least digit ls) (by (indent_of least digit ls)) where
  by : (o : Outcome (Option ℕ)) → (o >>= (λ n. Ok (body_of n ls)) >>= text_and_size is_literal chomp) ≡ ◌>>=◌ {B = List ℕ × ℕ} o (λ n. Ok (block_text is_literal chomp (contents_of n ls), length (contents_of n ls)))
  by (Ok n) = refl
  by (Err f) = refl

pub contents-le : (o : Option ℕ) (ls : List held.Line) → length (contents_of o (plain_lines ls)) ≤ length ls
contents-le o [] = omega arith
contents-le o (l ∷ ls) = by (content_at o l.text) refl (contents-le o ls) where
  by : (c : Option (List ℕ)) → content_at o l.text ≡ c → length (contents_of o (plain_lines ls)) ≤ length ls → length (contents_of o (plain_lines (l ∷ ls))) ≤ length (l ∷ ls)
  by (Some t) e more = rw (contents_of, e) (omega arith)
  by None e more = rw (contents_of, e) (omega arith)

-- ---- what its header and its lines lead to

-- the text of the lines, the comment behind the header, and the place behind them
abbrev placed : Cursor → Header → List ℕ × ℕ → Outcome (List ℕ × List ℕ × Cursor)
placed c h r = Ok (r.0, skip_white h.rest, end_at c r.1)

body-placed : (is_literal : Bool) (h : Header) (c : Cursor) (o : Outcome Body)
    → (o >>= (λ (b : Body). Ok (block_text is_literal h.chomp b.contents, skip_white h.rest, end_at c b.size))) ≡ (o >>= text_and_size is_literal h.chomp >>= placed c h)
unfolding text_and_size
body-placed is_literal h c (Ok b) = refl
body-placed is_literal h c (Err f) = refl

pub Block-refused : (least : ℕ) (c : Cursor) (h : Header) → h ≡ header (drop 1 c.text) → ends_header h.rest ≡ false → Block least c ≡ refused kind.YamlForm c.place
unfolding Block
Block-refused least c h e t = let ends = rw e at t in when_false _ _ _ ends

pub Block-read : (least : ℕ) (c : Cursor) (is_literal : Bool) (h : Header) → is_literal ≡ (first c.text == bar) → h ≡ header (drop 1 c.text) → ends_header h.rest ≡ true
    → Block least c ≡ (lines_read is_literal h.chomp least h.digit c.below >>= placed c h)
unfolding Block
Block-read least c is_literal h b e t =
    let ends = rw e at t in
    rw (b, e)
    (when_true _ _ _ ends
    ∙ body-placed (first c.text == bar) (header (drop 1 c.text)) c (body least (header (drop 1 c.text)).digit c.below)
    ∙ ap (λ (o : Outcome (List ℕ × ℕ)). o >>= placed c (header (drop 1 c.text))) (lines_read-body (first c.text == bar) (header (drop 1 c.text)).chomp least (header (drop 1 c.text)).digit c.below))
