-- A string in literal style reads back.
use Rattle.yaml_spec.specs.Refusals.{place_below}
use Rattle.ytt_base.specs.declared.fault.Place.{Place}
use Rattle.std.proofs.Common.{◌≡◌, ℕ, zero, suc, ◌+◌, ◌-◌, ◌≤◌, Bool, true, false, not, ◌&&◌, ◌||◌, ◌==◌, List, [], ◌∷◌, ◌++◌, length, drop, Some, None, Ok, refl, sym, ◌∙◌, ap, subst, append_assoc, arith, true≢false, if◌then◌else◌}
use Rattle.std.specs.List.{list_all}
use Rattle.std.proofs.lemmas.List.{append-nil, length-replicate, length-append}
use Rattle.std.proofs.Math.Seq.{drop-append_seam, drop-nil}
use Rattle.std.proofs.lemmas.Bool.{ne_eqb, eqb-true, le-leb, and_right, eq-eqb, or_parts, and_parts, not-true}
use Rattle.std.specs.Prelude.{chars, nat_le, map, replicate}
use Rattle.yaml_spec.specs.Bytes.{line_feed, space, tab, first, is_white, is_empty, indent}
use Rattle.yaml_spec.specs.Lines.{Line, numbered, start_line}
use Rattle.ytt_base.specs.Trees.{string}
use Rattle.yaml_spec.specs.Folding.{breaks}
use Rattle.yaml_spec.specs.Quotes.{Cursor}
use Rattle.yaml_spec.specs.Blocks.{Chomp, strip, clip, keep, Body, header, is_spaces, found_indent, too_long, lines_within, body_at, body, drop_empty_end, literal, end_breaks, block_text, Block}
use Rattle.yaml_spec.specs.Noted.{Comment}
use Rattle.yaml_spec.specs.Values.{value, noted, has_stray_note}
use Rattle.yaml_spec.specs.Text.{spaces, pieces, are_trimmed, final_breaks, literal_header, fits_literal, has_break, is_literal_char, last}
use Rattle.yaml_back.proofs.KeysBack.{leaf_value}
use Rattle.yaml_back.proofs.TextLines.{content_line, content_lines}

-- ---- pieces and what becomes of them

pub pieces_some : (s : List ℕ) → is_empty (pieces s) ≡ false
pieces_some [] = refl
pieces_some (b ∷ bs) = by_break (b == line_feed) (pieces bs)
  where
    by_break : (t : Bool) (ps : List (List ℕ)) → is_empty (elim t as (λ _. List (List ℕ)) [ true ↦ [] ∷ ps | false ↦ start_line b ps ]) ≡ false
    by_break true ps = refl
    by_break false [] = refl
    by_break false (q ∷ ps) = refl

pieces-join : (s : List ℕ) → literal (pieces s) ≡ s
pieces-join [] = refl
pieces-join (b ∷ bs) = by_break (pieces-join bs) (b == line_feed) refl (pieces bs) refl
  where
    by_break : literal (pieces bs) ≡ bs → (t : Bool) → (b == line_feed) ≡ t → (ps : List (List ℕ)) → pieces bs ≡ ps → literal (elim t as (λ _. List (List ℕ)) [ true ↦ [] ∷ ps | false ↦ start_line b ps ]) ≡ b ∷ bs
    by_break h true e [] p = absurd (let n = pieces_some bs in cc)
    by_break h true e (q ∷ ps) p = rw (eqb-true b line_feed e) (ap (λ l. line_feed ∷ l) (ap literal (sym p) ∙ h))
    by_break h false e [] p = absurd (let n = pieces_some bs in cc)
    by_break h false e (q ∷ []) p = ap (λ l. b ∷ l) (ap literal (sym p) ∙ h)
    by_break h false e (q ∷ r ∷ ps) p = ap (λ l. b ∷ l) (ap literal (sym p) ∙ h)

pieces-cons : (b : ℕ) (bs : List ℕ) → (b == line_feed) ≡ false → (q : List ℕ) × (ps : List (List ℕ)) × (pieces (b ∷ bs) ≡ (b ∷ q) ∷ ps)
pieces-cons b bs e = by (pieces bs) refl
  where
    by : (ps : List (List ℕ)) → pieces bs ≡ ps → (q : List ℕ) × (rest : List (List ℕ)) × (pieces (b ∷ bs) ≡ (b ∷ q) ∷ rest)
    by [] p = ([], [], rw (e, pieces, p) refl)
    by (q ∷ ps) p = (q, ps, rw (e, pieces, p) refl)

-- the pieces but for empty ones at the end
EndsFull : List (List ℕ) → Type 0
EndsFull [] = Unit {0}
EndsFull (a ∷ []) = is_empty a ≡ false
EndsFull (a ∷ b ∷ xs) = EndsFull (b ∷ xs)

empties : ℕ → List (List ℕ)
empties f = replicate f []

record Split (ps : List (List ℕ)) : Type 0 where
  full : List (List ℕ)
  rest : ℕ
  is : ps ≡ full ++ empties rest
  ends : EndsFull full

split : (ps : List (List ℕ)) → Split ps
unfolding EndsFull empties
split [] = record { full = []; rest = 0; is = refl; ends = tt }
split (p ∷ ps) = go (split ps)
  where
    go : Split ps → Split (p ∷ ps)
    go s = by s.full s.is s.ends p
      where
        by : (full : List (List ℕ)) → ps ≡ full ++ empties s.rest → EndsFull full → (p : List ℕ) → Split (p ∷ ps)
        by [] i e [] = record { full = []; rest = suc s.rest; is = ap (λ l. [] ∷ l) i; ends = tt }
        by [] i e (b ∷ bs) = record { full = (b ∷ bs) ∷ []; rest = s.rest; is = ap (λ l. (b ∷ bs) ∷ l) i; ends = refl }
        by (a ∷ xs) i e p = record { full = p ∷ a ∷ xs; rest = s.rest; is = ap (λ l. p ∷ l) i; ends = e }

drop_empties : (f : ℕ) → drop_empty_end (empties f) ≡ []
unfolding empties
drop_empties zero = refl
drop_empties (suc f) = rw (drop_empties f) refl

drop_end : (xs : List (List ℕ)) (f : ℕ) → EndsFull xs → drop_empty_end (xs ++ empties f) ≡ xs
unfolding EndsFull
drop_end [] f e = drop_empties f
drop_end (a ∷ []) f e = rw (drop_empties f, e) refl
drop_end (a ∷ b ∷ xs) f e = rw (drop_end (b ∷ xs) f e) (ap (λ (x : Bool). if x then [] else a ∷ b ∷ xs) (and_right (is_empty a) false refl))

final_empties : (f : ℕ) → final_breaks (empties f) ≡ f
unfolding empties
final_empties zero = refl
final_empties (suc f) = rw (final_empties f, length-replicate {A = List ℕ} f [], eq-eqb (f + 1) (suc f) (omega arith)) refl

split_length : (xs : List (List ℕ)) (f : ℕ) → length (xs ++ empties f) ≡ length xs + f
unfolding empties
split_length xs f = length-append xs (replicate f []) ∙ ap (λ n. length xs + n) (length-replicate f [])

final_split : (a : List ℕ) (xs : List (List ℕ)) (f : ℕ) → EndsFull (a ∷ xs) → final_breaks ((a ∷ xs) ++ empties f) ≡ f
unfolding EndsFull
final_split a [] f e = rw (e, final_empties f) refl
final_split a (b ∷ xs) f e =
    let l : (f + 1 == length (a ∷ b ∷ (xs ++ empties f))) ≡ false = ne_eqb (f + 1) _ (omega (arith, split_length xs f)) in
    rw (final_split b xs f e) (ap (λ (x : Bool). if x then suc f else f) (and_right (is_empty a) _ l))

literal_empties : (f : ℕ) → literal ([] ∷ empties f) ≡ breaks f
unfolding empties
literal_empties zero = refl
literal_empties (suc f) = ap (λ l. line_feed ∷ l) (literal_empties f)

literal_split : (a : List ℕ) (xs : List (List ℕ)) (f : ℕ) → literal ((a ∷ xs) ++ empties f) ≡ literal (a ∷ xs) ++ breaks f
unfolding empties
literal_split a [] zero = sym (append-nil a)
literal_split a [] (suc f) = ap (λ l. a ++ (line_feed ∷ l)) (literal_empties f)
literal_split a (b ∷ xs) f = ap (λ l. a ++ (line_feed ∷ l)) (literal_split b xs f) ∙ sym (append_assoc a (line_feed ∷ literal (b ∷ xs)) (breaks f))

-- ---- the lines

-- the pieces that have a line
kept : List (List ℕ) → List (List ℕ)
kept [] = []
kept (l ∷ []) = elim (is_empty l) [ true ↦ [] | false ↦ l ∷ [] ]
kept (l ∷ m ∷ ls) = l ∷ kept (m ∷ ls)

fewer : ℕ → ℕ
fewer zero = zero
fewer (suc f) = f

kept_empties : (f : ℕ) → kept (empties (suc f)) ≡ empties f
unfolding empties kept
kept_empties zero = refl
kept_empties (suc f) = ap (λ l. [] ∷ l) (kept_empties f)

kept_split : (a : List ℕ) (xs : List (List ℕ)) (f : ℕ) → EndsFull (a ∷ xs) → kept ((a ∷ xs) ++ empties f) ≡ (a ∷ xs) ++ empties (fewer f)
unfolding EndsFull kept empties fewer
kept_split a [] zero e = rw (e, kept) refl
kept_split a [] (suc f) e = ap (λ l. a ∷ l) (kept_empties f)
kept_split a (b ∷ xs) f e = ap (λ l. a ∷ l) (kept_split b xs f e)

pub indent_line : (m b : ℕ) (bs : List ℕ) → (b == space) ≡ false → indent (spaces m ++ (b ∷ bs)) ≡ m
indent_line zero b bs e = rw (e, indent) refl
indent_line (suc m) b bs e = ap suc (indent_line m b bs e)

pub full_line : (m b : ℕ) (bs : List ℕ) → (b == space) ≡ false → is_spaces (spaces m ++ (b ∷ bs)) ≡ false
full_line zero b bs e = rw e refl
full_line (suc m) b bs e = full_line m b bs e

pub no_space : (b : ℕ) → is_white b ≡ false → (b == space) ≡ false
no_space b e = (or_parts (b == space) (b == tab) e).0

within : (m : ℕ) (l : List ℕ) → not (is_white (first l)) ≡ true → (is_spaces (content_line m l) || nat_le m (indent (content_line m l))) ≡ true
within m [] e = refl
within m (b ∷ bs) e =
    let s = no_space b (not-true (is_white b) e) in
    rw (full_line m b bs s, indent_line m b bs s, le-leb m m (omega arith)) refl

-- what follows does not belong to the scalar
unfoldable pub Leaves : ℕ → List Line → Type 0
Leaves m [] = Unit {0}
Leaves m (l ∷ ls) = (is_spaces l.text ≡ false) × (nat_le m (indent l.text) ≡ false)

leaves-within : (m : ℕ) (rest : List Line) → Leaves m rest → lines_within m rest ≡ []
unfolding Leaves
leaves-within m [] h = refl
leaves-within m (l ∷ ls) h = rw (h.0, lines_within, h.1) refl

lines_within-content : (m : ℕ) (k : Place) (ps : List (List ℕ)) (rest : List Line) → are_trimmed ps ≡ true → Leaves m rest →
    lines_within m (numbered k (content_lines m ps) ++ rest) ≡ numbered k (content_lines m ps)
lines_within-content m k [] rest e h = leaves-within m rest h
lines_within-content m k (l ∷ []) rest e h = by_empty (is_empty l)
  where
    by_empty : (b : Bool) → (let ls : List (List ℕ) = elim b as (λ _. List (List ℕ)) [ true ↦ [] | false ↦ content_line m l ∷ [] ] in lines_within m (numbered k ls ++ rest) ≡ numbered k ls)
    by_empty true = leaves-within m rest h
    by_empty false = let t = and_parts (not (is_white (first l)) && not (is_white (last l))) true e in
        rw (within m l (and_parts (not (is_white (first l))) (not (is_white (last l))) t.0).0, lines_within, leaves-within m rest h) refl
lines_within-content m k (l ∷ n ∷ ls) rest e h =
    let t = and_parts (not (is_white (first l)) && not (is_white (last l))) (are_trimmed (n ∷ ls)) e in
    rw (within m l (and_parts (not (is_white (first l))) (not (is_white (last l))) t.0).0, lines_within, lines_within-content m (place_below k 1) (n ∷ ls) rest t.1 h) refl

drop-line : (m : ℕ) (l : List ℕ) → drop m (content_line m l) ≡ l
drop-line m [] = drop-nil m
drop-line m (b ∷ bs) = ap (λ n. drop n (spaces m ++ (b ∷ bs))) (sym (length-replicate m space)) ∙ drop-append_seam (spaces m) (b ∷ bs)

contents-kept : (m : ℕ) (k : Place) (ps : List (List ℕ)) → map (λ (l : Line). drop m l.text) (numbered k (content_lines m ps)) ≡ kept ps
unfolding kept
contents-kept m k [] = refl
contents-kept m k (l ∷ []) = by_empty (is_empty l)
  where
    by_empty : (b : Bool) → map (λ (l : Line). drop m l.text) (numbered k (elim b as (λ _. List (List ℕ)) [ true ↦ [] | false ↦ content_line m l ∷ [] ])) ≡ elim b as (λ _. List (List ℕ)) [ true ↦ [] | false ↦ l ∷ [] ]
    by_empty true = refl
    by_empty false = ap (λ t. t ∷ []) (drop-line m l)
contents-kept m k (l ∷ n ∷ ls) = rw (drop-line m l, contents-kept m (place_below k 1) (n ∷ ls)) refl

-- ---- the scalar

chomp_for : ℕ → Chomp
chomp_for zero = strip
chomp_for (suc zero) = clip
chomp_for (suc (suc f)) = keep

block_text-split : (a : List ℕ) (xs : List (List ℕ)) (f : ℕ) → EndsFull (a ∷ xs) → block_text true (chomp_for f) ((a ∷ xs) ++ empties (fewer f)) ≡ literal (a ∷ xs) ++ breaks f
unfolding block_text chomp_for fewer
block_text-split a xs zero e = rw (drop_end (a ∷ xs) 0 e) refl
block_text-split a xs (suc zero) e = rw (drop_end (a ∷ xs) 0 e) refl
block_text-split a xs (suc (suc f)) e =
    let n : length ((a ∷ xs) ++ empties (suc f)) - length (a ∷ xs) ≡ suc f = omega (arith, split_length (a ∷ xs) (suc f)) in
    rw (drop_end (a ∷ xs) (suc f) e) (ap (λ n. literal (a ∷ xs) ++ end_breaks keep false n) n)

body-first : (least m : ℕ) (l : Line) (ls : List Line) → is_spaces l.text ≡ false → indent l.text ≡ m → least ≤ m → body least 0 (l ∷ ls) ≡ Ok (body_at m (l ∷ ls))
unfolding body
body-first least m l ls s i h =
    let f : found_indent least (l ∷ ls) ≡ Some m = rw (s, found_indent, i, le-leb least m h) refl in
    let t : too_long m (l ∷ ls) ≡ None = rw (s, too_long) refl in
    rw (f, body, t) refl

block_of : (least : ℕ) (n : Place) (f : ℕ) (ls : List Line) (b : Body) → body least 0 ls ≡ Ok b →
    Block least (record { place = n; text = literal_header f; below = ls }) ≡ Ok (block_text true (chomp_for f) b.contents, [], record { place = place_below n b.size; text = []; below = drop b.size ls })
unfolding Block header chomp_for
block_of least n zero ls b e = rw e refl
block_of least n (suc zero) ls b e = rw e refl
block_of least n (suc (suc f)) ls b e = rw e refl

stray_none : (o : Bool) → has_stray_note o [] ≡ false
stray_none true = refl
stray_none false = refl

value_of_block : (left : ℕ) (open_place : Place) (least owner : ℕ) (n : Place) (f : ℕ) (cs : List Comment) (ls : List Line) (s : List ℕ) (end : Cursor) →
    Block least (record { place = n; text = literal_header f; below = ls }) ≡ Ok (s, [], end) →
    value left open_place least owner cs (record { place = n; text = literal_header f; below = ls }) ≡ Ok (leaf_value (string s) cs end.place.line)
unfolding value header noted
value_of_block left open_place least owner n zero cs ls s end e = rw (stray_none (n.line == owner), value, e) refl
value_of_block left open_place least owner n (suc zero) cs ls s end e = rw (stray_none (n.line == owner), value, e) refl
value_of_block left open_place least owner n (suc (suc f)) cs ls s end e = rw (stray_none (n.line == owner), value, e) refl

content-first : (m b : ℕ) (q : List ℕ) (ps : List (List ℕ)) → (more : List (List ℕ)) × (content_lines m ((b ∷ q) ∷ ps) ≡ (spaces m ++ (b ∷ q)) ∷ more)
content-first m b q [] = ([], refl)
content-first m b q (p ∷ ps) = (content_lines m (p ∷ ps), refl)

module _ (left : ℕ) (open_place : Place) (least owner : ℕ) (n : Place) (m : ℕ) (k : Place) (cs : List Comment) (rest : List Line) (l : least ≤ m) (h : Leaves m rest) where
  lines_of_literal : List (List ℕ) → List Line
  lines_of_literal ps = numbered k (content_lines m ps) ++ rest

  body-pieces : (b : ℕ) (q : List ℕ) (ps : List (List ℕ)) → are_trimmed ((b ∷ q) ∷ ps) ≡ true →
      body least 0 (lines_of_literal ((b ∷ q) ∷ ps)) ≡ Ok (record { contents = kept ((b ∷ q) ∷ ps); size = length (numbered k (content_lines m ((b ∷ q) ∷ ps))) })
  unfolding lines_of_literal
  body-pieces b q ps e =
      let c = content-first m b q ps in
      let t = and_parts (not (is_white b) && not (is_white (last (b ∷ q)))) (are_trimmed ps) e in
      let s = no_space b (not-true (is_white b) (and_parts (not (is_white b)) (not (is_white (last (b ∷ q)))) t.0).0) in
      let f : (x : List (List ℕ)) → x ≡ (spaces m ++ (b ∷ q)) ∷ c.0 → body least 0 (numbered k x ++ rest) ≡ Ok (body_at m (numbered k x ++ rest)) =
      λ x i. rw i (body-first least m (record { place = k; text = spaces m ++ (b ∷ q) }) (numbered (place_below k 1) c.0 ++ rest) (full_line m b q s) (indent_line m b q s) l) in
      f (content_lines m ((b ∷ q) ∷ ps)) c.1
      ∙ ap (λ (x : List Line). Ok (record { contents = map (λ (l : Line). drop m l.text) x; size = length x })) (lines_within-content m k ((b ∷ q) ∷ ps) rest e h)
      ∙ ap (λ (x : List (List ℕ)). Ok (record { contents = x; size = length (numbered k (content_lines m ((b ∷ q) ∷ ps))) })) (contents-kept m k ((b ∷ q) ∷ ps))

  value-pieces : (b : ℕ) (q : List ℕ) (ps full : List (List ℕ)) (f : ℕ) → are_trimmed ((b ∷ q) ∷ ps) ≡ true → (b ∷ q) ∷ ps ≡ full ++ empties f → EndsFull full →
      value left open_place least owner cs (record { place = n; text = literal_header (final_breaks ((b ∷ q) ∷ ps)); below = lines_of_literal ((b ∷ q) ∷ ps) })
      ≡ Ok (leaf_value (string (literal ((b ∷ q) ∷ ps))) cs (n.line + length (numbered k (content_lines m ((b ∷ q) ∷ ps)))))
  unfolding empties
  value-pieces b q ps [] zero e i d = absurd (cc)
  value-pieces b q ps [] (suc f) e i d = absurd (let j : [] ≡ b ∷ q = cc in cc)
  value-pieces b q ps (a ∷ xs) f e i d =
      let g : final_breaks ((b ∷ q) ∷ ps) ≡ f = ap final_breaks i ∙ final_split a xs f d in
      let c : kept ((b ∷ q) ∷ ps) ≡ (a ∷ xs) ++ empties (fewer f) = ap kept i ∙ kept_split a xs f d in
      let t : block_text true (chomp_for f) (kept ((b ∷ q) ∷ ps)) ≡ literal ((b ∷ q) ∷ ps) =
      ap (block_text true (chomp_for f)) c ∙ (block_text-split a xs f d ∙ (sym (literal_split a xs f) ∙ ap literal (sym i))) in
      let v = value_of_block left open_place least owner n f cs (lines_of_literal ((b ∷ q) ∷ ps)) _ _ (block_of least n f (lines_of_literal ((b ∷ q) ∷ ps)) _ (body-pieces b q ps e)) in
      rw g (v ∙ ap (λ (s : List ℕ). Ok (leaf_value (string s) cs (n.line + length (numbered k (content_lines m ((b ∷ q) ∷ ps)))))) t)

  Reads_pieces : List ℕ → List (List ℕ) → Type 0
  Reads_pieces s ps = value left open_place least owner cs (record { place = n; text = literal_header (final_breaks ps); below = lines_of_literal ps })
      ≡ Ok (leaf_value (string s) cs (n.line + length (numbered k (content_lines m ps))))

  pieces_full : (b : ℕ) (bs : List ℕ) → (b == line_feed) ≡ false → are_trimmed (pieces (b ∷ bs)) ≡ true → Reads_pieces (b ∷ bs) (pieces (b ∷ bs))
  unfolding Reads_pieces empties
  pieces_full b bs f e =
      let j = pieces-cons b bs f in
      let g = split ((b ∷ j.0) ∷ j.1) in
      let t : are_trimmed ((b ∷ j.0) ∷ j.1) ≡ true = ap are_trimmed (sym j.2) ∙ e in
      let r : Reads_pieces (literal ((b ∷ j.0) ∷ j.1)) ((b ∷ j.0) ∷ j.1) = value-pieces b j.0 j.1 g.full g.rest t g.is g.ends in
      let w : Reads_pieces (literal (pieces (b ∷ bs))) (pieces (b ∷ bs)) = subst (λ ps. Reads_pieces (literal ps) ps) (sym j.2) r in
      subst (λ s. Reads_pieces s (pieces (b ∷ bs))) (pieces-join (b ∷ bs)) w

  fits_pieces : (s : List ℕ) → has_break s ≡ true → (first s == line_feed) ≡ false → are_trimmed (pieces s) ≡ true → Reads_pieces s (pieces s)
  fits_pieces [] p f e = absurd (true≢false (sym p))
  fits_pieces (b ∷ bs) p f e = pieces_full b bs f e

  pub value-literal : (s : List ℕ) → fits_literal s ≡ true →
      value left open_place least owner cs (record { place = n; text = literal_header (final_breaks (pieces s)); below = numbered k (content_lines m (pieces s)) ++ rest })
      ≡ Ok (leaf_value (string s) cs (n.line + length (numbered k (content_lines m (pieces s)))))
  unfolding Reads_pieces lines_of_literal fits_literal
  value-literal s e =
      let g = and_parts _ (are_trimmed (pieces s)) e in
      let f = and_parts (has_break s && not (first s == line_feed)) (list_all is_literal_char (chars s)) g.0 in
      let d = and_parts (has_break s) (not (first s == line_feed)) f.0 in
      fits_pieces s d.0 (not-true (first s == line_feed) d.1) g.1
