-- The brackets at the end of a comment that goes on.
use Rattle.std.proofs.Common.{◌≡◌, ℕ, ◌≤◌, List, [], ◌∷◌, ◌++◌, drop, length, codes, Bool, true, false, not, ◌==◌, ◌&&◌, Option, Some, None, Ok, Err, refl, sym, ap, ◌∙◌, if◌then◌else◌, arith, append_assoc}
use Rattle.std.proofs.lemmas.Bool.{and_left, and_parts, not-true}
use Rattle.std.proofs.lemmas.List.{drop-append-le}
use Rattle.ytt_base.specs.declared.fault.Fault.{Fault}
use Rattle.ytt_base.specs.declared.fault.Place.{Place}
use Rattle.ytt_base.specs.declared.fault.Stop.TheVariants as stop
use Rattle.ytt_base.specs.Outcomes.{place_at}
use Rattle.yaml_spec.specs.Bytes.{first, skip_white, is_white}
use Rattle.yaml_spec.specs.Noted.{is_code, code_in}
use Rattle.code_spec.specs.CodeReading.{CodeReader}
use Rattle.star_grammar.specs.declared.token.Origin.TheVariants as origin
use Rattle.star_grammar.specs.CodeReaders.{IsCodeReader, brackets, leaves_open, tokens_at}
use Rattle.star_grammar.specs.Tokens.{Tokens}
use Rattle.star_lines.specs.Depths.{depth_behind, depth_in}
use Rattle.star_lines.proofs.Telling.{counts}
use Rattle.star_lines.proofs.Going as lines
use Rattle.star_token.specs.declared.found.Tokens as held
use Rattle.star_token.specs.Outcome.{HasTokens}
use Rattle.template_spec.specs.Comments.{begins, begins_with_word, for_one_word, in_word, opening_words, without_end, without_end_of}
use Rattle.notes_read.specs.Depths.{depth_of, some_open, DepthsTell}

-- ---- what the tokens tell

pub counted : (file line d : ℕ) (text : List ℕ) (ts : held.Tokens) → HasTokens origin.Comment file line text (Ok ts) → Some (brackets d ts.tokens) ≡ depth_behind d text
counted file line d text ts h = sym (ap (depth_in d) h.0) ∙ counts (place_at file line) d text

pub uncounted : (file line d : ℕ) (text : List ℕ) (f : Fault) → HasTokens origin.Comment file line text (Err (stop.Fault f)) → None ≡ depth_behind d text
uncounted file line d text f h = sym (ap (depth_in d) h.1) ∙ counts (place_at file line) d text

pub ruleset depths = (counted, uncounted)

open_in : (ts : Tokens) → leaves_open ts ≡ some_open (depth_in 0 ts)
open_in (Ok ts) = refl
open_in (Err r) = refl

code_or_not : (b z : Bool) (o : Option ℕ) → z ≡ some_open o → (b && z) ≡ some_open (if b then o else None)
code_or_not true z o e = e
code_or_not false z o e = refl

pub tells : (r : CodeReader) → IsCodeReader r → (place : Place) (text : List ℕ) → (is_code text && r.is_open place (without_end (code_in text))) ≡ some_open (depth_of text)
tells r reads place text =
    let code : List ℕ = without_end (code_in text) in
    code_or_not (is_code text) (r.is_open place code) (depth_behind 0 code) (reads.is_open place code ∙ open_in (tokens_at place code) ∙ ap some_open (counts place 0 code))

-- ---- a line below

-- the word has no line end
in_line : List ℕ → Bool
in_line [] = true
in_line (x ∷ xs) = not (x == 10) && in_line xs

begins_same : (t m word : List ℕ) → in_line word ≡ true → begins (t ++ 10 ∷ m) word ≡ begins t word
unfolding in_line
begins_same [] m [] e = refl
begins_same [] m (x ∷ xs) e = and_left (x == 10) (begins m xs) (not-true (x == 10) (and_parts (not (x == 10)) (in_line xs) e).0)
begins_same (b ∷ bs) m [] e = refl
begins_same (b ∷ bs) m (x ∷ xs) e = ap (λ z. (x == b) && z) (begins_same bs m xs (and_parts (not (x == 10)) (in_line xs) e).1)

begins_fits : (t word : List ℕ) → begins t word ≡ true → length word ≤ length t
begins_fits t [] e = omega arith
begins_fits [] (x ∷ xs) e = cc
begins_fits (b ∷ bs) (x ∷ xs) e = let l = begins_fits bs xs (and_parts (x == b) (begins bs xs) e).1 in omega arith

first_same : (t m : List ℕ) → in_word (first (t ++ 10 ∷ m)) ≡ in_word (first t)
first_same [] m = refl
first_same (b ∷ bs) m = refl

by_front : (z : Bool) (t m word : List ℕ) → (z ≡ true → length word ≤ length t) → (z && not (in_word (first (drop (length word) (t ++ 10 ∷ m))))) ≡ (z && not (in_word (first (drop (length word) t))))
by_front false t m word h = refl
by_front true t m word h = ap (λ l. not (in_word (first l))) (drop-append-le (length word) t (10 ∷ m) (h refl)) ∙ ap not (first_same (drop (length word) t) m)

word_same : (t m word : List ℕ) → in_line word ≡ true → begins_with_word (t ++ 10 ∷ m) word ≡ begins_with_word t word
word_same t m word e = ap (λ z. z && not (in_word (first (drop (length word) (t ++ 10 ∷ m))))) (begins_same t m word e) ∙ by_front (begins t word) t m word (begins_fits t word)

word_fits : (t word : List ℕ) → begins_with_word t word ≡ true → length word ≤ length t
word_fits t word e = begins_fits t word (and_parts (begins t word) (not (in_word (first (drop (length word) t)))) e).0

by_white : (z : Bool) (x x' y m : List ℕ) → x' ≡ x ++ m → elim z as (λ _. List ℕ) [ true ↦ x' | false ↦ y ++ m ] ≡ elim z as (λ _. List ℕ) [ true ↦ x | false ↦ y ] ++ m
by_white true x x' y m e = e
by_white false x x' y m e = refl

white_same : (t m : List ℕ) → skip_white (t ++ 10 ∷ m) ≡ skip_white t ++ 10 ∷ m
white_same [] m = refl
white_same (b ∷ bs) m = by_white (is_white b) (skip_white bs) (skip_white (bs ++ 10 ∷ m)) (b ∷ bs) (10 ∷ m) (white_same bs m)

by_word : (z z' : Bool) (x x' y y' m : List ℕ) → z' ≡ z → (z ≡ true → x' ≡ x ++ m) → y' ≡ y ++ m → (if z' then x' else y') ≡ (if z then x else y) ++ m
by_word true true x x' y y' m e f g = f refl
by_word false false x x' y y' m e f g = g
by_word true false x x' y y' m e f g = cc
by_word false true x x' y y' m e f g = cc

all_in_line : List (List ℕ) → Bool
all_in_line [] = true
all_in_line (w ∷ ws) = in_line (for_one_word w) && all_in_line ws

without_same : (words : List (List ℕ)) (code m : List ℕ) → all_in_line words ≡ true → without_end_of words (code ++ 10 ∷ m) ≡ without_end_of words code ++ 10 ∷ m
unfolding all_in_line
without_same [] code m e = refl
without_same (w ∷ ws) code m e =
    let h = and_parts (in_line (for_one_word w)) (all_in_line ws) e in
    let long : List ℕ = for_one_word w in
    by_word (begins_with_word (skip_white code) long) (begins_with_word (skip_white (code ++ 10 ∷ m)) long) (w ++ drop (length long) (skip_white code)) (w ++ drop (length long) (skip_white (code ++ 10 ∷ m))) (without_end_of ws code) (without_end_of ws (code ++ 10 ∷ m)) (10 ∷ m)
    (ap (λ t. begins_with_word t long) (white_same code m) ∙ word_same (skip_white code) m long h.0)
    (λ z. ap (λ t. w ++ drop (length long) t) (white_same code m) ∙ ap (λ l. w ++ l) (drop-append-le (length long) (skip_white code) (10 ∷ m) (word_fits (skip_white code) long z)) ∙ sym (append_assoc w (drop (length long) (skip_white code)) (10 ∷ m)))
    (without_same ws code m h.1)

words_in_line : all_in_line opening_words ≡ true
unfolding all_in_line in_line
words_in_line = refl

mark_in_line : in_line (codes "#@ ") ≡ true
unfolding in_line
mark_in_line = refl

by_code : (z z' : Bool) (o o' : Option ℕ) (n : ℕ) (end : Option ℕ) → z' ≡ z → (z ≡ true → o ≡ Some n → o' ≡ end) → (if z then o else None) ≡ Some n → (if z' then o' else None) ≡ end
by_code true true o o' n end e f h = f refl h
by_code false false o o' n end e f h = cc
by_code true false o o' n end e f h = cc
by_code false true o o' n end e f h = cc

pub goes_on : (text code : List ℕ) (n : ℕ) → depth_of text ≡ Some n → depth_of (text ++ 10 ∷ code) ≡ depth_behind n code
goes_on text code n h =
    let shorter : List ℕ = without_end (code_in text) in
    by_code (is_code text) (is_code (text ++ 10 ∷ code)) (depth_behind 0 shorter) (depth_behind 0 (without_end (code_in (text ++ 10 ∷ code)))) n (depth_behind n code) (begins_same text code (codes "#@ ") mark_in_line)
    (λ z d. ap (λ t. depth_behind 0 (without_end t)) (drop-append-le 3 text (10 ∷ code) (begins_fits text (codes "#@ ") z)) ∙ ap (depth_behind 0) (without_same opening_words (code_in text) code words_in_line)
    ∙ lines.goes_on 0 0 n shorter code (omega arith) d)
    h

pub depths_tell : DepthsTell
depths_tell = record { tells = tells; goes_on = goes_on }
