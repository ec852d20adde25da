-- The indents of the lines of a block scalar.
use Rattle.std.proofs.Common.{◌≡◌, ◌≢◌, ℕ, zero, suc, ◌+◌, ◌-◌, ◌<◌, ◌≤◌, Bool, true, false, ◌&&◌, ◌==◌, nat_le, List, [], ◌∷◌, length, drop, IsUtf8, Option, Some, None, Ok, unwrap_or, refl, sym, ap, ◌∙◌, arith}
use Rattle.std.proofs.lemmas.Bool.Decides.{nat_tests}
use Rattle.std.proofs.Math.ListN.{drop_of_length-le}
use Rattle.std.specs.Str.{IsCharBoundary}
use Rattle.ytt_base.specs.declared.fault.FaultKind.TheVariants as kind
use Rattle.ytt_base.specs.declared.fault.Place.{Place}
use Rattle.yaml_spec.specs.Lines.{Line}
use Rattle.yaml_spec.specs.Refusals.{refused}
use Rattle.yaml_spec.specs.Blocks.{is_spaces, found_indent, too_long}
use Rattle.yaml_spec.specs.Bytes.{indent, space}
use Rattle.yaml_blocks.specs.BlockLines.{content_at, indent_of}
use Rattle.yaml_text.proofs.Indents.{indent-run}
use Rattle.yaml_text.proofs.Whites.{cut_behind}

spaces-all : (t : List ℕ) → is_spaces t ≡ true → indent t ≡ length t
spaces-all [] h = refl
spaces-all (b ∷ t) h = by (b == space) refl h (spaces-all t) where
  by : (v : Bool) → (b == space) ≡ v → (v && is_spaces t) ≡ true → (is_spaces t ≡ true → indent t ≡ length t) → indent (b ∷ t) ≡ length (b ∷ t)
  by true e h more = rw (indent, e) (ap (λ n. suc n) (more h))
  by false e h more = cc

spaces-not : (t : List ℕ) → is_spaces t ≡ false → indent t < length t
spaces-not [] h = cc
spaces-not (b ∷ t) h = by (b == space) refl h (spaces-not t) where
  by : (v : Bool) → (b == space) ≡ v → (v && is_spaces t) ≡ false → (is_spaces t ≡ false → indent t < length t) → indent (b ∷ t) < length (b ∷ t)
  by true e h more = rw (indent, e) (omega (arith, more h))
  by false e h more = rw (indent, e) (omega arith)

pub is_spaces-indent : (t : List ℕ) → (indent t == length t) ≡ is_spaces t
is_spaces-indent t = by (is_spaces t) refl where
  by : (v : Bool) → is_spaces t ≡ v → (indent t == length t) ≡ v
  by true e = let all = spaces-all t e in grind (arith, nat_tests)
  by false e = let less = spaces-not t e in grind (arith, nat_tests)

pub ruleset spaces = (indent-run, is_spaces-indent)

space_ascii : (b : ℕ) → (b == space) ≡ true → b < 128
space_ascii b h = grind (arith, nat_tests)

pub cut_at_indent : (t : List ℕ) (n : ℕ) → IsUtf8 t → n ≤ indent t → IsCharBoundary t n
cut_at_indent t n utf8 h = cut_behind (λ b. b == space) t n (rw (indent-run t) h) utf8 space_ascii

-- ---- what a line adds, where `n` is the content indent, or the line's length where there is none

pub content-indented : (o : Option ℕ) (t : List ℕ) (n : ℕ) → n ≡ unwrap_or o (length t) → n ≤ indent t → content_at o t ≡ Some (drop n t)
content-indented (Some m) t n e h = by (is_spaces t) refl where
  by : (v : Bool) → is_spaces t ≡ v → content_at (Some m) t ≡ Some (drop n t)
  by true s = rw (s, e) refl
  by false s = let le : nat_le m (indent t) ≡ true = grind (arith, nat_tests) in rw (s, le, e) refl
content-indented None t n e h = by (is_spaces t) refl where
  by : (v : Bool) → is_spaces t ≡ v → content_at None t ≡ Some (drop n t)
  by true s = rw (s, drop_of_length-le t {i = n} (omega arith)) refl
  by false s = absurd (omega (arith, spaces-not t s))

pub content-spaces : (o : Option ℕ) (t : List ℕ) (n : ℕ) → n ≡ unwrap_or o (length t) → indent t < n → indent t ≡ length t → content_at o t ≡ Some (drop (indent t) t)
content-spaces (Some m) t n e h s =
    let all : is_spaces t ≡ true = sym (is_spaces-indent t) ∙ grind (arith, nat_tests) in
    rw (all, drop_of_length-le t {i = m} (omega arith), drop_of_length-le t {i = indent t} (omega arith)) refl
content-spaces None t n e h s = absurd (omega arith)

pub content-none : (o : Option ℕ) (t : List ℕ) (n : ℕ) → n ≡ unwrap_or o (length t) → indent t < n → indent t ≢ length t → content_at o t ≡ None
content-none (Some m) t n e h s =
    let some : is_spaces t ≡ false = sym (is_spaces-indent t) ∙ grind (arith, nat_tests) in
    let less : nat_le m (indent t) ≡ false = grind (arith, nat_tests) in
    rw (some, less) refl
content-none None t n e h s =
    let some : is_spaces t ≡ false = sym (is_spaces-indent t) ∙ grind (arith, nat_tests) in
    rw some refl

-- ---- the content indent

pub indent_of-digit : (least digit : ℕ) (ls : List Line) → 0 < digit → indent_of least digit ls ≡ Ok (Some (least + digit - 1))
unfolding indent_of
indent_of-digit least zero ls h = absurd (omega arith)
indent_of-digit least (suc d) ls h = let less : least + suc d - 1 ≡ least + d = omega arith in rw less refl

pub indent_of-none : (least digit : ℕ) (ls : List Line) → digit ≡ 0 → found_indent least ls ≡ None → indent_of least digit ls ≡ Ok None
unfolding indent_of
indent_of-none least zero ls h f = rw (indent_of, f) refl
indent_of-none least (suc d) ls h f = absurd (omega arith)

pub indent_of-long : (least digit : ℕ) (ls : List Line) (n : ℕ) (p : Place) → digit ≡ 0 → found_indent least ls ≡ Some n → too_long n ls ≡ Some p → indent_of least digit ls ≡ refused kind.YamlForm p
unfolding indent_of
indent_of-long least zero ls n p h f t = rw (indent_of, f, t) refl
indent_of-long least (suc d) ls n p h f t = absurd (omega arith)

pub indent_of-found : (least digit : ℕ) (ls : List Line) (n : ℕ) → digit ≡ 0 → found_indent least ls ≡ Some n → too_long n ls ≡ None → indent_of least digit ls ≡ Ok (Some n)
unfolding indent_of
indent_of-found least zero ls n h f t = rw (indent_of, f, t) refl
indent_of-found least (suc d) ls n h f t = absurd (omega arith)
