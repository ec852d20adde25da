-- A text in quotes, a letter at a time.
use Rattle.std.proofs.Common.{◌≡◌, ℕ, zero, suc, ◌-◌, List, [], ◌∷◌, ◌++◌, length, drop, true, false, Option, Some, None, refl, sym, ap, ◌∙◌, append_assoc}
use Rattle.std.specs.Prelude.{option_and_then}
use Rattle.std.specs.Option.{option_map}
use Rattle.std.proofs.lemmas.Bool.{cond-true, cond-false}
use Rattle.star_grammar.specs.declared.token.Form.{Form}
use Rattle.star_grammar.specs.declared.token.Letter.{Letter}
use Rattle.star_grammar.specs.Pieces.{Span, span, joined, quoted, quoted_from, quotes, closes, letter_at, bytes_of}

pub quoted-skip : (n : ℕ) (f : Form) (t : List ℕ) → quoted_from n f t ≡ quoted f (drop n t)
quoted-skip zero f [] = refl
quoted-skip (suc n) f [] = refl
quoted-skip zero f (b ∷ bs) = refl
quoted-skip (suc n) f (b ∷ bs) = quoted-skip n f bs

-- what was read so far stands before what is read behind it
abbrev pub behind : List ℕ → Option Span → Option Span
behind bytes o = option_map (joined bytes) o

pub behind-nothing : (o : Option Span) → behind [] o ≡ o
behind-nothing None = refl
behind-nothing (Some s) = refl

behind-more : (xs ys : List ℕ) (o : Option Span) → behind (xs ++ ys) o ≡ behind xs (behind ys o)
behind-more xs ys None = refl
behind-more xs ys (Some s) = ap (λ l. Some (span l s.left)) (append_assoc xs ys s.bytes)

-- what a letter says, and then what is read behind it
abbrev onward : Form → List ℕ → Letter → Option Span
onward f more l = option_map (joined (bytes_of l.said)) (quoted_from (l.size - 1) f more)

goes_on : (f : Form) (b : ℕ) (more : List ℕ) → closes f (b ∷ more) ≡ false → quoted f (b ∷ more) ≡ option_and_then (onward f more) (letter_at f (b ∷ more))
goes_on f b more c = cond-false _ _ _ c

pub quoted-closed : (f : Form) (t more : List ℕ) (b : ℕ) → t ≡ b ∷ more → closes f t ≡ true → quoted f t ≡ Some (span [] (length t - quotes f))
quoted-closed f t more b e c = ap (quoted f) e ∙ cond-true _ _ _ (ap (closes f) (sym e) ∙ c) ∙ ap (λ l. Some (span [] (length l - quotes f))) (sym e)

pub quoted-wrong : (f : Form) (t more : List ℕ) (b : ℕ) → t ≡ b ∷ more → closes f t ≡ false → letter_at f t ≡ None → quoted f t ≡ None
quoted-wrong f t more b e c l = ap (quoted f) e ∙ goes_on f b more (ap (closes f) (sym e) ∙ c) ∙ ap (option_and_then (onward f more)) (ap (letter_at f) (sym e) ∙ l)

pub quoted-letter : (f : Form) (t more : List ℕ) (b : ℕ) (l : Letter) → t ≡ b ∷ more → closes f t ≡ false → letter_at f t ≡ Some l
    → quoted f t ≡ behind (bytes_of l.said) (quoted f (drop (l.size - 1) more))
quoted-letter f t more b l e c s =
    ap (quoted f) e ∙ goes_on f b more (ap (closes f) (sym e) ∙ c) ∙ ap (option_and_then (onward f more)) (ap (letter_at f) (sym e) ∙ s)
    ∙ ap (behind (bytes_of l.said)) (quoted-skip (l.size - 1) f more)

pub more : (f : Form) (all t rest : List ℕ) (b : ℕ) (bytes : List ℕ) (l : Letter) → t ≡ b ∷ rest → closes f t ≡ false → letter_at f t ≡ Some l
    → behind bytes (quoted f t) ≡ quoted f all → behind (bytes ++ bytes_of l.said) (quoted f (drop (l.size - 1) rest)) ≡ quoted f all
more f all t rest b bytes l e c s i =
    behind-more bytes (bytes_of l.said) (quoted f (drop (l.size - 1) rest)) ∙ ap (behind bytes) (sym (quoted-letter f t rest b l e c s)) ∙ i
