-- Nothing stands behind the text's end.
use Rattle.std.proofs.Common.{◌≡◌, ℕ, List, [], ◌∷◌, ◌++◌, refl, sym, ap, ◌∙◌, arith, append_assoc}
use Rattle.std.specs.Prelude.{Bool, true, false, not, ◌&&◌, if◌then◌else◌}
use Rattle.ll.specs.Grammar.{terminal, rule, Symbols, done, token, node, Parts, IsWhole, spell, Parses, Front}
use Rattle.ll.proofs.Check.{every, every_at}
use Rattle.star_grammar.specs.declared.start.Start.{Start}
use Rattle.star_grammar.specs.declared.table.Choice.{Choice}
use Rattle.star_grammar.specs.declared.table.Kind.{Kind}
use Rattle.star_grammar.specs.declared.table.Kind.TheVariants as kind
use Rattle.star_grammar.specs.declared.table.Terminal.{Terminal}
use Rattle.star_grammar.specs.declared.table.Terminal.TheVariants as a_terminal
use Rattle.star_grammar.specs.declared.token.Mark.{Mark}
use Rattle.star_grammar.specs.declared.token.Mark.TheVariants as mark
use Rattle.star_grammar.specs.declared.token.Token.{Token}
use Rattle.star_grammar.specs.declared.token.TokenKind.{TokenKind}
use Rattle.star_grammar.specs.declared.token.TokenKind.TheVariants as a_token
use Rattle.star_grammar.specs.Effects.{takes}
use Rattle.star_grammar.specs.Language.{language, Value, kind_of_token, kind_of_mark, symbols_of}
use Rattle.star_grammar.specs.Reading.{entry_of, rule_of, empty_of}
use Rattle.star_grammar.specs.Table.{body}
use Rattle.star_grammar.specs.Tokens.{is_end, ends}
use Rattle.star_grammar.proofs.Checked.{all_kinds, all_choices, consistent}
use Rattle.star_grammar.proofs.Numbers.{kinds, choices}

abbrev pub is_last : Kind → Bool
is_last k = takes (a_terminal.Passed kind.TextEnd) k

-- no token of this kind stands there
abbrev other : Terminal → Kind → Bool
other a k = not (takes a k && is_last k)

abbrev all_other : Symbols language → Bool
all_other [] = true
all_other (terminal a ∷ xs) = if every (other a) kinds then all_other xs else false
all_other (rule r ∷ xs) = all_other xs

are_other : every (λ c. all_other (symbols_of (body c))) choices ≡ true
are_other = refl

body_other : (c : Choice) → all_other (symbols_of (body c)) ≡ true
unfolding all_choices
body_other c = every_at all_choices (λ c. all_other (symbols_of (body c))) are_other c

apart : (a : Terminal) (k : Kind) → every (other a) kinds ≡ true → takes a k ≡ true → is_last k ≡ true → ⊥
unfolding all_kinds
apart a k all t l = on (takes a k) (is_last k) t l (every_at all_kinds (other a) all k)
  where
    on : (b c : Bool) → b ≡ true → c ≡ true → not (b && c) ≡ true → ⊥
    on true true e f h = cc
    on true false e f h = cc
    on false c e f h = cc

both_of : (b c : Bool) → (if b then c else false) ≡ true → (b ≡ true) × (c ≡ true)
both_of true c e = (refl, e)
both_of false c e = absurd (grind arith)

heads : (a b : Token) (xs ys : List Token) → a ∷ xs ≡ b ∷ ys → (a ≡ b) × (xs ≡ ys)
heads a b xs ys e = (cc, cc)

-- The text's end stands behind all that has these symbols.
behind : (s : Parts language) (xs : Symbols language) (v w : Value) → all_other xs ≡ true → IsWhole language xs s v w → (ts before rest : List Token) (k : Token) → is_last (kind_of_token k.kind) ≡ true
    → spell s ts ≡ before ++ k ∷ rest → (more : List Token) × (ts ≡ more ++ k ∷ rest)
behind done [] v w o e ts before rest k l is = (before, is)
behind done (terminal a ∷ xs) v w o e ts before rest k l is = absurd e
behind done (rule r ∷ xs) v w o e ts before rest k l is = absurd e
behind (token t s) [] v w o e ts before rest k l is = absurd e
behind (token t s) (terminal a ∷ xs) v w o e ts before rest k l is =
    let both = both_of (every (other a) kinds) (all_other xs) o in
    on before is (λ bs same. behind s xs e.0 w both.1 e.2 ts bs rest k l same)
  where
    on : (bs : List Token) → t ∷ spell s ts ≡ bs ++ k ∷ rest → ((cs : List Token) → spell s ts ≡ cs ++ k ∷ rest → (more : List Token) × (ts ≡ more ++ k ∷ rest)) → (more : List Token) × (ts ≡ more ++ k ∷ rest)
    on [] same f =
        let both = both_of (every (other a) kinds) (all_other xs) o in
        let first : t ≡ k = (heads t k (spell s ts) rest same).0 in
        absurd (apart a (kind_of_token k.kind) both.0 (rw first at (consistent.taken a t v e.0 e.1)) l)
    on (b ∷ bs) same f = f bs (heads t b (spell s ts) (bs ++ k ∷ rest) same).1
behind (token t s) (rule r ∷ xs) v w o e ts before rest k l is = absurd e
behind (node c inner s) [] v w o e ts before rest k l is = absurd e
behind (node c inner s) (terminal a ∷ xs) v w o e ts before rest k l is = absurd e
behind (node c inner s) (rule r ∷ xs) v w o e ts before rest k l is =
    let first = behind inner (language.body c) v e.0 (body_other c) e.3 (spell s ts) before rest k l is in
    behind s xs (language.finish c e.0) w o e.4 ts first.0 rest k l first.1

only : (e k : Token) (more rest : List Token) → e ∷ [] ≡ more ++ k ∷ rest → rest ≡ []
only e k [] rest is = sym (heads e k [] rest is).1
only e k (x ∷ []) rest is = absurd (let h : [] ≡ k ∷ rest = (heads e x [] (k ∷ rest) is).1 in cc)
only e k (x ∷ y ∷ more) rest is = absurd (let h : [] ≡ y ∷ (more ++ k ∷ rest) = (heads e x [] (y ∷ (more ++ k ∷ rest)) is).1 in cc)

-- a whole text that begins with tokens that end has no more
none_behind : (from : Start) (s : Parts language) (w : Value) → IsWhole language (rule (rule_of from) ∷ terminal (a_terminal.Passed kind.TextEnd) ∷ []) s (empty_of from) w
    → (before rest : List Token) (k : Token) → is_last (kind_of_token k.kind) ≡ true → spell s [] ≡ before ++ k ∷ rest → rest ≡ []
none_behind from done w e before rest k l is = absurd e
none_behind from (token t s) w e before rest k l is = absurd e
none_behind from (node c inner done) w e before rest k l is = absurd e.4
none_behind from (node c inner (node d more s)) w e before rest k l is = absurd e.4
none_behind from (node c inner (token t done)) w e before rest k l is =
    let first = behind inner (language.body c) (empty_of from) e.0 (body_other c) e.3 (t ∷ []) before rest k l is in
    only t k first.0 rest first.1
none_behind from (node c inner (token t (token u s))) w e before rest k l is = absurd e.4.2
none_behind from (node c inner (token t (node d more s))) w e before rest k l is = absurd e.4.2

-- ---- tokens that end

last_mark : (m : Mark) → is_end (a_token.Mark m) ≡ true → is_last (kind_of_mark m) ≡ true
last_mark mark.TextEnd e = refl
last_mark m e = absurd (grind arith)

last_kind : (k : TokenKind) → is_end k ≡ true → is_last (kind_of_token k) ≡ true
last_kind (a_token.Name x) e = absurd (grind arith)
last_kind (a_token.Int z) e = absurd (grind arith)
last_kind (a_token.Text t) e = absurd (grind arith)
last_kind (a_token.Mark m) e = last_mark m e

end_of : (ts : List Token) → ends ts ≡ true → (before : List Token) × (k : Token) × (ts ≡ before ++ k ∷ []) × (is_last (kind_of_token k.kind) ≡ true)
end_of [] e = absurd (grind arith)
end_of (k ∷ []) e = ([], k, refl, last_kind k.kind e)
end_of (k ∷ j ∷ ks) e =
    let q = end_of (j ∷ ks) e in
    (k ∷ q.0, q.1, ap (λ l. k ∷ l) q.2, q.3)

-- tokens that end, and begin some text, are it
pub is_all : (from : Start) (limit : ℕ) (ts : List Token) → ends ts ≡ true → Front language (entry_of from) limit ts → (w : Value) × Parses language (entry_of from) limit ts w
is_all from limit ts e f =
    let q = end_of ts e in
    let p = f.text in
    let same : spell p.source [] ≡ q.0 ++ q.1 ∷ f.rest = p.spelled ∙ ap (λ l. l ++ f.rest) q.2 ∙ append_assoc q.0 (q.1 ∷ []) f.rest in
    let none : f.rest ≡ [] = none_behind from p.source f.value p.whole q.0 f.rest q.1 q.3 same in
    let whole : spell p.source [] ≡ ts = same ∙ ap (λ l. q.0 ++ q.1 ∷ l) none ∙ sym q.2 in
    (f.value, record { source = p.source; spelled = whole; whole = p.whole; low = p.low })
