-- Lines that are put behind one another.
use Rattle.std.proofs.Common.{◌≡◌, ℕ, ◌+◌, ◌<◌, ◌≤◌, List, [], ◌∷◌, ◌++◌, length, drop, get_or, sym, ap, ◌∙◌, append_assoc, append-nil}
use Rattle.std.proofs.lemmas.List.{drop_more, drop_all}
use Rattle.ytt_base.specs.declared.line.Line.{Line}
use Rattle.world_spec.specs.StarFiles.{lines_text}
use Rattle.yaml_spec.specs.Held.{plain_lines}

abbrev text_of : List Line → List ℕ
text_of ls = lines_text (plain_lines ls)

-- one more line
pub joined_turn : (all old mid new : List ℕ) (ls : List Line) (j : ℕ) (l : Line) → j < length ls → l ≡ get_or ls j l → mid ≡ old ++ l.text → new ≡ mid ++ 10 ∷ [] →
    old ++ text_of (drop j ls) ≡ all → new ++ text_of (drop (j + 1) ls) ≡ all
joined_turn all old mid new ls j l lt here h g k =
    let rest = text_of (drop (j + 1) ls) in
    ap (λ t. t ++ rest) (g ∙ ap (λ t. t ++ 10 ∷ []) h)
    ∙ append_assoc (old ++ l.text) (10 ∷ []) rest
    ∙ append_assoc old l.text (10 ∷ rest)
    ∙ ap (λ ks. old ++ text_of ks) (ap (λ x. x ∷ drop (j + 1) ls) here ∙ sym (drop_more ls j l lt))
    ∙ k

-- all lines
pub joined_done : (all now : List ℕ) (ls : List Line) (j : ℕ) → length ls ≤ j → now ++ text_of (drop j ls) ≡ all → now ≡ all
joined_done all now ls j le k = sym (append-nil now) ∙ ap (λ ks. now ++ text_of ks) (sym (drop_all j ls le)) ∙ k
