-- Items that are taken off a list's end and put behind others stand there the last one first.
use Rattle.std.proofs.Common.{◌≡◌, ◌∙◌, List, [], ◌∷◌, ◌++◌, map as each, reverse, ap, sym}
use Rattle.std.proofs.lemmas.List.{append_assoc, append-nil, map-append, reverse-append}

module _ {A B : Type 0} (f : A → B) where
  -- one more
  pub one_parted : (all : List B) (left now : List A) (taken next : List B) (x : A) → left ≡ now ++ x ∷ [] → next ≡ taken ++ f x ∷ [] →
      each f left ++ reverse taken ≡ all → each f now ++ reverse next ≡ all
  one_parted all left now taken next x was is k =
      (λ i. each f now ++ (ap (λ (bs : List B). reverse bs) is ∙ reverse-append taken (f x ∷ [])) i)
      ∙ sym (append_assoc (each f now) (f x ∷ []) (reverse taken))
      ∙ (λ i. (sym (map-append f now (x ∷ [])) ∙ ap (λ (ys : List A). each f ys) (sym was)) i ++ reverse taken)
      ∙ k

  -- at the beginning nothing is taken
  pub none_parted : (all : List A) (taken : List B) → taken ≡ [] → each f all ++ reverse taken ≡ each f all
  none_parted all taken e = (λ i. each f all ++ reverse (e i)) ∙ append-nil (each f all)

  -- at the end nothing is left
  pub all_parted : (all : List B) (left : List A) (taken : List B) → left ≡ [] → each f left ++ reverse taken ≡ all → reverse taken ≡ all
  all_parted all left taken e k = (λ i. each f (sym e i) ++ reverse taken) ∙ k
