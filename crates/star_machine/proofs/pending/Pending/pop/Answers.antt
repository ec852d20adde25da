use Rattle.std.proofs.Common.{◌≡◌, ℕ, ◌+◌, List, [], ◌∷◌, ◌++◌, Option, Some, None, length, sym, ap, ◌∙◌}
use Rattle.std.proofs.lemmas.List.{nil_from_length, reverse-append}
use Rattle.std.specs.Prelude.{reverse, MatchOption, option_to_list}
use Rattle.star_machine.specs.declared.pending.Item.{Item}
use Rattle.star_machine.proofs.pending.Pending.pop.Goals as goal

-- what an item off the end of a list makes of the list that is seen in the opposite order
popped : (o : Option Item) (before after seen : List Item) (n m : ℕ) → before ≡ after ++ option_to_list o → MatchOption o ((n ≡ 0) × (m ≡ 0)) (λ _. m + 1 ≡ n) → length before ≡ n → length after ≡ m
    → reverse before ≡ seen → MatchOption o ((seen ≡ []) × (reverse after ≡ [])) (λ x. seen ≡ x ∷ reverse after)
popped None before after seen n m e none l k is = (sym is ∙ ap reverse (nil_from_length before (l ∙ none.0)), ap reverse (nil_from_length after (k ∙ none.1)))
popped (Some x) before after seen n m e one l k is = sym is ∙ ap reverse e ∙ reverse-append after (x ∷ [])

pub returns : goal.returns
returns c =
    let old = c.self.inside.items in
    let new = c.pop.new.self in
    popped c.pop.result old.items new.items c.args.self.now old.len new.len c.pop.ensures.items c.pop.ensures.cases (sym old.ok.0) (sym new.ok.0) c.self.view_is
