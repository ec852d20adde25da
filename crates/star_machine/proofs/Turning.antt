-- A turn that opens an alternative.
use Rattle.std.proofs.Common.{◌≡◌, ◌<◌, List, [], ◌∷◌, Some, refl, sym, ap, ◌∙◌}
use Rattle.std.specs.Prelude.{Bool, true, false, if◌then◌else◌}
use Rattle.ll.specs.Machine as ll
use Rattle.ll.proofs.Complete.{next_open, turns_down}
use Rattle.star_grammar.specs.declared.table.Choice.{Choice}
use Rattle.star_grammar.specs.declared.table.Rule.{Rule}
use Rattle.star_grammar.specs.declared.table.Symbol.{Symbol}
use Rattle.star_grammar.specs.declared.token.Token.{Token}
use Rattle.star_grammar.specs.Effects.{silent}
use Rattle.star_grammar.specs.Language.{language, Value, allowed, symbol_of, symbols_of, kind_of_token}
use Rattle.star_grammar.specs.Machine.{tables}
use Rattle.star_grammar.specs.Predict.{predict}
use Rattle.star_grammar.specs.Table.{body}
use Rattle.star_grammar.proofs.Checked.{looks, consistent}
use Rattle.star_grammar.proofs.Fills.{risen}
use Rattle.star_machine.specs.declared.pending.Item.{Item}
use Rattle.star_machine.specs.declared.pending.Item.TheVariants as item
use Rattle.star_machine.specs.Pending.{wants_rule, wanted, opened, items_of}
use Rattle.star_machine.specs.Turns.{next, turns}

items_wanted : (xs : List Symbol) (rest : List Item) → items_of (wanted xs rest) ≡ ll.wants language (symbols_of xs) (items_of rest)
items_wanted [] rest = refl
items_wanted (x ∷ xs) rest = ap (λ l. ll.want (symbol_of x) ∷ l) (items_wanted xs rest)

items_opened : (c : Choice) (rest : List Item) → items_of (opened c rest) ≡ ll.opened language c (items_of rest)
items_opened c rest = items_wanted _ _ ∙ ap (ll.wants language (symbols_of (body c))) (on (silent c))
  where
    on : (b : Bool) → items_of (if b then rest else item.Close c ∷ rest) ≡ (if b then items_of rest else ll.close c ∷ items_of rest)
    on true = refl
    on false = refl

pub went_on : (k : Token) (r : Rule) (c : Choice) (items after : List Item) (v : Value) → predict r (kind_of_token k.kind) ≡ c → allowed c v ≡ true → after ≡ opened c items
    → (next k (wants_rule r ∷ items) v ≡ next k after v) × (turns after < turns (wants_rule r ∷ items))
went_on k r c items after v e a is =
    let same : items_of after ≡ ll.opened language c (items_of items) = ap items_of is ∙ items_opened c items in (
      next_open language tables looks consistent risen k r c (items_of items) v (ap Some e) a ∙ ap (λ s. ll.next language tables k s v) (sym same),
      rw same (turns_down language tables looks consistent risen k r c (items_of items) (ap Some e)),
    )
