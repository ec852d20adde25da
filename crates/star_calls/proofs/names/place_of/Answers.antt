use Rattle.std.proofs.Common.{◌≡◌, Some, below_more, bytes_eq, false, refl, slice_get, sym, ap, ◌∙◌}
use Rattle.star_values.proofs.Slots.{some_same}
use Rattle.std.proofs.lemmas.Option.{slice_get_read}
use Rattle.star_calls.proofs.names.place_of.Goals as goal

pub returns-then-eq : goal.returns-then-eq
returns-then-eq c = record {
  field = c.index-named-at.result;
  there = slice_get_read c.args.named.now _ c.loop-at.at c.index-named-at.result refl c.loop-at-test.true c.index-named-at.is;
  within = c.loop-at-test.true;
  named = ap (bytes_eq c.args.name.now) (sym c.as_str.ensures) ∙ sym c.if-eq.ensures;
  before = c.loop-at.invariant;
}

pub loop-at-preserved : goal.loop-at-preserved
loop-at-preserved c =
    let f = c.index-named-at.result in
    let there : slice_get c.args.named.now c.loop-at.at ≡ Some f = slice_get_read c.args.named.now _ c.loop-at.at f refl c.loop-at-test.true c.index-named-at.is in
    let other : bytes_eq c.args.name.now f.name ≡ false = ap (bytes_eq c.args.name.now) (sym c.as_str.ensures) ∙ sym c.if-eq.ensures in
    below_more _ _ c.loop-at.invariant (λ g e. ap (λ g. bytes_eq c.args.name.now g.name) (some_same _ _ (sym e ∙ there)) ∙ other)
