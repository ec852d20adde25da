use Rattle.std.proofs.Common.{◌≡◌, ◌==◌, false, length, rules}
use Rattle.text_template.proofs.Putting.{text_put}
use Rattle.text_template.proofs.pieces.put_text.Goals as goal

pub returns : goal.returns
returns c =
    let some : (length c.args.text.now == 0) ≡ false = search rules in
    λ file. text_put file c.args.text.now c.args.pieces.now c.put.new.pieces _ c.put.result some c.in_ok-of.ensures c.put.ensures
