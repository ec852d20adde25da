use Rattle.std.proofs.Common.{refl}
use Rattle.star_tree.specs.Whole.{instruction_of, instructions_of}
use Rattle.star_unbuilt.specs.Places.{load_places_of}
use Rattle.star_unbuilt.proofs.Finding.{earlier_done, earlier_turn}
use Rattle.star_file.specs.Loads.{load_places}
use Rattle.star_file.proofs.loads.first_load.Goals as goal

pub loop-stmt-preserved : goal.loop-stmt-preserved
loop-stmt-preserved c =
    let p = c.args.program.now in
    earlier_turn _ c.loop-stmt.first c.see_load.new.first p.code c.loop-stmt.stmt-index c.stmt-item.result
    (λ ss. load_places (instructions_of p.file ss)) (load_places_of (instruction_of p.file c.stmt-item.result))
    (rw c.as_slice-stmt-items.ensures at c.loop-stmt-test.true) (rw c.as_slice-stmt-items.ensures at c.stmt-item.is) (λ ss. refl) c.loop-stmt.invariant c.see_load.ensures

pub returns : goal.returns
returns c =
    let p = c.args.program.now in
    earlier_done _ c.loop-stmt.first p.code c.loop-stmt.stmt-index (λ ss. load_places (instructions_of p.file ss))
    (rw c.as_slice-stmt-items.ensures at c.loop-stmt-test.false) refl c.loop-stmt.invariant
