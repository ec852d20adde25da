use Rattle.std.proofs.Common.{drop}
use Rattle.star_steps.specs.Meets.{state_in}
use Rattle.star_values.specs.Objects.{seen}
use Rattle.star_values.specs.View.{built_in}
use Rattle.schema_check.specs.View.{IsWhole, types_of}
use Rattle.schema_spec.specs.Reading.{member_types}
use Rattle.schema_read.proofs.Turning.{SoFar}
use Rattle.schema_read.proofs.item.+items.Given as goal

abbrev pub invariant-member_types-loop-item : goal.invariant-member_types-loop-item
invariant-member_types-loop-item l =
    let a = seen l.arena in
    IsWhole l.types
    × SoFar (member_types (built_in a.held l.items) (state_in a l.initial.steps)) (types_of l.types) (member_types (built_in a.held (drop l.item-index l.items))) (state_in a l.steps)
