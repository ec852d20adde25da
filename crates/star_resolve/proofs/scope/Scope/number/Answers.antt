use Rattle.std.proofs.Common.{[], ◌∙◌, map as each}
use Rattle.std.specs.List.{position}
use Rattle.std.specs.Prelude.{bytes_eq, string_bytes}
use Rattle.star_spec.specs.Names.{box_of}
use Rattle.star_resolve.specs.Frames.{boxed}
use Rattle.star_resolve.proofs.OneBox.{place_of_box}
use Rattle.star_resolve.proofs.Sets.{position_same}
use Rattle.star_resolve.proofs.scope.Scope.number.Goals as goal

pub returns-clause-place : goal.returns-clause-place
returns-clause-place c =
    c.get_index_of.ensures.index
    ∙ position_same c.as_str.result.now c.self.inside.names.keys
    ∙ (λ i. position (bytes_eq (c.as_str.ensures i)) (c.self.view_is i))

pub returns-clause-boxes : goal.returns-clause-boxes
returns-clause-boxes c =
    c.get_index_of.ensures.index
    ∙ position_same c.as_str.result.now c.self.inside.names.keys
    ∙ place_of_box c.as_str.result.now (each string_bytes c.self.inside.names.keys) c.self.invariant
    ∙ (λ i. box_of (c.as_str.ensures i) (boxed 0 (c.self.view_is i) []))
