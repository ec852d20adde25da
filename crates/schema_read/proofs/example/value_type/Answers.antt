use Rattle.std.proofs.Common.{◌≡◌, ◌∙◌, ◌&&◌, false, ap, sym}
use Rattle.ytt_base.specs.Trees.{is_null}
use Rattle.ytt_base.specs.View.{tree_of}
use Rattle.star_steps.proofs.Meeting.{meets_same}
use Rattle.schema_check.specs.View.{schema_of}
use Rattle.schema_read.proofs.Examples.{no-null}
use Rattle.schema_read.proofs.example.value_type.Goals as goal
use Rattle.schema_read.proofs.example.value_type.Goals.{else-nullable-via-then-nullable+else-is_null, else-nullable-via-else-nullable}

pub returns : goal.returns
returns c = λ s.
    let tree = tree_of c.args.tree.now in
    let other : (c.args.nullable && is_null tree) ≡ false = elim c.else-nullable.branch [
      | else-nullable-via-then-nullable+else-is_null w ↦ (λ i. w.if-nullable.true i && is_null tree) ∙ sym w.is_null.ensures ∙ w.if-is_null.false
      | else-nullable-via-else-nullable w ↦ ap (λ b. b && is_null tree) w.if-nullable.false
    ] in
    meets_same schema_of c.example_type.result s _ _ (ap (λ m. m s) (no-null c.args.nullable c.args.place tree other)) (c.example_type.ensures s)
