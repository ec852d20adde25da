use Rattle.std.proofs.Common.{◌∙◌, arith, sym}
use Rattle.ytt_outside.specs.MemFiles.{is_below}
use Rattle.ytt_outside.proofs.Folders.{names_below-one_more}
use Rattle.ytt_outside.proofs.mem_files.names_below.Goals as goal

pub loop-left-preserved-in_ok-insert : goal.loop-left-preserved-in_ok-insert
loop-left-preserved-in_ok-insert c =
    let folder = c.args.folder.now in
    let path = c.as_str-path.result.now in
    let below = sym (c.is_below.ensures ∙ (λ i. is_below (c.as_bytes.ensures.value i) (c.as_bytes-in-loop-left.ensures.value i))) ∙ c.if-is_below.true in (
      omega arith,
      names_below-one_more folder c.args.entries.now c.loop-left.left c.index-entries-left.result path c.loop-left.names.keys c.insert.new.self.keys c.in_ok-from_str.field-0
          (omega arith) c.loop-left.invariant.0 c.index-entries-left.is c.as_str-path.ensures below (c.in_ok-from_str.ensures.ok ∙ c.name_below.ensures) c.loop-left.invariant.1 c.in_ok-insert.ensures.keys,
    )
