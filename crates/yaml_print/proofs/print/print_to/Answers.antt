use Rattle.std.proofs.Common.{[], sym, arith}
use Rattle.yaml_back.proofs.ReadsBack.{reads_alone}
use Rattle.yaml_print.proofs.print.print_to.Goals as goal

pub shape_of-buffer : goal.shape_of-buffer
shape_of-buffer g c = sym (c.finish.ensures _ _ (c.write_documents.ensures.behind _ [] c.new-printer.ensures)).same_buffer

pub returns-clause-bytes : goal.returns-clause-bytes
returns-clause-bytes g c = let f = c.finish.ensures _ _ (c.write_documents.ensures.behind _ [] c.new-printer.ensures) in grind (arith, f.bytes, f.same_out, c.as_slice.ensures)

pub returns-clause-cause : goal.returns-clause-cause
returns-clause-cause g c = let f = c.finish.ensures _ _ (c.write_documents.ensures.behind _ [] c.new-printer.ensures) in grind (arith, f.cause, f.same_out)

pub returns-clause-reads_back : goal.returns-clause-reads_back
returns-clause-reads_back g c = λ h w. reads_alone _ h w
